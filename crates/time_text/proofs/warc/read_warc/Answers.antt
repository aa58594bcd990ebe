use Rattle.std.proofs.Common.{◌≡◌, ℕ, List, Bool, true, false, not, sym, ap, ◌∙◌}
use Rattle.std.specs.Prelude.{Ok, bytes_eq}
use Rattle.std.proofs.lemmas.Bool.{not-true, not-false, both_ways}
use Rattle.std.proofs.lemmas.Slice.Eq.{bytes_eq-Decides}
use Rattle.std.proofs.lemmas.Result.{err_from_is_err_and}
use Rattle.time_text.specs.Texts.{InRange, warc_date}
use Rattle.time_text.proofs.WarcLemmas.{other_digits, other_date, other_marks, same_marks}
use Rattle.time_text.proofs.DateLaws.{warc_date_injective}
use Rattle.time_text.proofs.warc.read_warc.Goals as goal

-- the text is no date's
abbrev IsOther : List ℕ → Type 0
IsOther text = (date : ℕ) → InRange date → ¬ (text ≡ warc_date date)

pub returns-in_default-clause-refused : goal.returns-in_default-clause-refused
unfolding warc_date
returns-in_default-clause-refused c = λ date fits e. c.in_default.ensures _ e

pub returns-in_default-clause-reads_back : goal.returns-in_default-clause-reads_back
unfolding warc_date
returns-in_default-clause-reads_back c = λ date fits e. absurd (c.in_default.ensures _ e)

digits_are_other : (c : goal.After-from_residual) → IsOther c.args.text.now
digits_are_other c = other_digits c.args.text.now c.in-Some.digits c.in-Some.ensures c.in_err-civil.ensures

pub returns-in_err-civil-clause-refused : goal.returns-in_err-civil-clause-refused
returns-in_err-civil-clause-refused c =
    let exit = err_from_is_err_and c.from_residual.result c.from_residual.ensures.1 in
    rw exit.1 (digits_are_other c)

pub returns-in_err-civil-clause-reads_back : goal.returns-in_err-civil-clause-reads_back
returns-in_err-civil-clause-reads_back c = λ date fits e. absurd (digits_are_other c date fits e)

date_is_other : (c : goal.After-from_residual-in_err-date) → IsOther c.args.text.now
date_is_other c =
    other_date c.args.text.now c.in-Some.digits c.in_ok-civil.civil c.in-Some.ensures c.in_ok-civil.ensures.1 c.in_err-date.ensures

pub returns-in_err-date-clause-refused : goal.returns-in_err-date-clause-refused
returns-in_err-date-clause-refused c =
    let exit = err_from_is_err_and c.from_residual-in_err-date.result c.from_residual-in_err-date.ensures.1 in
    rw exit.1 (date_is_other c)

pub returns-in_err-date-clause-reads_back : goal.returns-in_err-date-clause-reads_back
returns-in_err-date-clause-reads_back c = λ date fits e. absurd (date_is_other c date fits e)

-- what the test of the texts says
test : (a b : List ℕ) (t : Bool) → t ≡ not (bytes_eq a b) → (t ≡ false → a ≡ b) × (t ≡ true → ¬ (a ≡ b))
test a b t is = (
  λ same. (bytes_eq-Decides a b).0 (not-false _ (sym is ∙ same)),
  λ other e. both_ways (bytes_eq a b) (not-true _ (sym is ∙ other)) ((bytes_eq-Decides a b).1 e),
)

marks_are_other : (c : goal.Then-ne) → IsOther c.args.text.now
marks_are_other c =
    let other = (test c.as_slice.result.now c.args.text.now c.ne.result c.ne.ensures).1 c.if-ne.true in
    other_marks c.args.text.now c.in-Some.digits c.in_ok-civil.civil c.in-Some.ensures c.in_ok-civil.ensures.1
    (λ e. other (c.as_slice.ensures ∙ c.of-written.ensures ∙ e))

pub returns-then-ne-clause-refused : goal.returns-then-ne-clause-refused
returns-then-ne-clause-refused c = marks_are_other c

pub returns-then-ne-clause-reads_back : goal.returns-then-ne-clause-reads_back
returns-then-ne-clause-reads_back c = λ date fits e. absurd (marks_are_other c date fits e)

same : (c : goal.Else-ne) → c.args.text.now ≡ warc_date c.in_ok-date.date
same c =
    let written = (test c.as_slice.result.now c.args.text.now c.ne.result c.ne.ensures).0 c.if-ne.false in
    same_marks c.args.text.now c.in_ok-civil.civil c.in_ok-date.date c.in_ok-date.ensures.1 (sym c.of-written.ensures ∙ sym c.as_slice.ensures ∙ written)

pub returns-clause-read : goal.returns-clause-read
returns-clause-read c = (c.in_ok-date.ensures.0, same c)

pub returns-clause-reads_back : goal.returns-clause-reads_back
returns-clause-reads_back c = λ date fits e. ap Ok (warc_date_injective c.in_ok-date.date date (sym (same c) ∙ e))
