use Rattle.std.proofs.Common.{◌≡◌, Option, Some, ap, sym, subst, ◌∙◌}
use Rattle.std.specs.Prelude.{IfSome}
use Rattle.cdxj_line.specs.Lines.{IsWritable}
use Rattle.cdxj_line.specs.steps.Shown.{Shows}
use Rattle.cdxj_line.specs.declared.line.Line.{Line}
use Rattle.cdxj_line.proofs.Whole.{not_differing, same_text, shown_text}
use Rattle.cdxj_line.proofs.read.read_line.Goals as goal

pub returns-in_default-clause-reads_back : goal.returns-in_default-clause-reads_back
returns-in_default-clause-reads_back c = λ line is text. absurd (c.in_default.ensures.found line is text)

pub returns-in_default-clause-none : goal.returns-in_default-clause-none
returns-in_default-clause-none c = λ line is text. c.in_default.ensures.found line is text

pub returns-in_default-2-clause-reads_back : goal.returns-in_default-2-clause-reads_back
returns-in_default-2-clause-reads_back c = λ line is text.
    let shows = c.in-Some.ensures.found line is text in
    absurd (c.in_default-2.not-Some line (c.in_ok-line.ensures.reads_back line is shows.date shows.members))

pub returns-in_default-2-clause-none : goal.returns-in_default-2-clause-none
returns-in_default-2-clause-none c = λ line is text.
    let shows = c.in-Some.ensures.found line is text in
    c.in_default-2.not-Some line (c.in_ok-line.ensures.reads_back line is shows.date shows.members)

pub returns-then-ne-clause-reads_back : goal.returns-then-ne-clause-reads_back
returns-then-ne-clause-reads_back c = λ line is text.
    let shows = c.in-Some.ensures.found line is text in
    let found : c.in_ok-line.field-0 ≡ Some line = c.in_ok-line.ensures.reads_back line is shows.date shows.members in
    let same : c.in-Some-2.line ≡ line = cc (found, c.in-Some-2.is) in
    absurd (same_text c.as_slice.result.now c.in-Some.parts.key.now c.if-ne.ensures (c.as_slice.ensures ∙ ap (λ (l : Line). l.key) same ∙ sym shows.key))

pub returns-then-ne-clause-none : goal.returns-then-ne-clause-none
returns-then-ne-clause-none c = λ line is text.
    let shows = c.in-Some.ensures.found line is text in
    let found : c.in_ok-line.field-0 ≡ Some line = c.in_ok-line.ensures.reads_back line is shows.date shows.members in
    let same : c.in-Some-2.line ≡ line = cc (found, c.in-Some-2.is) in
    same_text c.as_slice.result.now c.in-Some.parts.key.now c.if-ne.ensures (c.as_slice.ensures ∙ ap (λ (l : Line). l.key) same ∙ sym shows.key)

pub returns-clause-reads_back : goal.returns-clause-reads_back
returns-clause-reads_back c = λ line is text.
    let shows = c.in-Some.ensures.found line is text in
    let found : c.in_ok-line.field-0 ≡ Some line = c.in_ok-line.ensures.reads_back line is shows.date shows.members in
    cc (found, c.in-Some-2.is)

pub returns-clause-some : goal.returns-clause-some
returns-clause-some c =
    let key = sym (sym c.as_slice.ensures ∙ not_differing c.as_slice.result.now c.in-Some.parts.key.now c.if-ne.ensures) in
    let at : c.in_ok-line.field-0 ≡ Some c.in-Some-2.line = cc (c.in-Some-2.is) in
    let writable = subst (λ (o : Option Line). IfSome o IsWritable) at c.in_ok-line.ensures.writable in
    let dated = subst (λ (o : Option Line). IfSome o (λ line. line.date ≡ c.in-Some.parts.date)) at c.in_ok-line.ensures.dated in
    let shows = subst (λ (o : Option Line). IfSome o (λ line. Shows line c.in-Some.parts.members)) at c.in_ok-line.ensures.some in
    (writable, shown_text c.in-Some-2.line c.in-Some.parts c.args.text.now c.in-Some.ensures.some key (sym dated) shows)
