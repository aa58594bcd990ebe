use Rattle.std.proofs.Common.{◌≡◌, ◌++◌, ℕ, length, drop, refl}
use Rattle.std.specs.Prelude.{MatchResult}
use Rattle.std.proofs.lemmas.Bool.{false≢true}
use Rattle.time_text.specs.Texts.{InRange, all_digits}
use Rattle.time_text.proofs.Earliest.{beginnings, IsRead, read_padded, names_itself}
use Rattle.time_text.proofs.digits.read_time.Goals as goal

pub returns-then-not-ends_with_a_unit-clause-reads_back : goal.returns-then-not-ends_with_a_unit-clause-reads_back
returns-then-not-ends_with_a_unit-clause-reads_back c = λ date fits e.
    absurd (false≢true (c.if-not-ends_with_a_unit.ensures.1 (names_itself c.args.text.now date fits e).whole_units))

-- what the last call read
read : (c : goal.After-date_of) → IsRead c.args.text.now c.date_of.result
read c =
    let text = c.args.text.now in
    let copied : c.copy_from_slice.new.self ≡ text = c.copy_from_slice.ensures.after in
    let h : MatchResult c.date_of.result (λ date. InRange date × (c.copy_from_slice.new.self ++ drop (length text) beginnings ≡ all_digits date))
    (λ _. (date : ℕ) → InRange date → ¬ (c.copy_from_slice.new.self ++ drop (length text) beginnings ≡ all_digits date)) = c.date_of.ensures in
    read_padded c.date_of.result text (c.if-not-ends_with_a_unit.ensures.0 refl) (rw copied at h)

pub returns-clause-read : goal.returns-clause-read
returns-clause-read c = (read c).read

pub returns-clause-refused : goal.returns-clause-refused
returns-clause-refused c = (read c).refused

pub returns-clause-reads_back : goal.returns-clause-reads_back
returns-clause-reads_back c = (read c).reads_back
