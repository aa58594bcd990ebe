use Rattle.std.proofs.Common.{ℕ, ◌<◌, get_or}
use Rattle.std.specs.Prelude.{IsTrue}
use Rattle.record_opening.specs.Forms.{fits}
use Rattle.record_opening.proofs.form.open_form.Given as goal

abbrev pub invariant-loop-place : goal.invariant-loop-place
invariant-loop-place l = (k : ℕ) → k < l.place → IsTrue (fits (get_or l.form k 0) (get_or l.bytes k 0))
