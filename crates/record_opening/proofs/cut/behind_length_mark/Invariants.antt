use Rattle.std.specs.Prelude.{ℕ, ◌≤◌, List, length}
use Rattle.record_opening.specs.RecordLines.{TellsLength}
use Rattle.record_opening.proofs.cut.behind_length_mark.Given as goal

abbrev pub invariant-lines : goal.invariant-lines
invariant-lines l = record {
  tells : (rest : List ℕ) → TellsLength l.fn.bytes rest → TellsLength l.lines rest;
  inside : length l.lines ≤ length l.fn.bytes;
}

abbrev pub decreases-lines : goal.decreases-lines
decreases-lines l = length l.lines
