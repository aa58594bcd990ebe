use Rattle.std.proofs.Common.{◌≤◌, ◌<◌, ◌-◌, ℕ, length}
use Rattle.std.specs.Prelude.{slice_index_or}
use Rattle.archive_gathering.specs.Originals.{IsMet}
use Rattle.archive_gathering.proofs.originals.first_met.Given as goal

-- none of the candidates so far is the one
abbrev pub invariant-candidates : goal.invariant-candidates
invariant-candidates l = record {
  within : l.at ≤ length l.candidates;
  none : (k : ℕ) → k < l.at → IsMet l.sought.namespace.now l.sought.same.now l.sought.length l.candidates l.spots l.lengths (slice_index_or l.candidates k 0) → ⊥;
}

abbrev pub decreases-candidates : goal.decreases-candidates
decreases-candidates l = length l.candidates - l.at
