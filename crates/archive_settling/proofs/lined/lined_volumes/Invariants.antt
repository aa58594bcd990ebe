-- A line told of a capture of each of the volumes so far, and those that are left are among all.
use Rattle.std.proofs.Common.{◌≤◌, length}
use Rattle.std.specs.Prelude.{Contains}
use Rattle.archive_volumes.specs.declared.spot.Spot.{Spot}
use Rattle.archive_settling.specs.Finished.{AreLinedTo}
use Rattle.archive_settling.proofs.lined.lined_volumes.Given as goal

abbrev pub invariant-spots : goal.invariant-spots
invariant-spots l = record {
  few : l.lined ≤ l.fn.sealed;
  lined : AreLinedTo l.fn.spots l.lined;
  among : (spot : Spot) → Contains l.rest spot → Contains l.fn.spots spot;
}

abbrev pub decreases-spots : goal.decreases-spots
decreases-spots l = length l.rest
