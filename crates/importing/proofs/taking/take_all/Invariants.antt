-- What was taken up to the place of the reader.
use Rattle.std.proofs.Common.{◌≡◌, ◌-◌, length}
use Rattle.importing.specs.steps.Taking.{HasTaken}
use Rattle.importing.proofs.taking.take_all.Given as goal

abbrev pub invariant-taking : goal.invariant-taking
invariant-taking g l = record {
  taken : HasTaken g.S.Finder.alone l.reader l.tally (g.S.Finder.told l.fn.shelf) (g.S.Finder.told l.shelf);
  file : l.reader.file ≡ l.fn.reader.file;
}

-- the reader goes farther in the file
abbrev pub decreases-taking : goal.decreases-taking
decreases-taking g l = length l.reader.file - l.reader.at
