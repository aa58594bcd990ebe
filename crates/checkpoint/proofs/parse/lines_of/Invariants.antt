use Rattle.std.proofs.Common.{length}
use Rattle.checkpoint.proofs.ReadingLaws.{IsReadSoFar}
use Rattle.checkpoint.proofs.parse.lines_of.Given as goal

-- the lines that were read, and what is left
abbrev pub invariant-loop-rest : goal.invariant-loop-rest
invariant-loop-rest l = IsReadSoFar l.volume l.bytes l.lines.items l.rest

abbrev pub decreases-loop-rest : goal.decreases-loop-rest
decreases-loop-rest l = length l.rest
