use Rattle.std.proofs.Common.{arith}
use Rattle.archive_volumes.specs.Held.{book_of}
use Rattle.archive_settling.proofs.WalkingLaws.{few_volumes}
use Rattle.archive_core.proofs.archive.Archive.volumes.Goals as goal

pub facts-requires-clause-volumes : goal.facts-requires-clause-volumes
facts-requires-clause-volumes g c =
    few_volumes c.self.inside.volumes.journal (book_of c.self.inside.volumes.held) c.self.invariant.measured c.self.invariant.counted.few

pub facts-requires-clause-captures : goal.facts-requires-clause-captures
facts-requires-clause-captures g c = omega (arith, c.self.invariant.counted.few)
