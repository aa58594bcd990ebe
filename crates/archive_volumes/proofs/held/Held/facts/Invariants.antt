-- So many of the volumes were told of.
use Rattle.std.proofs.Common.{◌-◌, length}
use Rattle.archive_volumes.proofs.FactsLaws.{Told}
use Rattle.archive_volumes.proofs.held.Held.facts.Given as goal

abbrev pub invariant-volumes : goal.invariant-volumes
invariant-volumes l = record { told : Told l.fn.self.sealed.items l.done l.first l.facts.items }

abbrev pub decreases-volumes : goal.decreases-volumes
decreases-volumes l = length l.fn.self.sealed.items - l.done
