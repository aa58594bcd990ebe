-- There is such.
use Rattle.command.proofs.StandingLaws.{some_stood}
use Rattle.command.proofs.standing.stood_on.Goals as goal

pub chosen-requires : goal.chosen-requires
chosen-requires g c = some_stood g.D.Disk c.args.given.now.value c.args.archive.now c.requires

pub returns-clause-on : goal.returns-clause-on
returns-clause-on g c = λ tells. (c.chosen.ensures tells).0

pub returns-clause-keeps : goal.returns-clause-keeps
returns-clause-keeps g c = λ tells. (c.chosen.ensures tells).1

pub returns-clause-book : goal.returns-clause-book
returns-clause-book g c = λ tells. (c.chosen.ensures tells).2
