use Rattle.archive_volumes.specs.Held.{book_of}
use Rattle.archive_volumes.proofs.VolumeLaws.{holds_found}
use Rattle.archive_volumes.proofs.volumes.Volumes.over.Goals as goal

pub returns-clause-holds : goal.returns-clause-holds
returns-clause-holds g c =
    holds_found g.D.Disk c.args.told.now.value c.args.journal (book_of c.args.held) c.requires.tells c.requires.in_step c.requires.texts_are c.requires.sound c.requires.left
