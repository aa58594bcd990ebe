use Rattle.std.proofs.Common.{arith}
use Rattle.disk_model.specs.steps.ImageLaws.{as_read}
use Rattle.disk_model.specs.declared.kind.Kind.TheVariants.{Cdxj}
use Rattle.archive_opening.proofs.starting.sync_checkpoints.Goals as goal

pub returns-clause-synced : goal.returns-clause-synced
returns-clause-synced g c told image left =
    as_read (g.D.Disk.reading c.files.disk) image Cdxj
    (λ file there. c.files.invariant.synced told file (omega (arith, there, c.files-test.false, c.files.invariant.count told)) image left)
    (g.met.D.Disk.no_more_files c.files.disk image Cdxj left)
