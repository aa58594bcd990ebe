use Rattle.std.proofs.Common.{subst}
use Rattle.std.specs.Prelude.{IfOk}
use Rattle.archive_shelf.specs.Queries.{IsFound}
use Rattle.archive_core.specs.Holdings.{Holdings}
use Rattle.archive_index.specs.Shown.{numbered}
use Rattle.archive_core.proofs.archive.Archive.nearest.Goals as goal

pub returns : goal.returns
returns g c =
    subst (λ (held : Holdings _). IfOk c.nearest.result (λ entry. IsFound (numbered held.index) c.args.key.now c.args.time entry)) c.self.view_is c.nearest.ensures
