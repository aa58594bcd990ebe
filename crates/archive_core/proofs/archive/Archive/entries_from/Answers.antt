use Rattle.std.proofs.Common.{subst}
use Rattle.std.specs.Prelude.{nat_eq, IfOk}
use Rattle.std.specs.List.{starts_with}
use Rattle.archive_shelf.specs.Queries.{ArePicked}
use Rattle.archive_core.specs.Holdings.{Holdings}
use Rattle.archive_index.specs.Shown.{numbered}
use Rattle.archive_core.proofs.archive.Archive.entries_from.Goals as goal

pub returns : goal.returns
returns g c =
    subst (λ (held : Holdings _). IfOk c.starting.result (λ entries. ArePicked (λ e. starts_with nat_eq e.key c.args.start.now) (numbered held.index) entries.items)) c.self.view_is c.starting.ensures
