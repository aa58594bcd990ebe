use Rattle.std.proofs.Common.{subst}
use Rattle.std.specs.Prelude.{bytes_eq, IfOk}
use Rattle.archive_shelf.specs.Queries.{ArePicked}
use Rattle.archive_core.specs.Holdings.{Holdings}
use Rattle.archive_index.specs.Shown.{numbered}
use Rattle.archive_core.proofs.archive.Archive.entries_of.Goals as goal

pub returns : goal.returns
returns g c =
    subst (λ (held : Holdings _). IfOk c.with_key.result (λ entries. ArePicked (λ e. bytes_eq c.args.key.now e.key) (numbered held.index) entries.items)) c.self.view_is c.with_key.ensures
