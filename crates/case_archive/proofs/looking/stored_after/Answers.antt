-- A fuse on the disk leaves the book as it is, and what is told of it.
use Rattle.std.proofs.Common.{subst, sym}
use Rattle.archive_core.specs.Holdings.{Holdings, contents_of}
use Rattle.archive_core.specs.Looking.{IsRightOf}
use Rattle.case_archive.proofs.looking.stored_after.Goals as goal

pub stored_with-requires-clause-right : goal.stored_with-requires-clause-right
stored_with-requires-clause-right c =
    subst (λ (held : Holdings _). IsRightOf (contents_of held) c.args.timed.now.prepared.taken c.in-Ok.looked) (sym c.fused.ensures) c.in-Ok.ensures
