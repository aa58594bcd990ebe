-- The shelf is filled.
use Rattle.std.proofs.Common.{refl, sym, subst}
use Rattle.archive_core.specs.Holdings.{Holdings}
use Rattle.archive_core.specs.Told.{told_of}
use Rattle.disk_model.specs.contracts.memory_disk.MemoryDiskDisk.TheImpl.{ghosts}
use Rattle.load_shelf.specs.Loads.{IsFilled}
use Rattle.load_trial.proofs.trying.tried.Goals as goal

pub returns-then-fill : goal.returns-then-fill
returns-then-fill c =
    c.tell.ensures c.args.seed (subst (λ (held : Holdings _). IsFilled (told_of ghosts held) c.args.seed c.args.count c.args.count)
    (sym c.into_shelf.ensures) (c.if-fill.ensures refl refl))
