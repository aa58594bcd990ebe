use Rattle.std.proofs.Common.{subst, sym}
use Rattle.disk_model.specs.contracts.memory_disk.MemoryDiskDisk.TheImpl.{ghosts}
use Rattle.archive_core.specs.Holdings.{IsArchive}
use Rattle.archive_core.specs.View.{holdings_of}
use Rattle.archive_core.proofs.FuseLaws as laws
use Rattle.archive_core.proofs.archive.Archive+MemoryDisk.fused.Goals as goal

pub invariant_of-result : goal.invariant_of-result
invariant_of-result c =
    subst (λ journal. IsArchive ghosts (record (holdings_of c.self.inside) { journal = journal })) (sym c.fused.ensures)
    (laws.fused_is (holdings_of c.self.inside) c.args.calls c.self.invariant)
