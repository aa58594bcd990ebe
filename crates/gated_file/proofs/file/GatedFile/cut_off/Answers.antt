use Rattle.std.proofs.Common.{◌∙◌}
use Rattle.disk_model.specs.steps.CrashLaws.{cut_done}
use Rattle.gated_file.specs.Files.{bytes_of}
use Rattle.gated_file.proofs.RewriteLaws.{there_after}
use Rattle.gated_file.proofs.file.GatedFile.cut_off.Goals as goal

pub sync-requires : goal.sync-requires
sync-requires g c told =
    there_after c.args.self.now.kind c.args.self.now.file _ (g.D.Disk.reading c.args.disk.now) (g.D.Disk.reading c.cut.new.self) (c.requires.there told) (c.in_ok-cut.ensures.cut told)

pub returns-clause-partial : goal.returns-clause-partial
returns-clause-partial g c told = record {
  bytes = _;
  step = cut_done c.args.self.now.end (bytes_of c.args.self.now (g.D.Disk.reading c.args.disk.now));
  whole = c.sync.ensures.reading told ∙ c.in_ok-cut.ensures.cut told;
}
