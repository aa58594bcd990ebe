use Rattle.std.proofs.Common.{◌∙◌, arith, length}
use Rattle.disk_model.specs.steps.CrashLaws.{torn_written}
use Rattle.gated_file.specs.Files.{bytes_of}
use Rattle.gated_file.proofs.RewriteLaws.{there_after}
use Rattle.gated_file.proofs.file.GatedFile.write.Goals as goal

pub sync-requires : goal.sync-requires
sync-requires g c told =
    there_after c.args.self.now.kind c.args.self.now.file _ (g.D.Disk.reading c.args.disk.now) (g.D.Disk.reading c.write_at.new.self) (c.requires.there told) (c.in_ok-write_at.ensures.written told)

pub returns-clause-partial : goal.returns-clause-partial
returns-clause-partial g c told = record {
  bytes = _;
  step = torn_written c.args.at (length c.args.bytes.now) (bytes_of c.args.self.now (g.D.Disk.reading c.args.disk.now)) c.args.bytes.now (omega arith);
  whole = c.sync.ensures.reading told ∙ c.in_ok-write_at.ensures.written told;
}
