use Rattle.warc_scan.proofs.TargetAscii.{revisited_target}
use Rattle.warc_scan.proofs.copy.copy_parts.Goals as goal

pub copy_revisited-requires : goal.copy_revisited-requires
copy_revisited-requires c = revisited_target c.args.found.now.opening.same c.requires.opening.refers
