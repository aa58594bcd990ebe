use Rattle.std.proofs.Common.{refl, arith}
use Rattle.record_opening.proofs.InfoSteps.{least_is_long}
use Rattle.volume_scan.proofs.Parts.{rests_still}
use Rattle.volume_scan.proofs.asking.read_info.Goals as goal

pub asking-init : goal.asking-init
asking-init g c = record {
  at = c.requires.at;
  inside = c.requires.inside;
  len = refl;
  shows = c.requires.shows;
  least = omega (arith, least_is_long c.args.volume c.info_len-least.result c.info_len-least.ensures.value);
  rests = λ told. rests_still g.D.Disk c.args.disk.now;
  faults = refl;
}
