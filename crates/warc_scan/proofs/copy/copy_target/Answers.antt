use Rattle.std.proofs.Common.{sym, subst}
use Rattle.std.specs.Prelude.{IsAscii}
use Rattle.warc_scan.proofs.TargetAscii.{none_is_no_some, target_is_ascii}
use Rattle.warc_scan.proofs.copy.copy_target.Goals as goal

pub unreachable-requires : goal.unreachable-requires
unreachable-requires c =
    let ascii : IsAscii c.in_ok-from_slice.field-0.items =
    subst IsAscii (sym c.in_ok-from_slice.ensures.items) (target_is_ascii c.args.uri.now c.requires) in
    none_is_no_some c.of.result c.in-None.is (c.of.ensures.ascii.1 ascii)
