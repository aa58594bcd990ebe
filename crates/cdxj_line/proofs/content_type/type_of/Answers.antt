use Rattle.std.proofs.Common.{◌≡◌, true, true≢false, sym, subst, IsAscii}
use Rattle.cdxj_line.specs.MediaType.{is_told}
use Rattle.cdxj_line.proofs.Told.{told_ascii}
use Rattle.cdxj_line.proofs.content_type.type_of.Goals as goal

pub unreachable-requires : goal.unreachable-requires
unreachable-requires c =
    let told : is_told c.as_slice.result.now ≡ true = sym c.if-not-is_told.ensures in
    true≢false (sym (c.in-None.ensures.ascii.1 (subst IsAscii c.as_slice.ensures.value (told_ascii c.as_slice.result.now told))))
