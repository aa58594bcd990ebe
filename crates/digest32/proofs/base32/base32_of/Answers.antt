use Rattle.std.proofs.Common.{rules, ◌+◌, ◌-◌, ◌*◌, refl, arith, ◌∙◌}
use Rattle.std.proofs.lemmas.Slice.{take-put_mid_below, between-put_mid, overwrites}
use Rattle.digest32.specs.Base32.{base32, characters}
use Rattle.digest32.proofs.Texts.{more_groups}
use Rattle.digest32.proofs.base32.base32_of.Goals as goal

pub groups-init : goal.groups-init
unfolding base32 characters
groups-init c = (refl, refl)

pub groups-preserved : goal.groups-preserved
groups-preserved c =
    let before = take-put_mid_below (8 * c.groups.i) (8 * c.groups.i + 8 - 8 * c.groups.i) c.groups.text c.copy_from_slice.new.self (8 * c.groups.i) (omega arith) (omega arith) ∙ c.groups.invariant.1 in
    let here = between-put_mid (8 * c.groups.i) (8 * c.groups.i + 8 - 8 * c.groups.i) c.groups.text c.copy_from_slice.new.self (8 * c.groups.i + 8) (omega arith) (omega arith)
    ∙ c.copy_from_slice.ensures.after ∙ c.characters_of-characters.ensures in
    (search (rules, overwrites), more_groups c.groups.i c.args.digest.now _ (omega arith) before here)
