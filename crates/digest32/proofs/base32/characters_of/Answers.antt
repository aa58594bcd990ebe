use Rattle.std.proofs.Common.{ap, ◌∙◌, arith}
use Rattle.digest32.specs.Base32.{base32}
use Rattle.digest32.proofs.Groups.{base32-group, five_elements}
use Rattle.digest32.proofs.base32.characters_of.Goals as goal

pub returns : goal.returns
returns c =
    let read = c.type_inv.bytes in
    let text = ap base32 (five_elements c.args.bytes.now c.requires)
    ∙ base32-group _ _ _ _ _ (omega (arith, read 0)) (omega (arith, read 1)) (omega (arith, read 2)) (omega (arith, read 3)) (omega (arith, read 4)) in
    cc
