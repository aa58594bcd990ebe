use Rattle.std.proofs.Common.{◌-◌, ◌<◌, arith}
use Rattle.digest32.proofs.Alphabet.{character-letter, character-digit, alphabet_ranges}
use Rattle.digest32.proofs.base32.number_of.Goals as goal

pub returns-in-65-to-90 : goal.returns-in-65-to-90
returns-in-65-to-90 c =
    let small : c.args.byte - 65 < 26 = omega arith in
    let e = character-letter (c.args.byte - 65) small in
    (omega arith, omega arith)

pub returns-in-50-to-55 : goal.returns-in-50-to-55
returns-in-50-to-55 c =
    let small : c.args.byte - 50 < 6 = omega arith in
    let e = character-digit (c.args.byte - 50) small in
    (omega arith, omega arith)

pub returns-in_default : goal.returns-in_default
returns-in_default c = λ h. omega (arith, alphabet_ranges c.args.byte h)

pub returns-in_default-2 : goal.returns-in_default-2
returns-in_default-2 c = λ h. omega (arith, alphabet_ranges c.args.byte h)

pub returns-in_default-3 : goal.returns-in_default-3
returns-in_default-3 c = λ h. omega (arith, alphabet_ranges c.args.byte h)
