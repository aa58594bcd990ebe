use Rattle.std.proofs.Common.{◌≡◌, ◌*◌, length, take}
use Rattle.digest32.specs.Base32.{base32}
use Rattle.digest32.proofs.base32.base32_of.Given as goal

-- the groups so far are the text of the bytes so far
abbrev pub invariant-groups : goal.invariant-groups
invariant-groups l = (length l.text ≡ 32) × (take (8 * l.i) l.text ≡ base32 (take (5 * l.i) l.digest))
