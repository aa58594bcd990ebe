use Rattle.std.proofs.Common.{◌≡◌, ◌*◌, take}
use Rattle.digest32.specs.Base32.{base32, IsDigest}
use Rattle.digest32.proofs.base32.read_base32.Given as goal

-- the characters so far are the text of the bytes so far
abbrev pub invariant-groups : goal.invariant-groups
invariant-groups l = IsDigest l.digest × (take (8 * l.i) l.text ≡ base32 (take (5 * l.i) l.digest))
