use Rattle.std.proofs.Common.{◌≡◌, ℕ, ◌+◌, length, take}
use Rattle.json.specs.Print.{escape}
use Rattle.cdxj_line.specs.Lengths.{capped}
use Rattle.cdxj_line.proofs.json_string.add_escaped.Given as goal

-- the bytes so far
abbrev pub invariant-loop-byte : goal.invariant-loop-byte
invariant-loop-byte l = (n : ℕ) → l.len ≡ capped n → l.sum ≡ capped (n + length (escape (take l.byte-index l.text)))
