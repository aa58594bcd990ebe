use Rattle.std.proofs.Common.{◌≡◌, ◌+◌, false, drop}
use Rattle.cdxj_line.specs.steps.Strings.{string_len}
use Rattle.cdxj_line.proofs.members.marked_len.Given as goal

-- the bytes so far
abbrev pub invariant-loop-byte : goal.invariant-loop-byte
invariant-loop-byte l = (l.len ≡ l.byte-index) × (l.len + string_len l.escaped (drop l.byte-index l.text) ≡ string_len false l.text)
