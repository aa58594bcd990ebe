use Rattle.std.proofs.Common.{◌≡◌, ◌++◌, take}
use Rattle.html_rewrite.specs.Links.{escaped}
use Rattle.html_rewrite.proofs.reference.put_escaped_bytes.Given as goal

-- the bytes so far
abbrev pub invariant-loop-byte : goal.invariant-loop-byte
invariant-loop-byte l = l.out.items ≡ l.initial.out.items ++ escaped (take l.byte-index l.address)
