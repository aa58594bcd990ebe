use Rattle.std.proofs.Common.{◌≡◌, ◌+◌, ◌≤◌, drop}
use Rattle.cdx_query.specs.Passing.{marks}
use Rattle.cdx_query.proofs.length.marks_in.Given as goal

-- those so far, and those to come
abbrev pub invariant-loop-byte : goal.invariant-loop-byte
invariant-loop-byte l = (l.count ≤ l.byte-index) × (l.count + marks (drop l.byte-index l.key) ≡ marks l.key)
