use Rattle.std.proofs.Common.{◌≡◌, ◌++◌, take}
use Rattle.surt_key.proofs.Joined.{each_behind}
use Rattle.surt_key.proofs.pieces.put_joined.Given as goal

-- the pieces so far, each with the delimiter before it
abbrev pub invariant-loop-piece : goal.invariant-loop-piece
invariant-loop-piece l = l.out.items ≡ l.initial.out.items ++ each_behind l.delimiter (take l.piece-index l.others)
