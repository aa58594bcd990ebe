use Rattle.std.proofs.Common.{◌≡◌, ℕ, List, map, Bor}
use Rattle.exchange.proofs.MemberLemmas.{names_so_far}
use Rattle.exchange.proofs.connection_names.connection_names.Given as goal

-- the names that the fields so far list
abbrev pub invariant-loop-field : goal.invariant-loop-field
invariant-loop-field l = map (λ (m : Bor (List ℕ)). m.now) l.names.items ≡ names_so_far l.fields l.field-index
