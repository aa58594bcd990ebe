use Rattle.std.proofs.Common.{◌≡◌, ◌++◌, ℕ, List, length, map, Bor}
use Rattle.message_body.specs.Framings.{members}
use Rattle.exchange.proofs.members.put_members.Given as goal

-- what was put and what is left are those of before and all of the list
abbrev pub invariant-members : goal.invariant-members
invariant-members l =
    map (λ (m : Bor (List ℕ)). m.now) l.names.items ++ members l.rest ≡ map (λ (m : Bor (List ℕ)). m.now) l.initial.names.items ++ members l.list

abbrev pub decreases-members : goal.decreases-members
decreases-members l = length l.rest
