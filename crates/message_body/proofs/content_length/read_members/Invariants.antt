use Rattle.std.proofs.Common.{◌≡◌, ◌++◌, List, ℕ, length}
use Rattle.message_body.specs.Framings.{members, told_behind}
use Rattle.message_body.proofs.content_length.read_members.Given as goal

-- whatever members follow, those that are left tell the number
abbrev pub invariant-members : goal.invariant-members
invariant-members l =
    (others : List (List ℕ)) → told_behind l.fn.known (members l.fn.list ++ others) ≡ told_behind l.before (members l.rest ++ others)

abbrev pub decreases-members : goal.decreases-members
decreases-members l = length l.rest
