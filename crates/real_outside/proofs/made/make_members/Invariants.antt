-- A member for each turn so far, each of the kind that is asked for.
use Rattle.std.proofs.Common.{◌≡◌, All, vec_len}
use Rattle.real_outside.specs.Dialers.{is_echo}
use Rattle.real_outside.proofs.made.make_members.Given as goal

abbrev pub invariant-loop : goal.invariant-loop
invariant-loop g l = (vec_len l.members ≡ l.counter) × All (λ member. is_echo member.0 ≡ l.streams) l.members.items
