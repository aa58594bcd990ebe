use Rattle.std.proofs.Common.{◌≡◌}
use Rattle.test_threads.proofs.turns.say_often.Given as goal

abbrev pub invariant-loop-serial : goal.invariant-loop-serial
invariant-loop-serial g l = l.pass.lock ≡ l.lock
