use Rattle.test_threads.proofs.turns.numbers_rise.Given as goal

abbrev pub invariant-loop-k : goal.invariant-loop-k
invariant-loop-k g l = Unit {0}
