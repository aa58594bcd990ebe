use Rattle.std.proofs.Common.{get_or, arith}
use Rattle.std.proofs.lemmas.Bool.{eq-eqb}
use Rattle.body_reader.proofs.runs.run_len.Goals as goal

pub returns-in-Some-clause-none : goal.returns-in-Some-clause-none
returns-in-Some-clause-none c = λ k h lf.
    c.in-Some.ensures.0.before k (omega arith) h (eq-eqb (get_or c.args.text.now k 0) 10 lf)

pub returns-in-None-clause-none : goal.returns-in-None-clause-none
returns-in-None-clause-none c = λ k h lf.
    c.in-None.ensures k (omega arith) h (eq-eqb (get_or c.args.text.now k 0) 10 lf)
