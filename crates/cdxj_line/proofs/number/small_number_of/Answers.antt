use Rattle.std.proofs.Common.{◌≡◌, arith}
use Rattle.cdxj_line.proofs.number.small_number_of.Goals as goal

pub returns-in_err-number-clause-found : goal.returns-in_err-number-clause-found
returns-in_err-number-clause-found c = λ n small e.
    let none = c.in_err-number.ensures.found n (omega arith) e in
    absurd (cc)

pub returns-then-number-gt4294967295-clause-found : goal.returns-then-number-gt4294967295-clause-found
returns-then-number-gt4294967295-clause-found c = λ n small e.
    let same : c.in_ok-number.number ≡ n = cc (c.in_ok-number.ensures.found n (omega arith) e) in
    absurd (omega (arith, same))
