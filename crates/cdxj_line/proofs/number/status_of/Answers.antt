use Rattle.std.proofs.Common.{◌≡◌, arith}
use Rattle.cdxj_line.proofs.number.status_of.Goals as goal

pub returns-in_err-number-clause-found : goal.returns-in_err-number-clause-found
returns-in_err-number-clause-found c = λ n least most e.
    let none = c.in_err-number.ensures.found n (omega arith) e in
    absurd (cc)

pub returns-then-number-lt100-clause-found : goal.returns-then-number-lt100-clause-found
returns-then-number-lt100-clause-found c = λ n least most e.
    let same : c.in_ok-number.number ≡ n = cc (c.in_ok-number.ensures.found n (omega arith) e) in
    absurd (omega (arith, same))

pub returns-then-number-gt999-clause-found : goal.returns-then-number-gt999-clause-found
returns-then-number-gt999-clause-found c = λ n least most e.
    let same : c.in_ok-number.number ≡ n = cc (c.in_ok-number.ensures.found n (omega arith) e) in
    absurd (omega (arith, same))
