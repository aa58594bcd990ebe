use Rattle.http_wire.proofs.OneArrival.{arrivals_are_one}
use Rattle.http_wire.proofs.OneFirst.{firsts_are_one}
use Rattle.http_wire.proofs.laws.decisions_are_one.Goals as goal

pub returns-clause-firsts : goal.returns-clause-firsts
returns-clause-firsts c = firsts_are_one

pub returns-clause-arrivals : goal.returns-clause-arrivals
returns-clause-arrivals c = arrivals_are_one
