-- Each reason phrase is short.
use Rattle.std.proofs.Common.{ℕ, List, ◌≤◌, length, subst, sym}
use Rattle.exchange.proofs.RefusalLaws.{reason_is_short}
use Rattle.exchange.proofs.refusal.reason_of.Goals as goal

pub returns-clause-short : goal.returns-clause-short
returns-clause-short c = subst (λ (t : List ℕ). length t ≤ 31) (sym c.reason.ensures) (reason_is_short c.args.status)
