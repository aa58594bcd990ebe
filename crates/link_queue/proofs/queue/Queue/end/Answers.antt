use Rattle.std.proofs.Common.{subst}
use Rattle.link_queue.specs.Accounts.{IsWhole}
use Rattle.link_queue.proofs.Shares.{as_many}
use Rattle.link_queue.proofs.queue.Queue.end.Goals as goal

pub returns-clause-count : goal.returns-clause-count
returns-clause-count g c = as_many _ _ _ (subst (λ xs. IsWhole c.args.share.put c.args.share.taken xs) c.into_inner-links.result.kept c.audit.ensures)
