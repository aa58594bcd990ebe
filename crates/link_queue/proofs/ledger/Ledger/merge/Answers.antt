use Rattle.std.proofs.Common.{rules}
use Rattle.link_queue.proofs.Keeps.{joins}
use Rattle.link_queue.proofs.ledger.Ledger.merge.Goals as goal

pub join_seat-requires : goal.join_seat-requires
join_seat-requires g c = (search rules, search rules, search rules, search rules, joins _ _ _ _ (search rules))
