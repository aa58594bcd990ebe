use Rattle.std.proofs.Common.{rules}
use Rattle.link_queue.proofs.Keeps.{joins, takes}
use Rattle.link_queue.proofs.ledger.Ledger.take.Goals as goal

pub join_seat-requires : goal.join_seat-requires
join_seat-requires g c = (search rules, search rules, search rules, search rules, joins _ _ _ _ (search rules))

pub split_seat-rest-requires : goal.split_seat-rest-requires
split_seat-rest-requires g c = (search rules, search rules, takes _ _ (search rules))
