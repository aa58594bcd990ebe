use Rattle.std.proofs.Common.{rules}
use Rattle.link_queue.proofs.Keeps.{joins, puts_one, gives}
use Rattle.link_queue.proofs.ledger.Ledger.put.Goals as goal

pub join_seat-requires : goal.join_seat-requires
join_seat-requires g c = (search rules, search rules, search rules, search rules, joins _ _ _ _ (search rules))

pub compare_exchange_with-requires : goal.compare_exchange_with-requires
compare_exchange_with-requires g c = (search rules, search rules, puts_one _ 0 0 0 _ _ _ (search rules))

pub split_seat-rest-requires : goal.split_seat-rest-requires
split_seat-rest-requires g c = (search rules, search rules, gives _ _ (search rules))
