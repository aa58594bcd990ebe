use Rattle.timemap.proofs.OrderLemmas.{keys_are_in_order}
use Rattle.timemap.proofs.law.entries_of_a_key_are_in_order.Goals as goal

pub returns : goal.returns
returns c = keys_are_in_order
