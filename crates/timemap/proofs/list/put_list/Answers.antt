-- The pieces are those of the list.
use Rattle.timemap.proofs.PassingLemmas.{list_written}
use Rattle.timemap.proofs.list.put_list.Goals as goal

pub returns : goal.returns
returns c =
    list_written _ _ _ _ _ _ _ _ _ _ _ _ _ _ c.in-Some.ensures.cases.0 c.requires.in_order c.date_of-from.ensures.value c.last_date-until.ensures.value c.requires.empty
    c.in_ok-put_original_link.ensures c.in_ok-put_self_item.ensures c.in_ok-put_gate_item.ensures c.in_ok-put_memento_item.ensures c.in_ok-put_later_mementos.ensures c.in_ok-put_all.ensures
