use Rattle.std.proofs.Common.{Ok, Err, sym, ◌∙◌}
use Rattle.revisit_table.proofs.Searches.{number_search_is_filter}
use Rattle.revisit_table.proofs.numbers.take_out.Goals as goal

pub returns-in-Ok-clause-items : goal.returns-in-Ok-clause-items
returns-in-Ok-clause-items c =
    let bound = rw c.deref.ensures.value at c.in-Ok.ensures.bound in
    let position = rw c.deref.ensures.value at c.in-Ok.ensures.position in
    c.remove.ensures.items ∙ sym (number_search_is_filter c.args.numbers.now.items c.args.number (Ok c.in-Ok.place) c.requires bound position)

pub returns-in-Err-clause-items : goal.returns-in-Err-clause-items
returns-in-Err-clause-items c =
    let bound = rw c.deref.ensures.value at c.in-Err.ensures.bound in
    let position = rw c.deref.ensures.value at c.in-Err.ensures.position in
    sym (number_search_is_filter c.args.numbers.now.items c.args.number (Err c.in-Err.field-0) c.requires bound position)
