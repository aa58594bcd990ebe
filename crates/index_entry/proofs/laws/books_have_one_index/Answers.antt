use Rattle.index_entry.proofs.OneIndex as one
use Rattle.index_entry.proofs.laws.books_have_one_index.Goals as goal

pub returns-clause-index : goal.returns-clause-index
returns-clause-index c = one.books_have_one_index c.numbers_have_one_group.ensures

pub returns-clause-entries : goal.returns-clause-entries
returns-clause-entries c = one.books_have_one_list c.numbers_have_one_group.ensures
