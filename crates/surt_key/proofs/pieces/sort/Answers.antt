-- A sort gives the one arrangement in order.
use Rattle.surt_key.proofs.SortedUnique.{sorted_by_sort}
use Rattle.surt_key.proofs.pieces.sort.Goals as goal

pub returns : goal.returns
returns c = sorted_by_sort _ _ c.sort_unstable.ensures.permutation c.sort_unstable.ensures.sorted
