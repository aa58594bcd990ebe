-- The table with those that are left is what it will be.
use Rattle.std.proofs.Common.{◌≡◌, ◌++◌, None, length}
use Rattle.revisit_table.proofs.lazy.put_all.Given as goal

abbrev pub invariant-entries : goal.invariant-entries
invariant-entries l = record {
  all : l.table.kept ++ l.rest ≡ l.fn.table.kept ++ l.fn.entries;
  unreserved : l.table.reserved ≡ None;
}

abbrev pub decreases-entries : goal.decreases-entries
decreases-entries l = length l.rest
