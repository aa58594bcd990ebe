-- The numbers so far, with those of the entries that are left, are those of the digest; of the other digests all are left.
use Rattle.std.proofs.Common.{◌≡◌, ◌≤◌, ◌∷◌, ◌++◌, false, ℕ, List, length}
use Rattle.std.specs.Str.{bytes_eq}
use Rattle.revisit_table.specs.Groups.{AreInOrder, AreNotBelow}
use Rattle.revisit_table.specs.Lists.{items_of}
use Rattle.revisit_table.specs.Table.{numbers_of}
use Rattle.revisit_table.proofs.groups.first_group.Given as goal

abbrev pub invariant-entries : goal.invariant-entries
invariant-entries l = record {
  filled : items_of l.numbers ++ numbers_of l.fn.first.0 l.rest ≡ l.fn.first.1 ∷ numbers_of l.fn.first.0 l.fn.behind;
  others : (other : List ℕ) → bytes_eq l.fn.first.0 other ≡ false → numbers_of other l.rest ≡ numbers_of other l.fn.behind;
  in_order : AreInOrder l.rest;
  above : AreNotBelow l.fn.first.0 l.rest;
  fewer : length l.rest ≤ length l.fn.behind;
}

abbrev pub decreases-entries : goal.decreases-entries
decreases-entries l = length l.rest
