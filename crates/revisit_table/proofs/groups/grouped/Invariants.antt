-- The numbers in the groups and those of the entries that are left are those of all entries, and no digest is in both.
use Rattle.std.proofs.Common.{◌≡◌, ◌++◌, ◌⊎◌, [], ℕ, List, length}
use Rattle.std.specs.Prelude.{All}
use Rattle.revisit_table.specs.Groups.{AreInOrder, HasNumbers, numbers_among}
use Rattle.revisit_table.specs.Table.{numbers_of}
use Rattle.revisit_table.proofs.groups.grouped.Given as goal

abbrev pub invariant-groups : goal.invariant-groups
invariant-groups l = record {
  same : (digest : List ℕ) → numbers_among l.groups.items digest ++ numbers_of digest l.rest ≡ numbers_of digest l.fn.sorted;
  apart : (digest : List ℕ) → (numbers_of digest l.rest ≡ []) ⊎ (numbers_among l.groups.items digest ≡ []);
  in_order : AreInOrder l.rest;
  filled : All HasNumbers l.groups.items;
}

abbrev pub decreases-groups : goal.decreases-groups
decreases-groups l = length l.rest
