-- What is found in an index is found among what is shown.
use Rattle.std.proofs.Common.{◌≡◌, ℕ, Bool, List, sym, subst}
use Rattle.std.specs.Prelude.{filter}
use Rattle.index_entry.proofs.Members.{Among-filter, Among-filter_back, Sorted-filter, among_from_contains, contains_from_among}
use Rattle.index_entry.proofs.Orders.{order_total}
use Rattle.index_entry.specs.Facts.{Facts}
use Rattle.index_entry.specs.Order.{order}
use Rattle.index_entry.specs.Queries.{HasNone, IsIndex, IsNearest}
use Rattle.archive_shelf.specs.Queries.{ArePicked}
use Rattle.archive_index.specs.Shown.{numbered}
use Rattle.archive_index.proofs.ShownLaws.{shown_all, shown_from}

pub nearest_shown : (index : List Facts) (key : List ℕ) (time : ℕ) (entry : Facts) → IsNearest index key time entry
    → IsNearest (numbered index) key time entry
nearest_shown index key time entry is = record {
  member = shown_all index entry is.member;
  keyed = is.keyed;
  least = λ other has. is.least other (shown_from index other has);
  first = λ other has. is.first other (shown_from index other has);
}

pub none_shown : (index : List Facts) (key : List ℕ) → HasNone index key → HasNone (numbered index) key
none_shown index key none other has = none other (shown_from index other has)

-- what passes a test in an index is picked from what is shown
picked_by : (picks : Facts → Bool) (index : List Facts) → IsIndex index → ArePicked picks (numbered index) (filter picks index)
picked_by picks index is = record {
  in_order = Sorted-filter order order_total picks index is.in_order;
  picked = λ entry has. (Among-filter picks index entry (among_from_contains (filter picks index) entry has)).1;
  from = λ entry has. shown_all index entry
      (contains_from_among index entry (Among-filter picks index entry (among_from_contains (filter picks index) entry has)).0);
  all = λ entry has passes. contains_from_among (filter picks index) entry
      (Among-filter_back picks index entry (among_from_contains index entry (shown_from index entry has)) passes);
}

pub picked_shown : (picks : Facts → Bool) (index found : List Facts) → IsIndex index → found ≡ filter picks index
    → ArePicked picks (numbered index) found
picked_shown picks index found is found_is =
    subst (λ (list : List Facts). ArePicked picks (numbered index) list) (sym found_is) (picked_by picks index is)
