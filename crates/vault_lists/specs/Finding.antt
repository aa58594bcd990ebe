-- What is found by date in a list that was seen.
use Rattle.std.specs.Prelude.{◌≡◌, ℕ, Bool, true, List, bytes_eq, nat_eq}
use mathlib.Core.List.{IsPrefix}
use Rattle.std.specs.List.{starts_with}
use Rattle.index_entry.specs.Facts.{Facts}
use Rattle.archive_shelf.specs.Queries.{ArePicked}
use Rattle.index_snapshot.specs.Edges.{Edge}
use Rattle.vault_lists.specs.Items.{AreItems, shown_in}
use Rattle.vault_lists.specs.declared.item.Item.{Item}

-- the entries of a key
pub record AreOfKey (key : List ℕ) (items : List Item) (found : List Facts) : Type 0 where
  pub picked : ArePicked (λ e. bytes_eq key e.key) (shown_in items) found

-- the entries whose key begins with these bytes
pub record AreStarting (start : List ℕ) (items : List Item) (found : List Facts) : Type 0 where
  pub picked : ArePicked (λ e. starts_with nat_eq e.key start) (shown_in items) found

-- this list was seen, which may be published, and begins with all that is known of it
pub record HasSeen (note : Edge Item) (whole : Bool) (items : List Item) : Type 0 where
  pub all : whole ≡ true
  pub begins : IsPrefix note.items items
  pub fits : AreItems items
