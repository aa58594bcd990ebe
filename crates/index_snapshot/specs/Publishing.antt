-- What a publisher keeps.
use Rattle.std.specs.Prelude.{◌≡◌, List, ◌++◌, fold, Option, option_to_list}
use Rattle.logbook.specs.Pages.{Book, Named}
use Rattle.index_entry.specs.Facts.{Facts}
use Rattle.index_snapshot.specs.Edges.{Edge, head_of}
use Rattle.index_snapshot.specs.Entries.{absorbed}
use Rattle.index_snapshot.specs.Listings.{IsOf, IsTied, Names}
use Rattle.index_snapshot.specs.declared.listing.Addition.{Addition}
use Rattle.index_snapshot.specs.declared.listing.Listing.{Listing}

-- the two copies have this in common: the index, and the edge that it stands for
abbrev pub State : Type 0 → Type 0
State E = List Facts × Edge E

-- an entry more, if there is one, and the edge behind it
abbrev pub applied : {E : Type 0} → State E → Addition E → State E
applied s op = (absorbed s.0 op.place, op.note)

-- the index is that of the edge
abbrev pub IsAt : {E : Type 0} → (E → List Facts) → (List E → Type 0) → State E → Edge E → Type 0
IsAt brings Fits s edge = IsOf brings Fits s.0 edge.items × (s.1 ≡ edge)

-- of a publisher: which book, what is published, and all that was appended
pub record Print (E : Type 0) : Type 0 where
  pub of : Book
  pub published : List E
  pub full : List E

abbrev pub print_of : {E : Type 0} → Edge E → Edge E → Print E
print_of shown full = record { of = full.of; published = shown.items; full = full.items }

-- what is published, as a reader has it
abbrev pub edge_of : {E : Type 0} → Print E → Edge E
edge_of print = record { of = print.of; items = print.published }

-- all that was appended
abbrev pub full_of : {E : Type 0} → Print E → Edge E
full_of print = record { of = print.of; items = print.full }

-- the copy that is shown, what the copies lack and what the log had no room for give all that was appended
pub record IsPublisher {E : Type 0} (brings : E → List Facts) (Fits : List E → Type 0) (copy : Listing E) (pending : List (Addition E)) (seat : List (Edge E)) (word : Named) (shown full : Edge E) (held : Option (Addition E)) : Type 0 where
  pub word_is : word ≡ head_of full.of
  pub tied : IsTied brings Fits copy
  pub shown_is : copy.note ≡ shown
  pub of_is : shown.of ≡ full.of
  pub whole : IsAt brings Fits (fold applied (copy.index, copy.note) (pending ++ option_to_list held)) full
  pub named : Names full.of seat
