-- The copies that readers take, and what a reader knows of them.
use Rattle.std.specs.Prelude.{◌≡◌, ℕ, List, [], ◌∷◌}
use mathlib.Core.Option.{some}
use lib.ListN.{get_elem?}
use Rattle.index_entry.specs.Facts.{Facts}
use Rattle.logbook.specs.Pages.{Book}
use Rattle.index_snapshot.specs.Edges.{Edge}
use Rattle.index_snapshot.specs.Entries.{HasEntries, entries_in}
use Rattle.index_snapshot.specs.declared.listing.Listing.{Listing}

-- the index is that of the items, which fit together
pub record IsOf {E : Type 0} (brings : E → List Facts) (Fits : List E → Type 0) (index : List Facts) (items : List E) : Type 0 where
  pub has : HasEntries index (entries_in brings items)
  pub fits : Fits items

-- the copy holds just the entries of the items that its edge tells, which fit together
abbrev pub IsTied : {E : Type 0} → (E → List Facts) → (List E → Type 0) → Listing E → Type 0
IsTied brings Fits copy = IsOf brings Fits copy.index copy.note.items

-- all these edges are of the book
abbrev pub AllOf : {E : Type 0} → Book → List (Edge E) → Type 0
AllOf b [] = Unit {0}
AllOf b (edge ∷ edges) = (edge.of ≡ b) × AllOf b edges

-- a view with one edge, which is of the book
abbrev pub Names : {E : Type 0} → Book → List (Edge E) → Type 0
Names {E} b v = (edge : Edge E) × (v ≡ edge ∷ []) × (edge.of ≡ b)

-- The rule: the copy holds just the entries that its edge tells, and each view that names a book names the copy's
pub record Holds {E : Type 0} (brings : E → List Facts) (Fits : List E → Type 0) (copy : Listing E) (views : List (List (Edge E))) : Type 0 where
  pub tied : IsTied brings Fits copy
  pub named : (seat : ℕ) (v : List (Edge E)) → get_elem? views seat ≡ some v → AllOf copy.note.of v

-- what a look tells: of the copy, that it is tied and of the book
abbrev pub Sees : {E : Type 0} → (E → List Facts) → (List E → Type 0) → List (Edge E) → Listing E → Listing E → List (Edge E) → Type 0
Sees brings Fits v x y w = (w ≡ v) × IsTied brings Fits y × AllOf y.note.of v

-- the first publication names the book
abbrev pub Begins : {E : Type 0} → (E → List Facts) → (List E → Type 0) → List (Edge E) → Listing E → Listing E → List (Edge E) → Type 0
Begins brings Fits v x y w = (w ≡ y.note ∷ []) × IsTied brings Fits y
