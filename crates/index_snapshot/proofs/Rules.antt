-- Steps on the copies keep their rule.
use Rattle.std.proofs.Common.{◌≡◌, ◌≢◌, ℕ, List, [], ◌∷◌, ◌++◌, set, refl, sym, subst, ⊎_elim}
use mathlib.Core.Option.{some}
use lib.ListN.{get_elem?}
use Rattle.left_right.specs.Register.{Admits, TurnsAt, Forks, Merges}
use Rattle.atomic_table.proofs.Lists.{at_set, at_snoc}
use Rattle.logbook.specs.Pages.{Book}
use Rattle.index_entry.specs.Facts.{Facts}
use Rattle.index_snapshot.specs.Edges.{Edge}
use Rattle.index_snapshot.specs.Listings.{AllOf, Holds, IsOf, IsTied, Sees, Begins}
use Rattle.index_snapshot.specs.declared.listing.Listing.{Listing}

-- each view names the book
abbrev pub Named : {E : Type 0} → Book → List (List (Edge E)) → Type 0
Named {E} b views = (seat : ℕ) (v : List (Edge E)) → get_elem? views seat ≡ some v → AllOf b v

named_set : {E : Type 0} (b : Book) (views : List (List (Edge E))) (seat : ℕ) (w : List (Edge E)) → Named b views → AllOf b w → Named b (set views seat w)
named_set b views seat w h new j u e =
    ⊎_elim (λ (t : (j ≡ seat) × (w ≡ u)). subst (AllOf b) t.1 new) (λ (t : (j ≢ seat) × (get_elem? views j ≡ some u)). h j u t.1) (at_set views seat j w u e)

named_snoc : {E : Type 0} (b : Book) (views : List (List (Edge E))) (w : List (Edge E)) → Named b views → AllOf b w → Named b (views ++ w ∷ [])
named_snoc b views w h new j u e = ⊎_elim (h j u) (λ (same : w ≡ u). subst (AllOf b) same new) (at_snoc views w u j e)

module _ {E : Type 0} (brings : E → List Facts) (Fits : List E → Type 0) where
  -- a copy that is tied and of the same book takes the other's place, and the view stays
  pub stays : (seat : ℕ) (v : List (Edge E)) (x y : Listing E) → IsTied brings Fits y → y.note.of ≡ x.note.of → TurnsAt (Holds brings Fits) seat v x y (Sees brings Fits)
  stays seat v x y tied same views h at =
      let all : AllOf y.note.of v = subst (λ (b : Book). AllOf b v) (sym same) (h.named seat v at) in
      let named : Named y.note.of views = subst (λ (b : Book). Named b views) (sym same) h.named in (
        v,
        record { tied = tied; named = named_set y.note.of views seat v named all },
        (refl, tied, all),
      )

  -- a look
  pub looks : (seat : ℕ) (v : List (Edge E)) (x : Listing E) → TurnsAt (Holds brings Fits) seat v x x (Sees brings Fits)
  looks seat v x views h at = stays seat v x x h.tied refl views h at

  -- the first publication
  pub first : (seat : ℕ) (v : List (Edge E)) (x y : Listing E) → IsTied brings Fits y → y.note.of ≡ x.note.of → TurnsAt (Holds brings Fits) seat v x y (Begins brings Fits)
  first seat v x y tied same views h at =
      let named : Named y.note.of views = subst (λ (b : Book). Named b views) (sym same) h.named in (
        y.note ∷ [],
        record { tied = tied; named = named_set y.note.of views seat (y.note ∷ []) named (refl, tt) },
        (refl, tied),
      )

  pub admits : Admits (Holds brings Fits) []
  admits x views h = record { tied = h.tied; named = named_snoc x.note.of views [] h.named tt }

  pub forks : (seat : ℕ) (v : List (Edge E)) → Forks (Holds brings Fits) seat v v v
  forks seat v x views h at =
      let all = h.named seat v at in
      record { tied = h.tied; named = named_snoc x.note.of (set views seat v) v (named_set x.note.of views seat v h.named all) all }

  pub merges : (seat other : ℕ) (v w : List (Edge E)) → Merges (Holds brings Fits) seat v other w w []
  merges seat other v w x views h at apart there =
      let all : AllOf x.note.of w = ⊎_elim (λ (t : (other ≡ seat) × (w ≡ w)). absurd (apart t.0)) (λ (t : (other ≢ seat) × (get_elem? views other ≡ some w)). h.named other w t.1) (at_set views seat other w w there) in
      record { tied = h.tied; named = named_set x.note.of (set views seat w) other [] (named_set x.note.of views seat w h.named all) tt }

  -- a copy that is tied, and a seat that knows nothing
  pub alone : (x : Listing E) → IsTied brings Fits x → Holds brings Fits x ([] ∷ [])
  alone x tied = record { tied = tied; named = named_snoc x.note.of [] [] (λ j u e. absurd (cc e)) tt }

  -- two copies of one index and one edge are both tied
  pub tied_by : (x y : Listing E) → x.index ≡ y.index → x.note ≡ y.note → IsTied brings Fits y → IsTied brings Fits x
  tied_by x y index note tied =
      subst (λ (i : List Facts). IsOf brings Fits i x.note.items) (sym index) (subst (λ (e : Edge E). IsOf brings Fits y.index e.items) (sym note) tied)
