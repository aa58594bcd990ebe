-- A book that has a piece as its next capture.
use Rattle.std.proofs.Common.{◌≡◌, ◌≢◌, ◌⊎◌, ℕ, zero, suc, ◌+◌, ◌<◌, Bool, true, false, List, [], ◌∷◌, ◌++◌, length, slice_get, Option, Some, None, nat_eq, not, inl, inr, ⊎_elim, refl, sym, ap, subst, ◌∙◌, length-append, ne_eqb, arith}
use Rattle.std.proofs.lemmas.List.{append-nil}
use Rattle.capture.specs.Captures.{captures, captures_in}
use Rattle.capture.specs.Growth.{Grows, HasGrown, HasGrownAt}
use Rattle.capture.specs.declared.book.Book.{Book}
use Rattle.capture.specs.declared.book.Volume.{Volume}
use Rattle.capture.specs.declared.captured.Stored.{Stored}
use Rattle.archive_shelf.specs.Storing.{add_to_last, new_volume}
use Rattle.archive_volumes.specs.Held.{is_filled}

-- ---- how lists of volumes grow

-- each but the last is the same, and the last has grown
abbrev pub GrowIn : List Volume → List Volume → Type 0
GrowIn [] new = Unit {0}
GrowIn (v ∷ []) [] = ⊥
GrowIn (v ∷ []) (w ∷ ws) = HasGrown v w
GrowIn (v ∷ u ∷ vs) [] = ⊥
GrowIn (v ∷ u ∷ vs) (w ∷ ws) = (w ≡ v) × GrowIn (u ∷ vs) ws

-- each but the last holds a capture
abbrev pub FilledIn : List Volume → Type 0
FilledIn [] = Unit {0}
FilledIn (v ∷ []) = Unit {0}
FilledIn (v ∷ u ∷ vs) = (0 < length v.captures) × FilledIn (u ∷ vs)

same_some : {A : Type 0} (x y : A) → Some x ≡ Some y → x ≡ y
same_some x y e = cc

none_some : {A : Type 0} (x : A) → None ≡ Some x → ⊥
none_some x e = cc

some_none : {A T : Type 0} (x : A) → None ≡ Some x → T
some_none x e = absurd (none_some x e)

no_true : false ≡ true → ⊥
no_true e = cc

no_nil : {A : Type 0} (x : A) (xs : List A) → x ∷ xs ≡ [] → ⊥
no_nil x xs e = cc

pub filled_in : (volumes : List Volume)
    → ((k : ℕ) (volume : Volume) → slice_get volumes k ≡ Some volume → k + 1 < length volumes → 0 < length volume.captures) → FilledIn volumes
filled_in [] each = tt
filled_in (v ∷ []) each = tt
filled_in (v ∷ u ∷ vs) each =
    (each 0 v refl (omega arith), filled_in (u ∷ vs) (λ k volume placed less. each (suc k) volume placed (omega (arith, less))))

pub grow_in : (old new : List Volume) → ((k : ℕ) → k + 1 < length old → slice_get new k ≡ slice_get old k)
    → ((k : ℕ) (volume : Volume) → k + 1 ≡ length old → slice_get old k ≡ Some volume → HasGrownAt new k volume) → GrowIn old new
grow_in [] new sealed last = tt
grow_in (v ∷ []) [] sealed last = let at = last 0 v (omega arith) refl in some_none at.volume at.placed
grow_in (v ∷ []) (w ∷ ws) sealed last =
    let at = last 0 v (omega arith) refl in subst (λ (x : Volume). HasGrown v x) (sym (same_some w at.volume at.placed)) at.grown
grow_in (v ∷ u ∷ vs) [] sealed last = some_none v (sealed 0 (omega arith))
grow_in (v ∷ u ∷ vs) (w ∷ ws) sealed last = (
  same_some w v (sealed 0 (omega arith)),
  grow_in (u ∷ vs) ws (λ k less. sealed (suc k) (omega (arith, less)))
      (λ k volume is placed. let at = last (suc k) volume (omega (arith, is)) placed in record { volume = at.volume; placed = at.placed; grown = at.grown }),
)

-- ---- one capture more

-- it stands in the last volume, or in a new one
abbrev pub IsNext : List Volume → List Volume → Stored → Option ℕ → Type 0
IsNext old new stored None = (old ≢ []) × (new ≡ add_to_last old stored)
IsNext old new stored (Some born) = ((old ≡ []) ⊎ (is_filled old ≡ true)) × (new ≡ add_to_last (old ++ new_volume born ∷ []) stored)

pub record HasNext (old new : List Volume) : Type 0 where
  pub stored : Stored
  pub begins : Option ℕ
  pub is : IsNext old new stored begins

not_zero : (n : ℕ) → not (nat_eq n 0) ≡ true → 0 < n
not_zero zero e = absurd (no_true e)
not_zero (suc n) e = omega arith

-- a filled list of volumes has a capture
pub some_in : (volumes : List Volume) → is_filled volumes ≡ true → 0 < length (captures_in volumes)
some_in [] filled = absurd (no_true filled)
some_in (v ∷ []) filled = let some = not_zero (length v.captures) filled in let all = length-append v.captures [] in omega (arith, some, all)
some_in (v ∷ u ∷ vs) filled =
    let later = some_in (u ∷ vs) filled in let all = length-append v.captures (captures_in (u ∷ vs)) in omega (arith, later, all)

pub record IsOne {A : Type 0} (xs : List A) : Type 0 where
  pub one : A
  pub is : xs ≡ one ∷ []

one_of : {A : Type 0} (xs : List A) → length xs ≡ 1 → IsOne xs
one_of [] is = absurd (omega (arith, is))
one_of (x ∷ []) is = record { one = x; is = refl }
one_of (x ∷ y ∷ xs) is = absurd (omega (arith, is))

none_of : {A : Type 0} (xs : List A) → length xs ≡ 0 → xs ≡ []
none_of [] is = refl
none_of (x ∷ xs) is = absurd (omega (arith, is))

-- volumes with one capture in all, behind a list that is full
next_volume : (volumes : List Volume) → FilledIn volumes → is_filled volumes ≡ true → length (captures_in volumes) ≡ 1
    → (stored : Stored) × (born : ℕ) × (volumes ≡ record { born = born; captures = stored ∷ [] } ∷ [])
next_volume [] filled last count = absurd (omega (arith, count))
next_volume (v ∷ []) filled last count =
    let all = length-append v.captures [] in
    let one = one_of v.captures (omega (arith, count, all)) in
    (one.one, v.born, λ i. record { born = v.born; captures = one.is i } ∷ [])
next_volume (v ∷ u ∷ vs) filled last count =
    let all = length-append v.captures (captures_in (u ∷ vs)) in
    let later = some_in (u ∷ vs) last in
    absurd (omega (arith, filled.0, all, later, count))

pub is_filled_by : (v : Volume) → 0 < length v.captures → is_filled (v ∷ []) ≡ true
is_filled_by v some = by_length (length v.captures) some where
  by_length : (n : ℕ) → 0 < n → not (nat_eq n 0) ≡ true
  by_length zero less = absurd (omega (arith, less))
  by_length (suc n) less = ap (λ (b : Bool). not b) (ne_eqb (suc n) 0 (λ e. absurd (omega (arith, e))))

pub next_in : (old new : List Volume) → GrowIn old new → FilledIn new → is_filled new ≡ true
    → length (captures_in new) ≡ length (captures_in old) + 1 → HasNext old new
next_in [] new grows filled last count =
    let one = next_volume new filled last (omega (arith, count)) in
    record { stored = one.0; begins = Some one.1; is = (inl refl, one.2) }
next_in (v ∷ []) [] grows filled last count = absurd grows
next_in (v ∷ []) (w ∷ []) grows filled last count =
    let a = length-append w.captures [] in
    let b = length-append v.captures [] in
    let c = length-append v.captures grows.added in
    let d = ap (λ (l : List Stored). length l) grows.captures in
    let one = one_of grows.added (omega (arith, a, b, c, d, count)) in
    record {
      stored = one.one;
      begins = None;
      is = (
        λ e. cc,
        λ i. record { born = grows.born i; captures = (grows.captures ∙ ap (λ (l : List Stored). v.captures ++ l) one.is) i } ∷ [],
      );
    }
next_in (v ∷ []) (w ∷ x ∷ xs) grows filled last count =
    let a = length-append w.captures (captures_in (x ∷ xs)) in
    let b = length-append v.captures [] in
    let c = length-append v.captures grows.added in
    let d = ap (λ (l : List Stored). length l) grows.captures in
    let later = some_in (x ∷ xs) last in
    let none = none_of grows.added (omega (arith, a, b, c, d, later, count)) in
    let same : w.captures ≡ v.captures = grows.captures ∙ (ap (λ (l : List Stored). v.captures ++ l) none ∙ append-nil v.captures) in
    let e = ap (λ (l : List Stored). length l) same in
    let one = next_volume (x ∷ xs) filled.1 last (omega (arith, a, b, e, count)) in
    record {
      stored = one.0;
      begins = Some one.1;
      is = (inr (is_filled_by v (omega (arith, filled.0, e))), λ i. record { born = grows.born i; captures = same i } ∷ one.2 i);
    }
next_in (v ∷ u ∷ vs) [] grows filled last count = absurd grows
next_in (v ∷ u ∷ vs) (w ∷ []) grows filled last count = absurd (none_grown u vs grows.1) where
  none_grown : (u : Volume) (vs : List Volume) → GrowIn (u ∷ vs) [] → ⊥
  none_grown u [] g = g
  none_grown u (t ∷ ts) g = g
next_in (v ∷ u ∷ vs) (w ∷ x ∷ xs) grows filled last count =
    let a = length-append w.captures (captures_in (x ∷ xs)) in
    let b = length-append v.captures (captures_in (u ∷ vs)) in
    let e = ap (λ (y : Volume). length y.captures) grows.0 in
    let later = next_in (u ∷ vs) (x ∷ xs) grows.1 filled.1 last (omega (arith, a, b, e, count)) in
    next_behind v w u vs (x ∷ xs) grows.0 later.stored later.begins later.is where
      next_behind : (v w u : Volume) (vs new : List Volume) → w ≡ v → (stored : Stored) (begins : Option ℕ) → IsNext (u ∷ vs) new stored begins
          → HasNext (v ∷ u ∷ vs) (w ∷ new)
      next_behind v w u vs new same stored None is =
          record { stored = stored; begins = None; is = (λ e. cc, λ i. same i ∷ is.1 i) }
      next_behind v w u vs new same stored (Some born) is =
          record { stored = stored; begins = Some born; is = (inr (⊎_elim (λ none. absurd (no_nil u vs none)) (λ filled. filled) is.0), λ i. same i ∷ is.1 i) }

pub next_of : (old new : Book) → Grows old new
    → ((k : ℕ) (volume : Volume) → slice_get new.volumes k ≡ Some volume → k + 1 < length new.volumes → 0 < length volume.captures)
    → is_filled new.volumes ≡ true → length (captures new) ≡ length (captures old) + 1 → HasNext old.volumes new.volumes
next_of old new grows filled last count =
    next_in old.volumes new.volumes (grow_in old.volumes new.volumes grows.sealed grows.last) (filled_in new.volumes filled) last count

-- a list of volumes of which the last is empty isn't filled
pub empty_is_unfilled : (volumes : List Volume) (k : ℕ) (v : Volume) → k + 1 ≡ length volumes → slice_get volumes k ≡ Some v → v.captures ≡ []
    → is_filled volumes ≡ false
empty_is_unfilled [] k v last placed none = absurd (omega (arith, last))
empty_is_unfilled (w ∷ []) zero v last placed none =
    ap (λ (x : Volume). not (nat_eq (length x.captures) 0)) (same w v placed) ∙ ap (λ (l : List _). not (nat_eq (length l) 0)) none where
      same : (x y : Volume) → Some x ≡ Some y → x ≡ y
      same x y e = cc
empty_is_unfilled (w ∷ []) (suc k) v last placed none = absurd (omega (arith, last))
empty_is_unfilled (w ∷ u ∷ vs) zero v last placed none = absurd (omega (arith, last))
empty_is_unfilled (w ∷ u ∷ vs) (suc k) v last placed none = empty_is_unfilled (u ∷ vs) k v (omega (arith, last)) placed none
