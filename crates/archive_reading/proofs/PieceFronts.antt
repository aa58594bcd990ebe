-- What stands before the group in the piece of a capture.
use Rattle.std.proofs.Common.{◌≡◌, ◌≢◌, ℕ, zero, suc, ◌+◌, ◌-◌, ◌<◌, ◌≤◌, Bool, true, false, List, [], ◌∷◌, ◌++◌, length, take, Some, inl, inr, refl, sym, ap, ◌∙◌, ⊎_elim, arith, length-append}
use Rattle.std.specs.Prelude.{nat_eq, not, slice_get}
use Rattle.std.proofs.lemmas.Bool.{cases_lt, eqb-false, eqb-true, false≢true}
use Rattle.std.proofs.lemmas.Option.{same_Some, slice_get_within}
use Rattle.capture.specs.Captures.{captures_in, first_number}
use Rattle.capture.specs.declared.book.Book.{Book}
use Rattle.capture.specs.declared.book.Volume.{Volume}
use Rattle.warc_text.specs.Records.{info_text}
use Rattle.archive_shelf.specs.Pieces.{IsFirstOf}
use Rattle.archive_reading.specs.KeptGroups.{HasFront}
use Rattle.archive_volumes.specs.Spots.{AreSpotsOf, IsInVolume}
use Rattle.archive_volumes.specs.declared.spot.Spot.{Spot}

-- the numbers of a volume's captures are below those of each later volume
ends_before : (volumes : List Volume) (k j : ℕ) (v : Volume) → slice_get volumes k ≡ Some v → k < j → j < length volumes
    → length (captures_in (take k volumes)) + length v.captures ≤ length (captures_in (take j volumes))
ends_before [] k j v at lt within = absurd (omega (arith, within))
ends_before (w ∷ ws) k zero v at lt within = absurd (omega (arith, lt))
ends_before (w ∷ ws) zero (suc j) v at lt within =
    omega (
      arith,
      ap (λ (x : Volume). length x.captures) (same_Some w v at),
      length-append w.captures (captures_in (take j ws)),
    )
ends_before (w ∷ ws) (suc k) (suc j) v at lt within =
    omega (
      arith,
      ends_before ws k j v at (omega (arith, lt)) (omega (arith, within)),
      length-append w.captures (captures_in (take k ws)),
      length-append w.captures (captures_in (take j ws)),
    )

not_before : (book : Book) (number k j : ℕ) → IsInVolume book number k → IsInVolume book number j → k < j → ⊥
not_before book number k j a b less =
    omega (
      arith,
      ends_before book.volumes k j a.of a.placed less (slice_get_within book.volumes j b.of b.placed),
      a.below,
      b.from,
    )

-- a capture is one of one volume
pub in_one_volume : (book : Book) (number k j : ℕ) → IsInVolume book number k → IsInVolume book number j → k ≡ j
in_one_volume book number k j a b =
    ⊎_elim
    (λ (less : k < j). absurd (not_before book number k j a b less))
    (λ (ge : j ≤ k). ⊎_elim
    (λ (more : j < k). absurd (not_before book number j k b a more))
    (λ (le : k ≤ j). omega (arith, ge, le))
    (cases_lt j k))
    (cases_lt k j)

-- the first one is one of it
first_is_in : (book : Book) (number k : ℕ) → IsFirstOf book number k → IsInVolume book number k
first_is_in book number k is = record {
  of = is.volume;
  placed = is.placed;
  from = omega (arith, is.first);
  below = omega (arith, is.first, is.some);
}

module _ (book : Book) (spots : List Spot) (are : AreSpotsOf book spots) (number : ℕ) (spot : Spot) (here : slice_get spots number ≡ Some spot) where
  inside : IsInVolume book number spot.volume
  inside = (are.each number spot here).inside

  first_by : number ≡ first_number book spot.volume → IsFirstOf book number spot.volume
  first_by is = record {
    volume = inside.of;
    placed = inside.placed;
    some = omega (arith, is, inside.below);
    first = is;
  }

  -- the very first capture
  pub first_of_all : number ≡ 0 → IsFirstOf book number spot.volume
  first_of_all none = first_by (omega (arith, none, inside.from))

  -- behind a capture of another volume
  pub first_behind : (before : Spot) → slice_get spots (number - 1) ≡ Some before → 0 < number → before.volume ≢ spot.volume → IsFirstOf book number spot.volume
  first_behind before at some other =
      first_by (⊎_elim
      (λ (less : first_number book spot.volume < number).
      let earlier : IsInVolume book (number - 1) spot.volume = record {
        of = inside.of;
        placed = inside.placed;
        from = omega (arith, less);
        below = omega (arith, inside.below);
      } in
      absurd (other (in_one_volume book (number - 1) before.volume spot.volume (are.each (number - 1) before at).inside earlier)))
      (λ (ge : number ≤ first_number book spot.volume). omega (arith, ge, inside.from))
      (cases_lt (first_number book spot.volume) number))

  -- behind one of the same volume it is the first of none
  pub none_behind : (before : Spot) → slice_get spots (number - 1) ≡ Some before → 0 < number → before.volume ≡ spot.volume
      → (k : ℕ) → IsFirstOf book number k → ⊥
  none_behind before at some same k is =
      let its : IsInVolume book (number - 1) before.volume = (are.each (number - 1) before at).inside in
      let volume : k ≡ before.volume = in_one_volume book number k spot.volume (first_is_in book number k is) inside ∙ sym same in
      omega (arith, some, its.from, is.first, ap (first_number book) volume)

-- the piece with the warcinfo, and without
pub with_info : (book : Book) (number volume : ℕ) (is : IsFirstOf book number volume) (info group bytes : List ℕ)
    → info ≡ info_text book.namespace volume is.volume.born → bytes ≡ info ++ group → HasFront book number group bytes
with_info book number volume is info group bytes same composed = record {
  front = info;
  before = inl (volume, is, same);
  composed = composed;
}

pub without_info : (book : Book) (number : ℕ) (group : List ℕ) → ((k : ℕ) → IsFirstOf book number k → ⊥) → HasFront book number group group
without_info book number group none = record { front = []; before = inr (none, refl); composed = refl }

-- ---- the test of two volumes

not_true : (b : Bool) → not b ≡ true → b ≡ false
not_true true e = absurd (false≢true e)
not_true false e = refl

not_false : (b : Bool) → not b ≡ false → b ≡ true
not_false true e = refl
not_false false e = absurd (false≢true (sym e))

pub differ : (a b : ℕ) → not (nat_eq a b) ≡ true → a ≢ b
differ a b e = eqb-false a b (not_true (nat_eq a b) e)

pub agree : (a b : ℕ) → not (nat_eq a b) ≡ false → a ≡ b
agree a b e = eqb-true a b (not_false (nat_eq a b) e)

pub spot_there : (spots : List Spot) (k : ℕ) → k < length spots → (spot : Spot) × (slice_get spots k ≡ Some spot)
spot_there [] k less = absurd (omega (arith, less))
spot_there (s ∷ ss) zero less = (s, refl)
spot_there (s ∷ ss) (suc k) less = spot_there ss k (omega (arith, less))
