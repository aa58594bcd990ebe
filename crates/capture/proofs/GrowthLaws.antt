-- The captures of a book that has grown.
use Rattle.std.proofs.Common.{◌≡◌, ℕ, zero, suc, ◌+◌, ◌<◌, List, [], ◌∷◌, ◌++◌, length, get_or, ◌≢◌, ◌≤◌, Some, inl, inr, refl, sym, ap, subst, ◌∙◌, arith, append_assoc, append-nil}
use Rattle.std.specs.Prelude.{slice_get}
use Rattle.std.proofs.lemmas.Bool.Decides.{eqb_tells}
use Rattle.std.proofs.lemmas.Option.{same_Some, slice_get-get_or, slice_get_within}
use Rattle.capture.specs.Captures.{captures, captures_in, IsPayloadBy}
use Rattle.capture.specs.Growth.{HasGrown, HasGrownAt, Grows}
use Rattle.capture.specs.GrowthLaws.{GrowthKeepsCaptures, GrowsFromItself, GrowthGoesOn, GrowthKeepsPayloads}
use Rattle.capture.specs.declared.book.Book.{Book}
use Rattle.capture.specs.declared.book.Volume.{Volume}
use Rattle.capture.specs.declared.captured.Kept.{Kept}
use Rattle.capture.specs.declared.captured.Kept.TheVariants.{Wire, Same, Cut}
use Rattle.capture.specs.declared.captured.Stored.{Stored}

-- what growth says of the volumes alone
record VolumesGrow (old new : List Volume) : Type 0 where
  sealed : (k : ℕ) → k + 1 < length old → slice_get new k ≡ slice_get old k
  last : (k : ℕ) (volume : Volume) → k + 1 ≡ length old → slice_get old k ≡ Some volume → HasGrownAt new k volume

first_at : (volumes : List Volume) (volume : Volume) → slice_get volumes 0 ≡ Some volume → (rest : List Volume) × (volumes ≡ volume ∷ rest)
first_at [] volume e = cc
first_at (v ∷ rest) volume e = (rest, ap (λ (first : Volume). first ∷ rest) (same_Some v volume e))

-- behind the first volume, which is sealed, the others have grown
others_grow : (v w : Volume) (old rest : List Volume) → VolumesGrow (v ∷ w ∷ old) (v ∷ rest) → VolumesGrow (w ∷ old) rest
others_grow v w old rest grow = record {
  sealed = λ k below. grow.sealed (suc k) (omega arith);
  last = λ k volume is_last at. moved k volume (grow.last (suc k) volume (omega arith) at);
}
  where
    moved : (k : ℕ) (volume : Volume) → HasGrownAt (v ∷ rest) (suc k) volume → HasGrownAt rest k volume
    moved k volume at = record { volume = at.volume; placed = at.placed; grown = at.grown }

regrouped : (a b c : List Stored) → a ++ b ++ c ≡ (a ++ []) ++ (b ++ c)
regrouped a b c = simp append_assoc

volumes_keep : (old new : List Volume) → VolumesGrow old new → (added : List Stored) × (captures_in new ≡ captures_in old ++ added)
volumes_keep [] new grow = (captures_in new, refl)
volumes_keep (v ∷ []) new grow =
    let at = grow.last 0 v refl refl in
    let new_is = first_at new at.volume at.placed in (
      at.grown.added ++ captures_in new_is.0,
      ap captures_in new_is.1 ∙ ap (λ (front : List Stored). front ++ captures_in new_is.0) at.grown.captures
          ∙ regrouped v.captures at.grown.added (captures_in new_is.0),
    )
volumes_keep (v ∷ w ∷ old) new grow =
    let new_is = first_at new v (grow.sealed 0 (omega arith)) in
    let others = volumes_keep (w ∷ old) new_is.0 (others_grow v w old new_is.0 (subst (VolumesGrow (v ∷ w ∷ old)) new_is.1 grow)) in (
      others.0,
      ap captures_in new_is.1 ∙ ap (λ (behind : List Stored). v.captures ++ behind) others.1
          ∙ sym (append_assoc v.captures (captures_in (w ∷ old)) others.0),
    )

pub growth_keeps_captures : GrowthKeepsCaptures
growth_keeps_captures old new grow =
    volumes_keep old.volumes new.volumes (record { sealed = grow.sealed; last = grow.last })

-- ---- growth in steps

pub grows_from_itself : GrowsFromItself
grows_from_itself book = record {
  namespace = refl;
  sealed = λ k below. refl;
  last = λ k volume is_last at. record {
    volume = volume;
    placed = at;
    grown = record { added = []; born = refl; captures = sym (append-nil volume.captures) };
  };
}

-- volumes that have grown are no fewer
no_fewer : (old new : List Volume) → VolumesGrow old new → length old ≤ length new
no_fewer [] new grow = omega arith
no_fewer (v ∷ old) new grow =
    let at = grow.last (length old) (get_or (v ∷ old) (length old) v) (omega arith)
    (slice_get-get_or (v ∷ old) (length old) v (omega arith)) in
    omega (arith, slice_get_within new (length old) at.volume at.placed)

grown_twice : (a b c : Volume) → HasGrown a b → HasGrown b c → HasGrown a c
grown_twice a b c first second = record {
  added = first.added ++ second.added;
  born = second.born ∙ first.born;
  captures = second.captures ∙ ap (λ (front : List Stored). front ++ second.added) first.captures
      ∙ append_assoc a.captures first.added second.added;
}

-- the last volume of the first book, in the third
last_twice : (second third : List Volume) (k : ℕ) (volume : Volume) → HasGrownAt second k volume → VolumesGrow second third → HasGrownAt third k volume
last_twice second third k volume at grow =
    elim (eqb_tells (k + 1) (length second)) [
      | inl is_last ↦ let on = grow.last k at.volume is_last.1 at.placed in
          record { volume = on.volume; placed = on.placed; grown = grown_twice volume at.volume on.volume at.grown on.grown }
      | inr is_not ↦ record {
        volume = at.volume;
        placed = grow.sealed k (below k (length second) (slice_get_within second k at.volume at.placed) is_not.1) ∙ at.placed;
        grown = at.grown;
      }
    ]
  where
    below : (k n : ℕ) → k < n → k + 1 ≢ n → k + 1 < n
    below k n h other = omega (arith, h, other)

pub growth_goes_on : GrowthGoesOn
growth_goes_on first second third one two =
    let more = no_fewer first.volumes second.volumes (record { sealed = one.sealed; last = one.last }) in record {
      namespace = two.namespace ∙ one.namespace;
      sealed = λ k below. two.sealed k (omega (arith, below, more)) ∙ one.sealed k below;
      last = λ k volume is_last at. last_twice second.volumes third.volumes k volume (one.last k volume is_last at)
          (record { sealed = two.sealed; last = two.last });
    }

-- ---- payloads

-- what stands in a list stands there when the list goes on
get_before : (xs ys : List Stored) (k : ℕ) (x : Stored) → slice_get xs k ≡ Some x → slice_get (xs ++ ys) k ≡ Some x
get_before [] ys k x e = cc
get_before (y ∷ xs) ys zero x e = e
get_before (y ∷ xs) ys (suc k) x e = get_before xs ys k x e

placed_later : (old new : Book) (number : ℕ) (stored : Stored) → Grows old new → slice_get (captures old) number ≡ Some stored
    → slice_get (captures new) number ≡ Some stored
placed_later old new number stored grow placed =
    let more = growth_keeps_captures old new grow in
    ap (λ (all : List Stored). slice_get all number) more.1 ∙ get_before (captures old) more.0 number stored placed

payload_later : (old new : Book) (stored : Stored) (kept : Kept) (payload : List ℕ) → Grows old new → IsPayloadBy old stored kept payload
    → IsPayloadBy new stored kept payload
payload_later old new stored (Wire wire) payload grow is = is
payload_later old new stored (Same first) payload grow is = (
  is.0,
  is.1,
  record { placed = placed_later old new first is.0 grow is.2.placed; kept = is.2.kept; has = is.2.has },
)
payload_later old new stored (Cut wire) payload grow is = is

pub growth_keeps_payloads : GrowthKeepsPayloads
growth_keeps_payloads old new number payload grow is = record {
  stored = is.stored;
  placed = placed_later old new number is.stored grow is.placed;
  by_kept = payload_later old new is.stored is.stored.kept payload grow is.by_kept;
}
