-- The texts of a book that has grown.
use Rattle.std.proofs.Common.{◌≡◌, ℕ, zero, suc, ◌+◌, ◌-◌, ◌<◌, List, [], ◌∷◌, ◌++◌, length, length-append, append_assoc, take, refl, sym, ap, ap₂, subst, ◌∙◌, inl, inr, arith}
use Rattle.std.specs.Prelude.{Option, Some, None, slice_get, slice_index_or}
use Rattle.std.proofs.lemmas.Bool.{cases_lt}
use Rattle.std.proofs.lemmas.Grind.{flat_map-append}
use Rattle.std.proofs.lemmas.List.{get_or-append_right}
use Rattle.std.proofs.Math.ListN.{get_or-append}
use Rattle.std.proofs.lemmas.Option.{same_Some}
use Rattle.sha1.specs.Sha1.{sha1}
use Rattle.capture.specs.Captures.{captures_in, captures, first_number, taken_back, IsPayloadBy}
use Rattle.capture.specs.Growth.{Grows}
use Rattle.capture.specs.declared.book.Book.{Book}
use Rattle.capture.specs.declared.book.Volume.{Volume}
use Rattle.capture.specs.declared.captured.Kept.{Kept}
use Rattle.capture.specs.declared.captured.Kept.TheVariants.{Wire, Same, Cut}
use Rattle.capture.specs.declared.captured.Stored.{Stored}
use Rattle.capture.specs.GrowthLaws.{GrowthKeepsCaptures, GrowthKeepsPayloads}
use Rattle.warc_text.specs.declared.same_of.SameOf.{SameOf}
use Rattle.warc_text.specs.Books.{RefersBy, IsGroupText, joined, IsVolumeText}
use Rattle.warc_text.specs.Growth.{GroupsStay, SealedVolumesStay, AreAdded, LastVolumeGoesOn}
use Rattle.warc_text.specs.Records.{info_text, group_text}
use Rattle.warc_text.specs.References.{reference_of}
use Rattle.warc_text.proofs.OneTextLaws.{one_at}

-- what growth keeps of the captures
pub record GrowthKeeps : Type 0 where
  pub captures : GrowthKeepsCaptures
  pub payloads : GrowthKeepsPayloads

-- an element stays at its place where others come behind it
stays_at : {X : Type 0} (xs more : List X) (k : ℕ) (x : X) → slice_get xs k ≡ Some x → slice_get (xs ++ more) k ≡ Some x
stays_at [] more k x e = absurd (none_is_not_some x e)
  where
    none_is_not_some : {X : Type 0} (x : X) → None ≡ Some x → ⊥
    none_is_not_some x e = cc
stays_at (y ∷ ys) more zero x e = e
stays_at (y ∷ ys) more (suc k) x e = stays_at ys more k x e

capture_stays : GrowthKeeps → (old new : Book) (number : ℕ) (stored : Stored) → Grows old new → slice_get (captures old) number ≡ Some stored → slice_get (captures new) number ≡ Some stored
capture_stays keep old new number stored grow placed =
    let kept = keep.captures old new grow in
    ap (λ (l : List Stored). slice_get l number) kept.1 ∙ stays_at (captures old) kept.0 number stored placed

payload_stays : GrowthKeeps → (old new : Book) (number : ℕ) (stored : Stored) (payload : List ℕ) → Grows old new → slice_get (captures old) number ≡ Some stored
    → IsPayloadBy old stored stored.kept payload → IsPayloadBy new stored stored.kept payload
payload_stays keep old new number stored payload grow placed is =
    let of = keep.payloads old new number payload grow (record { stored = stored; placed = placed; by_kept = is }) in
    let one = one_at (slice_get (captures new) number) of.stored stored of.placed (capture_stays keep old new number stored grow placed) in
    subst (λ (s : Stored). IsPayloadBy new s s.kept payload) one of.by_kept

refers_stays : GrowthKeeps → (old new : Book) (kept : Kept) (same : Option SameOf) → Grows old new → RefersBy old kept same → RefersBy new kept same
refers_stays keep old new (Wire wire) same grow is = is
refers_stays keep old new (Same first) same grow is = (is.0, capture_stays keep old new first is.0 grow is.1, is.2)
refers_stays keep old new (Cut wire) same grow is = is

pub groups_stay : GrowthKeeps → GroupsStay
groups_stay keep old new number text grow g = record {
  stored = g.stored;
  payload = g.payload;
  same = g.same;
  placed = capture_stays keep old new number g.stored grow g.placed;
  payload_is = payload_stays keep old new number g.stored g.payload grow g.placed g.payload_is;
  refers = refers_stays keep old new g.stored.kept g.same grow g.refers;
  composed = g.composed ∙ ap (λ (n : List ℕ). group_text n number (taken_back g.stored) (sha1 g.payload) (reference_of n g.same)) (sym grow.namespace);
}

-- lists that agree below a place begin alike
takes_alike : {X : Type 0} (xs ys : List X) (k : ℕ) → ((j : ℕ) → j < k → slice_get ys j ≡ slice_get xs j) → take k ys ≡ take k xs
takes_alike xs ys zero same = refl
takes_alike [] [] (suc k) same = refl
takes_alike [] (y ∷ ys) (suc k) same = let first : Some y ≡ None = same 0 (omega arith) in cc
takes_alike (x ∷ xs) [] (suc k) same = let first : None ≡ Some x = same 0 (omega arith) in cc
takes_alike (x ∷ xs) (y ∷ ys) (suc k) same =
    ap₂ (λ a l. a ∷ l) (same_Some y x (same 0 (omega arith))) (takes_alike xs ys k (λ j lt. same (suc j) (omega (arith, lt))))

first_number_stays : (old new : Book) (k : ℕ) → Grows old new → k < length old.volumes → first_number new k ≡ first_number old k
first_number_stays old new k grow within =
    ap (λ (l : List Volume). length (captures_in l)) (takes_alike old.volumes new.volumes k (λ j lt. grow.sealed j (omega (arith, lt, within))))

group_at : GrowthKeeps → (old new : Book) (k j : ℕ) (text : List ℕ) → Grows old new → k < length old.volumes → IsGroupText old (first_number old k + j) text
    → IsGroupText new (first_number new k + j) text
group_at keep old new k j text grow within g =
    subst (λ m. IsGroupText new (m + j) text) (sym (first_number_stays old new k grow within)) (groups_stay keep old new (first_number old k + j) text grow g)

pub sealed_volumes_stay : GrowthKeeps → SealedVolumesStay
sealed_volumes_stay keep old new k text grow below is = record {
  volume = is.volume;
  groups = is.groups;
  placed = grow.sealed k below ∙ is.placed;
  count = is.count;
  each = λ j lt. group_at keep old new k j (slice_index_or is.groups j []) grow (omega (arith, below)) (is.each j lt);
  composed = is.composed ∙ ap (λ (n : List ℕ). info_text n k is.volume.born ++ joined is.groups) (sym grow.namespace);
}

-- the groups of the volume: those that it had, and those that are added
all_groups : GrowthKeeps → (old new : Book) (k : ℕ) (text : List ℕ) (groups : List (List ℕ)) → Grows old new → k < length old.volumes → (is : IsVolumeText old k text) → AreAdded old new k groups
    → (j : ℕ) → j < length (is.groups ++ groups) → IsGroupText new (first_number new k + j) (slice_index_or (is.groups ++ groups) j [])
all_groups keep old new k text groups grow within is added j lt =
    let had = is.groups in
    let before : is.volume ≡ added.before = one_at (slice_get old.volumes k) is.volume added.before is.placed added.was in
    let count : length had ≡ length added.before.captures = is.count ∙ ap (λ (v : Volume). length v.captures) before in
    elim (cases_lt j (length had)) [
      | inl first ↦
          subst (IsGroupText new (first_number new k + j)) (sym (get_or-append had groups [] j first))
          (group_at keep old new k j (slice_index_or had j []) grow within (is.each j first))
      | inr later ↦
          let i : ℕ = j - length had in
          let number : first_number new k + length added.before.captures + i ≡ first_number new k + j = omega (arith, later, count) in
          subst (IsGroupText new (first_number new k + j)) (sym (get_or-append_right had groups (length had) j [] refl later))
          (subst (λ m. IsGroupText new m (slice_index_or groups i [])) number (added.each i (omega (arith, lt, later, length-append had groups))))
    ]

pub last_volume_goes_on : GrowthKeeps → LastVolumeGoesOn
last_volume_goes_on keep old new k text groups grow is_last is added =
    let before : is.volume ≡ added.before = one_at (slice_get old.volumes k) is.volume added.before is.placed added.was in
    let grown = grow.last k added.before is_last added.was in
    let after : grown.volume ≡ added.after = one_at (slice_get new.volumes k) grown.volume added.after grown.placed added.is in
    let born : is.volume.born ≡ added.after.born =
    ap (λ (v : Volume). v.born) before ∙ sym grown.grown.born ∙ ap (λ (v : Volume). v.born) after in
    let count : length is.groups ≡ length added.before.captures = is.count ∙ ap (λ (v : Volume). length v.captures) before in
    record {
      volume = added.after;
      groups = is.groups ++ groups;
      placed = added.is;
      count = length-append is.groups groups ∙ omega (arith, count, added.count);
      each = all_groups keep old new k text groups grow (omega (arith, is_last)) is added;
      composed = ap (λ (l : List ℕ). l ++ joined groups) is.composed
          ∙ ap₂ (λ (n : List ℕ) (b : ℕ). (info_text n k b ++ joined is.groups) ++ joined groups) (sym grow.namespace) born
          ∙ append_assoc (info_text new.namespace k added.after.born) (joined is.groups) (joined groups)
          ∙ ap (λ (l : List ℕ). info_text new.namespace k added.after.born ++ l) (sym (flat_map-append (λ (t : List ℕ). t) is.groups groups));
    }
