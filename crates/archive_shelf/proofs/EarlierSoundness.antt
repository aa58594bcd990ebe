-- A book from which a sound one has grown is sound.
use Rattle.std.proofs.Common.{◌≡◌, ℕ, zero, suc, ◌+◌, ◌-◌, ◌^◌, ◌<◌, ◌≤◌, List, [], ◌∷◌, ◌++◌, length, refl, sym, ap, subst, ◌∙◌, ⊎_elim, arith, length-append}
use Rattle.std.specs.Prelude.{All, Some, drop, get_or, slice_get, slice_index_or}
use Rattle.std.proofs.lemmas.Bool.{cases_lt}
use Rattle.std.proofs.lemmas.List.{get_or-drop, length-drop}
use Rattle.std.proofs.lemmas.List.Elements.{All-cons, All-head, All-nil, All-tail}
use Rattle.std.proofs.lemmas.Option.{same_Some, slice_get-get_or, slice_get_within}
use Rattle.capture.specs.Captures.{KeepsPayload, captures, first_number}
use Rattle.capture.specs.Growth.{Grows, HasGrownAt}
use Rattle.capture.specs.GrowthLaws.{GrowthKeepsCaptures}
use Rattle.capture.specs.Soundness.{HasSoundCaptures, IsSoundBy, IsSoundCapture}
use Rattle.capture.specs.declared.book.Book.{Book}
use Rattle.capture.specs.declared.book.Volume.{Volume}
use Rattle.capture.specs.declared.captured.Kept.{Kept}
use Rattle.capture.specs.declared.captured.Kept.TheVariants.{Wire, Same, Cut}
use Rattle.capture.specs.declared.captured.Stored.{Stored}
use Rattle.time_text.specs.Texts.{InRange}
use Rattle.warc_text.specs.Books.{IsGroupText, IsVolumeText, joined}
use Rattle.warc_text.specs.Growth.{AreAdded, LastVolumeGoesOn, SealedVolumesStay, SoundVolumesHaveOneText}
use Rattle.warc_text.specs.Ids.{IsUuid}
use Rattle.warc_text.specs.Sound.{IsSound}
use Rattle.archive_shelf.proofs.ComparingLaws.{placed_before, placed_later}
use Rattle.archive_shelf.specs.Gaining.{GrowthLeavesSoundness}

-- ---- lists

-- what holds of all holds of those at the front
all_front : {X : Type 0} (P : X → Type 0) (xs ys : List X) → All P (xs ++ ys) → All P xs
all_front P [] ys all = All-nil P
all_front P (x ∷ xs) ys all = All-cons P x xs (All-head P x (xs ++ ys) all) (all_front P xs ys (All-tail P x (xs ++ ys) all))

-- and of each
all_at : {X : Type 0} (P : X → Type 0) (xs : List X) (k : ℕ) (x : X) → All P xs → slice_get xs k ≡ Some x → P x
all_at P [] k x all e = cc
all_at P (y ∷ ys) zero x all e = subst P (same_Some y x e) (All-head P y ys all)
all_at P (y ∷ ys) (suc k) x all e = all_at P ys k x (All-tail P y ys all) e

-- what holds of each holds of all
each_all : {X : Type 0} (P : X → Type 0) (xs : List X) → ((k : ℕ) (x : X) → slice_get xs k ≡ Some x → P x) → All P xs
each_all P [] each = All-nil P
each_all P (x ∷ xs) each = All-cons P x xs (each 0 x refl) (each_all P xs (λ k y at. each (suc k) y at))

module _ (old new : Book) (grows : Grows old new) where
  -- ---- volumes

  -- a volume of the old book was born when that of the new one was
  born_at : (k : ℕ) (volume : Volume) → slice_get old.volumes k ≡ Some volume → All (λ (v : Volume). InRange v.born) new.volumes → InRange volume.born
  born_at k volume at all =
      let within : k < length old.volumes = slice_get_within old.volumes k volume at in
      ⊎_elim
      (λ (sealed : k + 1 < length old.volumes).
      all_at (λ (v : Volume). InRange v.born) new.volumes k volume all (grows.sealed k sealed ∙ at))
      (λ (behind : length old.volumes ≤ k + 1).
      let grown : HasGrownAt new.volumes k volume = grows.last k volume (omega (arith, within, behind)) at in
      subst InRange grown.grown.born (all_at (λ (v : Volume). InRange v.born) new.volumes k grown.volume all grown.placed))
      (cases_lt (k + 1) (length old.volumes))

  -- a volume behind which another one stands has one behind it in the new book too
  sealed_later : (k : ℕ) (volume : Volume) → slice_get old.volumes k ≡ Some volume → k + 1 < length old.volumes → k + 1 < length new.volumes
  sealed_later k volume at less =
      let last : ℕ = length old.volumes - 1 in
      let there : slice_get old.volumes last ≡ Some (get_or old.volumes last volume) = slice_get-get_or old.volumes last volume (omega (arith, less)) in
      let grown : HasGrownAt new.volumes last (get_or old.volumes last volume) =
      grows.last last (get_or old.volumes last volume) (omega (arith, less)) there in
      omega (arith, less, slice_get_within new.volumes last grown.volume grown.placed)

  -- ---- captures

  module _ (added : List Stored) (is : captures new ≡ captures old ++ added) where
    keeps_before : (number first : ℕ) (original : Stored) (wire payload : List ℕ) → number < length (captures old) → first < number
        → KeepsPayload new first original wire payload → KeepsPayload old first original wire payload
    keeps_before number first original wire payload within earlier keeps = record {
      placed = placed_before old new added is first original (omega (arith, within, earlier)) keeps.placed;
      kept = keeps.kept;
      has = keeps.has;
    }

    by_before : (number : ℕ) (stored : Stored) (kept : Kept) → number < length (captures old) → IsSoundBy new number stored kept → IsSoundBy old number stored kept
    by_before number stored (Wire wire) within sound = sound
    by_before number stored (Cut wire) within sound = sound
    by_before number stored (Same first) within sound = record {
      earlier = sound.earlier;
      original = sound.original;
      wire = sound.wire;
      payload = sound.payload;
      keeps = keeps_before number first sound.original sound.wire sound.payload within sound.earlier sound.keeps;
      head = sound.head;
    }

    capture_before : (number : ℕ) (stored : Stored) → slice_get (captures old) number ≡ Some stored → HasSoundCaptures new → IsSoundCapture old number stored
    capture_before number stored at sound =
        let within : number < length (captures old) = slice_get_within (captures old) number stored at in
        let its : IsSoundCapture new number stored = sound.each number stored (placed_later old new added is number stored at) in
        record {
          target = its.target;
          request = its.request;
          kept = by_before number stored stored.kept within its.kept;
        }

    captures_before : HasSoundCaptures new → HasSoundCaptures old
    captures_before sound = record {
      few = omega (arith, sound.few, ap length is, length-append (captures old) added);
      short_requests = all_front (λ (s : Stored). length s.request < 2 ^ 34) (captures old) added
          (subst (λ (l : List Stored). All (λ (s : Stored). length s.request < 2 ^ 34) l) is sound.short_requests);
      filled = λ k volume at less. sound.filled k volume (grows.sealed k less ∙ at) (sealed_later k volume at less);
      each = λ number stored at. capture_before number stored at sound;
    }

  -- ---- texts

  -- the groups of the last volume's captures that came later
  later_groups : (k : ℕ) (text : List ℕ) (was : IsVolumeText old k text) (other : List ℕ) (is : IsVolumeText new k other) → HasGrownAt new.volumes k was.volume
      → AreAdded old new k (drop (length was.volume.captures) is.groups)
  later_groups k text was other is grown =
      let before : ℕ = length was.volume.captures in
      let same : is.volume ≡ grown.volume = same_Some is.volume grown.volume (sym is.placed ∙ grown.placed) in
      let many : length is.groups ≡ before + length grown.grown.added =
      is.count ∙ ap (λ (v : Volume). length v.captures) same ∙ ap length grown.grown.captures ∙ length-append was.volume.captures grown.grown.added in
      let left : length (drop before is.groups) ≡ length is.groups - before = length-drop before is.groups in
      record {
        before = was.volume;
        after = is.volume;
        was = was.placed;
        is = is.placed;
        count = omega (arith, many, left, is.count);
        each = λ j less.
            let at : first_number new k + (before + j) ≡ first_number new k + before + j = omega arith in
            subst (IsGroupText new (first_number new k + before + j)) (sym (get_or-drop before is.groups j []))
            (subst (λ (n : ℕ). IsGroupText new n (slice_index_or is.groups (before + j) [])) at (is.each (before + j) (omega (arith, less, many, left))));
      }

  short_before : SealedVolumesStay → LastVolumeGoesOn → IsSound new → (one : (k : ℕ) → k < length new.volumes → (other : List ℕ) × IsVolumeText new k other)
      → (k : ℕ) (text : List ℕ) → IsVolumeText old k text → length text < 2 ^ 62
  short_before stay goes_on sound one k text was =
      let within : k < length old.volumes = slice_get_within old.volumes k was.volume was.placed in
      ⊎_elim
      (λ (sealed : k + 1 < length old.volumes). sound.short_texts k text (stay old new k text grows sealed was))
      (λ (behind : length old.volumes ≤ k + 1).
      let last : k + 1 ≡ length old.volumes = omega (arith, within, behind) in
      let grown : HasGrownAt new.volumes k was.volume = grows.last k was.volume last was.placed in
      let other = one k (slice_get_within new.volumes k grown.volume grown.placed) in
      let groups : List (List ℕ) = drop (length was.volume.captures) other.1.groups in
      let whole = goes_on old new k text groups grows last was (later_groups k text was other.0 other.1 grown) in
      omega (arith, sound.short_texts k (text ++ joined groups) whole, length-append text (joined groups)))
      (cases_lt (k + 1) (length old.volumes))

pub growth_leaves_soundness : GrowthKeepsCaptures → SealedVolumesStay → LastVolumeGoesOn → SoundVolumesHaveOneText → GrowthLeavesSoundness
growth_leaves_soundness keep stay goes_on one old new grows sound =
    let more = keep old new grows in
    record {
      namespace_is = subst IsUuid grows.namespace sound.namespace_is;
      births = each_all (λ (v : Volume). InRange v.born) old.volumes (λ k volume at. born_at old new grows k volume at sound.births);
      dates = all_front (λ (s : Stored). InRange s.date) (captures old) more.0
          (subst (λ (l : List Stored). All (λ (s : Stored). InRange s.date) l) more.1 sound.dates);
      sound = captures_before old new grows more.0 more.1 sound.sound;
      short_texts = short_before old new grows stay goes_on sound
          (λ k less. let text = one new k sound less in (text.text, text.is));
    }
