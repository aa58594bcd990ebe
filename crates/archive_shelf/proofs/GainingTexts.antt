-- The texts of a book that gained a volume or a capture.
use Rattle.std.proofs.Common.{◌≡◌, ℕ, zero, suc, ◌+◌, ◌-◌, ◌<◌, ◌≤◌, List, [], ◌∷◌, ◌++◌, length, take, refl, sym, ap, subst, ◌∙◌, inl, inr, ⊎_elim, arith, append-nil, length-append}
use Rattle.std.specs.Prelude.{Some, slice_get, slice_index_or, set}
use Rattle.std.proofs.lemmas.Bool.{cases_lt}
use Rattle.std.proofs.lemmas.List.{get_or_append_left, get_or_push, get_or-set_other, length-set}
use Rattle.std.proofs.lemmas.Grind.{get_or-set_at}
use Rattle.std.proofs.lemmas.Option.{same_Some}
use Rattle.capture.specs.Captures.{captures, captures_in, first_number}
use Rattle.capture.specs.declared.book.Book.{Book}
use Rattle.capture.specs.declared.book.Volume.{Volume}
use Rattle.capture.specs.declared.captured.Stored.{Stored}
use Rattle.warc_journal.specs.Texts.{with_more}
use Rattle.warc_text.proofs.BookLaws.{get_behind}
use Rattle.warc_text.specs.Books.{AreVolumeTexts, IsGroupText, IsVolumeText, joined}
use Rattle.warc_text.specs.Growth.{AreAdded, LastVolumeGoesOn, SealedVolumesStay}
use Rattle.warc_text.specs.Records.{info_text}
use Rattle.archive_shelf.proofs.StoringLaws.{capture_grows, kept_before, volume_grows}
use Rattle.archive_shelf.specs.Gaining.{CapturesAddTheirGroup, VolumesAddTheirText}
use Rattle.archive_shelf.specs.Storing.{add_to_last, new_volume, with_capture, with_volume}

-- ---- a new volume

new_text : (book : Book) (born : ℕ)
    → IsVolumeText (with_volume book born) (length book.volumes) (info_text book.namespace (length book.volumes) born)
new_text book born = record {
  volume = new_volume born;
  groups = [];
  placed = get_behind (book.volumes ++ new_volume born ∷ []) book.volumes (new_volume born) [] (length book.volumes) refl refl;
  count = refl;
  each = λ j lt. absurd (omega (arith, lt));
  composed = sym (append-nil (info_text book.namespace (length book.volumes) born));
}

-- the text of each volume that was there
pub text_stays : SealedVolumesStay → LastVolumeGoesOn → (book : Book) (born k : ℕ) (text : List ℕ) → k < length book.volumes
    → IsVolumeText book k text → IsVolumeText (with_volume book born) k text
text_stays stay goes_on book born k text within is =
    ⊎_elim
    (λ (sealed : k + 1 < length book.volumes). stay book (with_volume book born) k text (volume_grows book born) sealed is)
    (λ (behind : length book.volumes ≤ k + 1).
    let added : AreAdded book (with_volume book born) k [] = record {
      before = is.volume;
      after = is.volume;
      was = is.placed;
      is = kept_before book.volumes (new_volume born) k within ∙ is.placed;
      count = omega arith;
      each = λ j lt. absurd (omega (arith, lt));
    } in
    subst (IsVolumeText (with_volume book born) k) (append-nil text)
    (goes_on book (with_volume book born) k text [] (volume_grows book born) (omega (arith, within, behind)) is added))
    (cases_lt (k + 1) (length book.volumes))

pub volumes_add_their_text : SealedVolumesStay → LastVolumeGoesOn → VolumesAddTheirText
volumes_add_their_text stay goes_on book born texts are =
    let info : List ℕ = info_text book.namespace (length book.volumes) born in
    let new : Book = with_volume book born in
    let long : length (texts ++ info ∷ []) ≡ length texts + 1 = length-append texts (info ∷ []) in
    let more : length (book.volumes ++ new_volume born ∷ []) ≡ length book.volumes + 1 = length-append book.volumes (new_volume born ∷ []) in
    record {
      count = omega (arith, long, more, are.count);
      each = λ k less. ⊎_elim
          (λ (before : k < length texts).
          subst (IsVolumeText new k) (sym (get_or_append_left texts (info ∷ []) [] k before))
          (text_stays stay goes_on book born k (slice_index_or texts k []) (omega (arith, before, are.count)) (are.each k before)))
          (λ (behind : length texts ≤ k).
          let at : k ≡ length texts = omega (arith, less, behind, long) in
          let volume : length book.volumes ≡ k = omega (arith, at, are.count) in
          subst (IsVolumeText new k) (sym (get_or_push texts info [] k (sym at)))
          (subst (λ (n : ℕ). IsVolumeText new n info) volume (new_text book born)))
          (cases_lt k (length texts));
    }

-- ---- a new capture

-- the last volume, with it
pub last_placed : (volumes : List Volume) (stored : Stored) (k : ℕ) (volume : Volume) → k + 1 ≡ length volumes
    → slice_get volumes k ≡ Some volume
    → slice_get (add_to_last volumes stored) k ≡ Some (record { born = volume.born; captures = volume.captures ++ stored ∷ [] })
last_placed [] stored k volume is at = absurd (omega (arith, is))
last_placed (v ∷ []) stored zero volume is at =
    ap (λ (w : Volume). Some (record { born = w.born; captures = w.captures ++ stored ∷ [] })) (same_Some v volume at)
last_placed (v ∷ []) stored (suc k) volume is at = absurd (omega (arith, is))
last_placed (v ∷ w ∷ others) stored zero volume is at = absurd (omega (arith, is))
last_placed (v ∷ w ∷ others) stored (suc k) volume is at = last_placed (w ∷ others) stored k volume (omega (arith, is)) at

-- those before it stay
front_stays : (volumes : List Volume) (stored : Stored) (k : ℕ) → k + 1 ≡ length volumes → take k (add_to_last volumes stored) ≡ take k volumes
front_stays [] stored k is = absurd (omega (arith, is))
front_stays (v ∷ []) stored zero is = refl
front_stays (v ∷ []) stored (suc k) is = absurd (omega (arith, is))
front_stays (v ∷ w ∷ others) stored zero is = absurd (omega (arith, is))
front_stays (v ∷ w ∷ others) stored (suc k) is = ap (λ (l : List Volume). v ∷ l) (front_stays (w ∷ others) stored k (omega (arith, is)))

-- all captures are those of the last volume, and of those before it
last_count : (volumes : List Volume) (k : ℕ) (volume : Volume) → k + 1 ≡ length volumes → slice_get volumes k ≡ Some volume
    → length (captures_in (take k volumes)) + length volume.captures ≡ length (captures_in volumes)
last_count [] k volume is at = absurd (omega (arith, is))
last_count (v ∷ []) zero volume is at =
    let same : v ≡ volume = same_Some v volume at in
    let one : length volume.captures ≡ length v.captures = ap (λ (w : Volume). length w.captures) (sym same) in
    let all : length (v.captures ++ []) ≡ length v.captures = ap length (append-nil v.captures) in
    omega (arith, one, all)
last_count (v ∷ []) (suc k) volume is at = absurd (omega (arith, is))
last_count (v ∷ w ∷ others) zero volume is at = absurd (omega (arith, is))
last_count (v ∷ w ∷ others) (suc k) volume is at =
    let behind = last_count (w ∷ others) k volume (omega (arith, is)) at in
    let front : length (v.captures ++ captures_in (take k (w ∷ others))) ≡ length v.captures + length (captures_in (take k (w ∷ others)))
    = length-append v.captures (captures_in (take k (w ∷ others))) in
    let all : length (v.captures ++ captures_in (w ∷ others)) ≡ length v.captures + length (captures_in (w ∷ others))
    = length-append v.captures (captures_in (w ∷ others)) in
    omega (arith, behind, front, all)

pub same_length : (volumes : List Volume) (stored : Stored) → length (add_to_last volumes stored) ≡ length volumes
same_length [] stored = refl
same_length (last ∷ []) stored = refl
same_length (first ∷ next ∷ others) stored = ap suc (same_length (next ∷ others) stored)

-- the number of the capture in its volume
pub number_in_last : (book : Book) (stored : Stored) (k : ℕ) (volume : Volume) → k + 1 ≡ length book.volumes
    → slice_get book.volumes k ≡ Some volume
    → first_number (with_capture book stored) k + length volume.captures ≡ length (captures book)
number_in_last book stored k volume is at =
    let front : length (captures_in (take k (add_to_last book.volumes stored))) ≡ length (captures_in (take k book.volumes))
    = ap (λ (l : List Volume). length (captures_in l)) (front_stays book.volumes stored k is) in
    omega (arith, front, last_count book.volumes k volume is at)

-- the text of the last volume goes on
pub text_goes_on : LastVolumeGoesOn → (book : Book) (stored : Stored) (k : ℕ) (text group : List ℕ) → k + 1 ≡ length book.volumes
    → IsVolumeText book k text → IsGroupText (with_capture book stored) (length (captures book)) group
    → IsVolumeText (with_capture book stored) k (text ++ group)
text_goes_on goes_on book stored k text group is_last is of =
    let new : Book = with_capture book stored in
    let number : first_number new k + length is.volume.captures ≡ length (captures book) = number_in_last book stored k is.volume is_last is.placed in
    let added : AreAdded book new k (group ∷ []) = record {
      before = is.volume;
      after = record { born = is.volume.born; captures = is.volume.captures ++ stored ∷ [] };
      was = is.placed;
      is = last_placed book.volumes stored k is.volume is_last is.placed;
      count = length-append is.volume.captures (stored ∷ []);
      each = only (first_number new k + length is.volume.captures) number;
    } in
    subst (IsVolumeText new k) (ap (λ (l : List ℕ). text ++ l) (append-nil group))
    (goes_on book new k text (group ∷ []) (capture_grows book stored) is_last is added)
  where
    only : (first : ℕ) → first ≡ length (captures book) → (j : ℕ) → j < 1
        → IsGroupText (with_capture book stored) (first + j) (slice_index_or (group ∷ []) j [])
    only first number zero less = subst (λ (n : ℕ). IsGroupText (with_capture book stored) n group) (omega (arith, number)) of
    only first number (suc j) less = absurd (omega (arith, less))

pub captures_add_their_group : SealedVolumesStay → LastVolumeGoesOn → CapturesAddTheirGroup
captures_add_their_group stay goes_on book stored texts group some are of =
    let new : Book = with_capture book stored in
    let last : ℕ = length texts - 1 in
    let is_last : last + 1 ≡ length book.volumes = omega (arith, some, are.count) in
    let text : List ℕ = slice_index_or texts last [] ++ group in
    let long : length (set texts last text) ≡ length texts = length-set texts last text in
    record {
      count = omega (arith, long, are.count, same_length book.volumes stored);
      each = λ k less. ⊎_elim
          (λ (before : k < last).
          subst (IsVolumeText new k) (sym (get_or-set_other texts last k text [] (λ (e : k ≡ last). omega (arith, e, before))))
          (stay book new k (slice_index_or texts k []) (capture_grows book stored) (omega (arith, before, is_last))
          (are.each k (omega (arith, less, long)))))
          (λ (behind : last ≤ k).
          let at : k ≡ last = omega (arith, less, long, behind, is_last, are.count) in
          subst (IsVolumeText new k) (sym (get_or-set_at texts last k text [] at (omega (arith, is_last, are.count))))
          (subst (λ (n : ℕ). IsVolumeText new n text) (sym at)
          (text_goes_on goes_on book stored last (slice_index_or texts last []) group is_last
          (are.each last (omega (arith, is_last, are.count))) of)))
          (cases_lt k last);
    }
