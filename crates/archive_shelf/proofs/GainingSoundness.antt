-- A sound book stays sound when it gains a volume, or a capture that fits.
use Rattle.std.proofs.Common.{◌≡◌, ◌≢◌, ◌⊎◌, ℕ, suc, ◌+◌, ◌-◌, ◌^◌, ◌<◌, ◌≤◌, List, [], ◌∷◌, ◌++◌, length, refl, sym, ap, subst, ◌∙◌, ⊎_elim, arith, append-nil, length-append}
use Rattle.std.specs.Prelude.{All, Some, slice_get}
use Rattle.std.proofs.lemmas.Bool.{cases_lt}
use Rattle.std.proofs.lemmas.List.Elements.{All-append, All-cons, All-head, All-nil, All-tail}
use Rattle.std.proofs.lemmas.Option.{same_Some, slice_get_within}
use Rattle.capture.specs.Captures.{KeepsPayload, captures, captures_in}
use Rattle.capture.specs.Soundness.{IsSoundBy, IsSoundCapture}
use Rattle.capture.specs.declared.book.Book.{Book}
use Rattle.capture.specs.declared.book.Volume.{Volume}
use Rattle.capture.specs.declared.captured.Kept.{Kept}
use Rattle.capture.specs.declared.captured.Kept.TheVariants.{Wire, Same, Cut}
use Rattle.capture.specs.declared.captured.Stored.{Stored}
use Rattle.time_text.specs.Texts.{InRange}
use Rattle.warc_text.proofs.BookLaws.{get_behind}
use Rattle.warc_text.specs.Books.{IsVolumeText, joined}
use Rattle.warc_text.specs.Growth.{LastVolumeGoesOn, NumbersHaveOneGroup, SealedVolumesStay, SoundVolumesHaveOneText}
use Rattle.warc_text.specs.Records.{info_text}
use Rattle.warc_text.specs.Sound.{IsSound}
use Rattle.archive_shelf.proofs.ComparingLaws.{placed_before, placed_later}
use Rattle.archive_shelf.proofs.GainingTexts.{same_length, text_stays}
use Rattle.archive_shelf.proofs.OneWayLaws.{one_text}
use Rattle.archive_shelf.proofs.ShortTexts.{short_info}
use Rattle.archive_shelf.proofs.StoringLaws.{captures_more, captures_stay, capture_grows, kept_before}
use Rattle.archive_shelf.specs.Gaining.{VolumesKeepSoundness}
use Rattle.archive_shelf.specs.Storing.{add_to_last, new_volume, with_capture, with_volume}

-- ---- what is sound stays so when captures come behind

pub keeps_later : (old new : Book) (added : List Stored) (is : captures new ≡ captures old ++ added) (first : ℕ) (original : Stored) (wire payload : List ℕ)
    → KeepsPayload old first original wire payload → KeepsPayload new first original wire payload
keeps_later old new added is first original wire payload keeps = record {
  placed = placed_later old new added is first original keeps.placed;
  kept = keeps.kept;
  has = keeps.has;
}

by_later : (old new : Book) (added : List Stored) (is : captures new ≡ captures old ++ added) (number : ℕ) (stored : Stored) (kept : Kept)
    → IsSoundBy old number stored kept → IsSoundBy new number stored kept
by_later old new added is number stored (Wire wire) sound = sound
by_later old new added is number stored (Cut wire) sound = sound
by_later old new added is number stored (Same first) sound = record {
  earlier = sound.earlier;
  original = sound.original;
  wire = sound.wire;
  payload = sound.payload;
  keeps = keeps_later old new added is first sound.original sound.wire sound.payload sound.keeps;
  head = sound.head;
}

capture_later : (old new : Book) (added : List Stored) (is : captures new ≡ captures old ++ added) (number : ℕ) (stored : Stored)
    → IsSoundCapture old number stored → IsSoundCapture new number stored
capture_later old new added is number stored sound = record {
  target = sound.target;
  request = sound.request;
  kept = by_later old new added is number stored stored.kept sound.kept;
}

-- ---- a new volume

-- so many volumes that each hold a capture hold so many captures
pub filled_count : (volumes : List Volume) → ((k : ℕ) (volume : Volume) → slice_get volumes k ≡ Some volume → 0 < length volume.captures)
    → length volumes ≤ length (captures_in volumes)
filled_count [] filled = omega arith
filled_count (v ∷ vs) filled =
    let others = filled_count vs (λ k volume at. filled (suc k) volume at) in
    omega (arith, others, filled 0 v refl, length-append v.captures (captures_in vs))

-- no texts joined
none_joined : (groups : List (List ℕ)) → length groups ≡ 0 → length (joined groups) ≡ 0
none_joined [] is = refl
none_joined (g ∷ gs) is = absurd (omega (arith, is))

pub volumes_keep_soundness : SealedVolumesStay → LastVolumeGoesOn → NumbersHaveOneGroup → SoundVolumesHaveOneText → VolumesKeepSoundness
volumes_keep_soundness stay goes_on one has book born sound filled in_range =
    let new : Book = with_volume book born in
    let volume : Volume = new_volume born in
    let same : captures new ≡ captures book = captures_stay book.volumes born in
    let is : captures new ≡ captures book ++ [] = same ∙ sym (append-nil (captures book)) in
    let few : length book.volumes ≤ length (captures book) = filled_count book.volumes filled in
    let more : length (book.volumes ++ volume ∷ []) ≡ length book.volumes + 1 = length-append book.volumes (volume ∷ []) in
    record {
      namespace_is = sound.namespace_is;
      births = All-append (λ (v : Volume). InRange v.born) book.volumes (volume ∷ []) sound.births
          (All-cons (λ (v : Volume). InRange v.born) volume [] in_range (All-nil (λ (v : Volume). InRange v.born)));
      dates = subst (λ (l : List Stored). All (λ (s : Stored). InRange s.date) l) (sym same) sound.dates;
      sound = record {
        few = omega (arith, sound.sound.few, ap length same);
        short_requests = subst (λ (l : List Stored). All (λ (s : Stored). length s.request < 2 ^ 34) l) (sym same) sound.sound.short_requests;
        filled = λ k v at less.
            filled k v (sym (kept_before book.volumes volume k (omega (arith, less, more))) ∙ at);
        each = λ number stored at.
            capture_later book new [] is number stored
            (sound.sound.each number stored (sym (ap (λ (l : List Stored). slice_get l number) same) ∙ at));
      };
      short_texts = λ k text of.
          let within : k < length (book.volumes ++ volume ∷ []) = slice_get_within (book.volumes ++ volume ∷ []) k of.volume of.placed in
          new_short k text of few sound.sound.few (omega (arith, within, more));
    }
  where
    new_short : (k : ℕ) (text : List ℕ) (of : IsVolumeText (with_volume book born) k text) → length book.volumes ≤ length (captures book)
        → length (captures book) < 2 ^ 32 - 1 → k ≤ length book.volumes → length text < 2 ^ 62
    new_short k text of few bound within = ⊎_elim
        (λ (before : k < length book.volumes).
        let was = has book k sound before in
        let equal : was.text ≡ text = one_text one (with_volume book born) k was.text text (text_stays stay goes_on book born k was.text before was.is) of in
        omega (arith, sound.short_texts k was.text was.is, ap length equal))
        (λ (behind : length book.volumes ≤ k).
        let at : length book.volumes ≡ k = omega (arith, within, behind) in
        let volume : new_volume born ≡ of.volume = same_Some (new_volume born) of.volume
        (sym (get_behind (book.volumes ++ new_volume born ∷ []) book.volumes (new_volume born) [] k refl at) ∙ of.placed) in
        let none : length of.groups ≡ 0 = of.count ∙ ap (λ (v : Volume). length v.captures) (sym volume) in
        let all : length text ≡ length (info_text book.namespace k of.volume.born) + length (joined of.groups)
        = ap length of.composed ∙ length-append (info_text book.namespace k of.volume.born) (joined of.groups) in
        omega (arith, all, none_joined of.groups none, short_info book.namespace k of.volume.born (omega (arith, at, few, bound))))
        (cases_lt k (length book.volumes))

-- ---- a new capture in the last volume

births_stay : (volumes : List Volume) (stored : Stored) → All (λ (v : Volume). InRange v.born) volumes → All (λ (v : Volume). InRange v.born) (add_to_last volumes stored)
births_stay [] stored all = all
births_stay (last ∷ []) stored all =
    let P : Volume → Type 0 = λ v. InRange v.born in
    let after : Volume = record { born = last.born; captures = last.captures ++ stored ∷ [] } in
    All-cons P after [] (All-head P last [] all) (All-nil P)
births_stay (first ∷ next ∷ others) stored all =
    let P : Volume → Type 0 = λ v. InRange v.born in
    All-cons P first (add_to_last (next ∷ others) stored) (All-head P first (next ∷ others) all)
    (births_stay (next ∷ others) stored (All-tail P first (next ∷ others) all))

-- what is asked of a capture for the book with it
pub record IsTakeable (book : Book) (stored : Stored) : Type 0 where
  pub date : InRange stored.date
  pub request : length stored.request < 2 ^ 34
  pub few : length (captures book) + 1 < 2 ^ 32 - 1
  pub some : 0 < length book.volumes
  pub good : IsSoundCapture (with_capture book stored) (length (captures book)) stored
  pub last : (k : ℕ) (text : List ℕ) → k + 1 ≡ length book.volumes → IsVolumeText (with_capture book stored) k text → length text < 2 ^ 62

pub no_volumes : (volumes : List Volume) → 0 < length volumes → volumes ≢ []
no_volumes [] some = absurd (omega (arith, some))
no_volumes (v ∷ vs) some = λ e. cc

pub captures_keep_soundness : SealedVolumesStay → NumbersHaveOneGroup → SoundVolumesHaveOneText → (book : Book) (stored : Stored) → IsSound book
    → IsTakeable book stored → IsSound (with_capture book stored)
captures_keep_soundness stay one has book stored sound takeable =
    let new : Book = with_capture book stored in
    let is : captures new ≡ captures book ++ stored ∷ [] = captures_more book.volumes stored (no_volumes book.volumes takeable.some) in
    let count : length (captures new) ≡ length (captures book) + 1 = ap length is ∙ length-append (captures book) (stored ∷ []) in
    record {
      namespace_is = sound.namespace_is;
      births = births_stay book.volumes stored sound.births;
      dates = subst (λ (l : List Stored). All (λ (s : Stored). InRange s.date) l) (sym is)
          (All-append (λ (s : Stored). InRange s.date) (captures book) (stored ∷ []) sound.dates
          (All-cons (λ (s : Stored). InRange s.date) stored [] takeable.date (All-nil (λ (s : Stored). InRange s.date))));
      sound = record {
        few = omega (arith, takeable.few, count);
        short_requests = subst (λ (l : List Stored). All (λ (s : Stored). length s.request < 2 ^ 34) l) (sym is)
            (All-append (λ (s : Stored). length s.request < 2 ^ 34) (captures book) (stored ∷ []) sound.sound.short_requests
            (All-cons (λ (s : Stored). length s.request < 2 ^ 34) stored [] takeable.request (All-nil (λ (s : Stored). length s.request < 2 ^ 34))));
        filled = λ k volume at less.
            let short : k + 1 < length book.volumes = omega (arith, less, same_length book.volumes stored) in
            sound.sound.filled k volume (sym ((capture_grows book stored).sealed k short) ∙ at) short;
        each = λ number s at. ⊎_elim
            (λ (before : number < length (captures book)).
            capture_later book new (stored ∷ []) is number s
            (sound.sound.each number s (placed_before book new (stored ∷ []) is number s before at)))
            (λ (behind : length (captures book) ≤ number).
            let within : number < length (captures new) = slice_get_within (captures new) number s at in
            let last : length (captures book) ≡ number = omega (arith, behind, within, count) in
            let same : stored ≡ s = same_Some stored s (sym (get_behind (captures book ++ stored ∷ []) (captures book) stored [] number refl last) ∙ sym (ap (λ (l : List Stored). slice_get l number) is) ∙ at) in
            subst (λ (x : Stored). IsSoundCapture new number x) same
            (subst (λ (n : ℕ). IsSoundCapture new n stored) last takeable.good))
            (cases_lt number (length (captures book)));
      };
      short_texts = λ k text of.
          let within : k < length book.volumes = omega (arith, slice_get_within new.volumes k of.volume of.placed, same_length book.volumes stored) in
          ⊎_elim
          (λ (before : k + 1 < length book.volumes).
          let was = has book k sound within in
          let equal : was.text ≡ text = one_text one new k was.text text (stay book new k was.text (capture_grows book stored) before was.is) of in
          omega (arith, sound.short_texts k was.text was.is, ap length equal))
          (λ (behind : length book.volumes ≤ k + 1). takeable.last k text (omega (arith, within, behind)) of)
          (cases_lt (k + 1) (length book.volumes));
    }
