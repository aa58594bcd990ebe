-- When a capture needs a new volume.
use Rattle.std.proofs.Common.{◌≡◌, ◌⊎◌, ℕ, zero, suc, ◌+◌, ◌-◌, ◌<◌, ◌≤◌, Bool, true, false, IsTrue, not, nat_eq, List, [], ◌∷◌, ◌++◌, length, take, get_or, Some, refl, sym, ap, subst, ◌∙◌, inl, inr, ⊎_elim, arith, length-append}
use Rattle.std.specs.Prelude.{slice_get, slice_index_or}
use Rattle.std.proofs.Math.Dec.{eqb-suc-zero}
use Rattle.std.proofs.lemmas.Bool.{cases_lt, false≢true}
use Rattle.std.proofs.lemmas.List.{length-set}
use Rattle.std.proofs.lemmas.Grind.{get_or-set_at}
use Rattle.std.proofs.lemmas.Option.{same_Some, slice_get-get_or, slice_get_within}
use Rattle.capture.specs.Captures.{captures, captures_in}
use Rattle.capture.specs.declared.book.Book.{Book}
use Rattle.capture.specs.declared.book.Volume.{Volume}
use Rattle.capture.specs.declared.captured.Stored.{Stored}
use Rattle.disk_model.specs.declared.disk.Disk.{Ghosts}
use Rattle.warc_journal.specs.Extents.{warc_files}
use Rattle.warc_journal.specs.Journals.{IsInStep, last_len, texts, volumes}
use Rattle.warc_journal.specs.Texts.{with_more}
use Rattle.warc_journal.specs.declared.journal.Journal.{Journal}
use Rattle.warc_text.specs.Books.{AreVolumeTexts, IsGroupText, IsVolumeText}
use Rattle.archive_shelf.specs.Gaining.{AreFilled, CapturesAddTheirGroup}
use Rattle.archive_shelf.specs.Storing.{HasLast, NeedsVolume, new_volume, with_capture}
use Rattle.archive_volumes.specs.Held.{is_filled}
use Rattle.archive_volumes.specs.Writing.{IsNeeded}
use Rattle.archive_volumes.specs.Volumes.{HoldsBook, IsMeasured}

-- ---- volumes that hold a capture

-- the last volume tells whether it holds one
last_is : (volumes : List Volume) (k : ℕ) (volume : Volume) → k + 1 ≡ length volumes → slice_get volumes k ≡ Some volume
    → is_filled volumes ≡ not (nat_eq (length volume.captures) 0)
last_is [] k volume is at = absurd (omega (arith, is))
last_is (v ∷ []) zero volume is at = ap (λ (w : Volume). not (nat_eq (length w.captures) 0)) (same_Some v volume at)
last_is (v ∷ []) (suc k) volume is at = absurd (omega (arith, is))
last_is (v ∷ w ∷ others) zero volume is at = absurd (omega (arith, is))
last_is (v ∷ w ∷ others) (suc k) volume is at = last_is (w ∷ others) k volume (omega (arith, is)) at

some_by : (captures : List Stored) → not (nat_eq (length captures) 0) ≡ true → 0 < length captures
some_by [] is = absurd (false≢true is)
some_by (c ∷ cs) is = omega arith

none_by : (captures : List Stored) → not (nat_eq (length captures) 0) ≡ false → captures ≡ []
none_by [] is = refl
none_by (c ∷ cs) is = absurd (false≢true (sym is ∙ ap not (eqb-suc-zero (length cs))))

-- where a new volume is needed all volumes hold a capture
pub are_filled : {D : Type 0} (journal : Journal D) (book : Book) (limit end group : ℕ) → IsMeasured journal book
    → IsNeeded limit book end group true → AreFilled book
are_filled journal book limit end group measured needed k volume at = ⊎_elim
    (λ (before : k + 1 < length book.volumes). measured.filled k volume at before)
    (λ (behind : length book.volumes ≤ k + 1).
    let within : k < length book.volumes = slice_get_within book.volumes k volume at in
    ⊎_elim
    (λ (none : length book.volumes ≡ 0). absurd (omega (arith, none, within)))
    (λ (full : (is_filled book.volumes ≡ true) × (limit < end + group)).
    some_by volume.captures (sym (last_is book.volumes k volume (omega (arith, within, behind)) at) ∙ full.0))
    needed)
    (cases_lt (k + 1) (length book.volumes))

-- and there are no more of them than captures
no_more : (volumes : List Volume) → ((k : ℕ) (volume : Volume) → slice_get volumes k ≡ Some volume → 0 < length volume.captures)
    → length volumes ≤ length (captures_in volumes)
no_more [] filled = omega arith
no_more (v ∷ vs) filled =
    omega (arith, no_more vs (λ k volume at. filled (suc k) volume at), filled 0 v refl, length-append v.captures (captures_in vs))

pub few_volumes : (book : Book) → AreFilled book → length book.volumes ≤ length (captures book)
few_volumes book filled = no_more book.volumes filled

-- in a volume without a capture the text is short
pub short_end : {D : Type 0} (journal : Journal D) (book : Book) → IsMeasured journal book → 0 < length book.volumes → is_filled book.volumes ≡ false
    → last_len journal ≤ 512
short_end journal book measured some empty =
    let k : ℕ = length book.volumes - 1 in
    let last : Volume = get_or book.volumes k (new_volume 0) in
    let at : slice_get book.volumes k ≡ Some last = slice_get-get_or book.volumes k (new_volume 0) (omega (arith, some)) in
    measured.begins k last (omega (arith, some)) at (none_by last.captures (sym (last_is book.volumes k last (omega (arith, some)) at) ∙ empty))

-- ---- the text of the last volume

length_front : (xs : List (List ℕ)) (n : ℕ) → n ≤ length xs → length (take n xs) ≡ n
length_front [] zero le = refl
length_front [] (suc n) le = absurd (omega (arith, le))
length_front (x ∷ xs) zero le = refl
length_front (x ∷ xs) (suc n) le = ap suc (length_front xs n (omega (arith, le)))

length_bytes : (xs : List ℕ) (n : ℕ) → n ≤ length xs → length (take n xs) ≡ n
length_bytes [] zero le = refl
length_bytes [] (suc n) le = absurd (omega (arith, le))
length_bytes (x ∷ xs) zero le = refl
length_bytes (x ∷ xs) (suc n) le = ap suc (length_bytes xs n (omega (arith, le)))

-- it is as long as the journal says
pub last_long : {D : Type 0} (d : Ghosts D) (journal : Journal D) → IsInStep d journal → 0 < volumes journal
    → length (get_or (texts d journal) (volumes journal - 1) []) ≡ last_len journal
last_long d journal step some =
    let files : List (List ℕ) = warc_files (d.reading journal.disk) in
    let k : ℕ = volumes journal - 1 in
    let front : List (List ℕ) = take (volumes journal) files in
    let file : List ℕ = slice_index_or files k [] in
    let is : get_or (texts d journal) k [] ≡ take (last_len journal) file =
    get_or-set_at front k k (take (last_len journal) file) [] refl (omega (arith, some, length_front files (volumes journal) step.enough)) in
    ap length is ∙ length_bytes file (last_len journal) (step.within k (omega (arith, some)))

pub texts_count : {D : Type 0} (d : Ghosts D) (journal : Journal D) → IsInStep d journal → length (texts d journal) ≡ volumes journal
texts_count d journal step =
    let files : List (List ℕ) = warc_files (d.reading journal.disk) in
    length-set (take (volumes journal) files) (volumes journal - 1) (take (last_len journal) (slice_index_or files (volumes journal - 1) []))
    ∙ length_front files (volumes journal) step.enough

-- ---- the book with room

module _ {D : Type 0} (d : Ghosts D) (journal : Journal D) (book : Book) (stored : Stored) (group : List ℕ) {known : Bool} (told : IsTrue known)
    (holds : HoldsBook d known journal book) (count : volumes journal ≡ length book.volumes) (some : 0 < length book.volumes)
    (add : CapturesAddTheirGroup) (is_group : IsGroupText (with_capture book stored) (length (captures book)) group) where
  abbrev last : HasLast book
  last = record {
    number = length book.volumes - 1;
    volume = get_or book.volumes (length book.volumes - 1) (new_volume 0);
    is_last = omega (arith, some);
    placed = slice_get-get_or book.volumes (length book.volumes - 1) (new_volume 0) (omega (arith, some));
  }

  abbrev all : List (List ℕ)
  all = texts d journal

  abbrev text : List ℕ
  text = get_or all (length all - 1) [] ++ group

  are : AreVolumeTexts (with_capture book stored) (with_more all group)
  are = add book stored all group some (holds.texts_are told) is_group

  all_count : length all ≡ length book.volumes
  all_count = (holds.texts_are told).count

  is_text : IsVolumeText (with_capture book stored) (length book.volumes - 1) text
  is_text =
      let k : ℕ = length book.volumes - 1 in
      let same : get_or (with_more all group) k [] ≡ text =
      get_or-set_at all (length all - 1) k text [] (omega (arith, all_count)) (omega (arith, all_count, some)) in
      subst (IsVolumeText (with_capture book stored) k) same
      (are.each k (omega (arith, some, all_count, length-set all (length all - 1) text)))

  text_long : length text ≡ last_len journal + length group
  text_long =
      let at : get_or all (length all - 1) [] ≡ get_or all (volumes journal - 1) [] = ap (λ (n : ℕ). get_or all (n - 1) []) (all_count ∙ sym count) in
      length-append (get_or all (length all - 1) []) group
      ∙ omega (arith, ap length at, last_long d journal (holds.in_step (holds.tells told)) (omega (arith, some, count)))

  is_last_of : is_filled book.volumes ≡ not (nat_eq (length last.volume.captures) 0)
  is_last_of = last_is book.volumes last.number last.volume last.is_last last.placed

  pub room_within : (limit : ℕ) → (is_filled book.volumes ≡ false) ⊎ (last_len journal + length group ≤ limit) → NeedsVolume limit book stored false
  room_within limit which = (
    last,
    ⊎_elim
        (λ (empty : is_filled book.volumes ≡ false). inl (none_by last.volume.captures (sym is_last_of ∙ empty)))
        (λ (within : last_len journal + length group ≤ limit). inr (text, is_text, omega (arith, within, text_long)))
        which,
  )

  pub room_past : (limit : ℕ) → is_filled book.volumes ≡ true → limit < last_len journal + length group → NeedsVolume limit book stored true
  room_past limit full past = inr (
    last,
    (λ none. absurd (omega (arith, some_by last.volume.captures (sym is_last_of ∙ full), ap length none))),
    text,
    is_text,
    omega (arith, past, text_long),
  )
