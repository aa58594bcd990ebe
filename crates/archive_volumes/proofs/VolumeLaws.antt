-- The book that the volumes hold after a change of them, and after a refusal.
use Rattle.std.proofs.Common.{◌≡◌, ℕ, ◌+◌, ◌^◌, ◌<◌, ◌≤◌, Bool, IsTrue, List, [], ◌∷◌, ◌++◌, length, map, get_or, Option, Some, None, option_to_list, Result, Ok, Err, IsErr, refl, sym, ap, subst, ◌∙◌, inl, inr, arith, length-append}
use Rattle.std.specs.Prelude.{slice_get, IsSome}
use Rattle.std.proofs.lemmas.Bool.{false≢true}
use Rattle.std.proofs.lemmas.Option.{same_Some, slice_get-get_or}
use Rattle.capture.proofs.GrowthLaws.{growth_keeps_captures, growth_keeps_payloads}
use Rattle.capture.proofs.PayloadLaws.{captures_have_one}
use Rattle.capture.specs.Captures.{captures}
use Rattle.capture.specs.declared.book.Book.{Book}
use Rattle.capture.specs.declared.book.Volume.{Volume}
use Rattle.capture.specs.declared.captured.Stored.{Stored}
use Rattle.disk_model.specs.Image.{Image}
use Rattle.disk_model.specs.declared.disk.Disk.{Ghosts}
use Rattle.time_text.specs.Texts.{InRange}
use Rattle.warc_journal.specs.Extents.{texts_in, warc_files}
use Rattle.warc_journal.specs.Journals.{Changes, IsInStep, Rests, last_len, texts, volumes}
use Rattle.warc_journal.specs.Texts.{Hold, with_more}
use Rattle.warc_journal.specs.declared.extent.Extent.{Extent}
use Rattle.warc_journal.specs.declared.journal.Journal.{Journal}
use Rattle.warc_text.proofs.GrowthLaws.{GrowthKeeps, last_volume_goes_on, sealed_volumes_stay}
use Rattle.warc_text.proofs.OneTextLaws.{one_group, volumes_have_one_text}
use Rattle.warc_text.specs.Books.{AreVolumeTexts, IsGroupText}
use Rattle.warc_text.specs.Records.{info_text}
use Rattle.warc_text.specs.Sound.{IsSound}
use Rattle.archive_shelf.proofs.GainingSoundness.{no_volumes, volumes_keep_soundness}
use Rattle.archive_shelf.proofs.GainingTexts.{captures_add_their_group, last_placed, same_length, volumes_add_their_text}
use Rattle.archive_shelf.proofs.StoringLaws.{captures_more, captures_stay, capture_grows, kept_before}
use Rattle.archive_shelf.specs.Gaining.{AreFilled, CapturesAddTheirGroup, VolumesAddTheirText, VolumesKeepSoundness}
use Rattle.archive_shelf.specs.Storing.{add_to_last, new_volume, with_capture, with_volume}
use Rattle.archive_volumes.proofs.ChangeLaws.{DiskLaws, laws_muted, makes, near_made, near_refused, near_stays, refused_on, stands}
use Rattle.archive_volumes.specs.Held.{book_of, volume_of}
use Rattle.archive_volumes.specs.Volumes.{HoldsBook, IsMeasured, IsStep, Makes, muted}
use Rattle.archive_volumes.specs.declared.held.Held.{Held}
use Rattle.archive_volumes.specs.declared.held.Shadow.{Shadow}

-- ---- steps of a book

pub step_volume : (book : Book) (born : ℕ) → IsStep book (with_volume book born)
step_volume book born = record {
  namespace = refl;
  count = omega (arith, ap length (captures_stay book.volumes born));
  some = omega (arith, length-append book.volumes (new_volume born ∷ []));
  next = record { room = with_volume book born; roomy = inr (born, refl); is = inl (inl refl) };
}

pub step_capture : (book : Book) (stored : Stored) → 0 < length book.volumes → IsStep book (with_capture book stored)
step_capture book stored some = record {
  namespace = refl;
  count = omega (arith, ap length (captures_more book.volumes stored (no_volumes book.volumes some)), length-append (captures book) (stored ∷ []));
  some = omega (arith, some, same_length book.volumes stored);
  next = record { room = book; roomy = inl (inl refl); is = inr (stored, refl) };
}

-- ---- the book that is held

-- where each image holds the texts of a sound book
pub holds_found : {D : Type 0} (d : Ghosts D) (told : Bool) (journal : Journal D) (book : Book) → (IsTrue told → IsTrue d.tells)
    → (IsTrue d.tells → IsInStep d journal) → (IsTrue told → AreVolumeTexts book (texts d journal)) → (IsTrue told → IsSound book)
    → (IsTrue d.tells → (image : Image) → d.images journal.disk image → Hold (texts d journal) (warc_files image)) → HoldsBook d told journal book
holds_found d told journal book tells in_step are sound held = record {
  tells = tells;
  in_step = in_step;
  texts_are = are;
  sound = sound;
  near = λ so image now.
      (book, stands book (texts d journal) image (are so) (sound so) (held (tells so) image now), record { room = book; roomy = inl (inl refl); is = inl (inl refl) });
}

-- what a call changes of the texts is said as well of the disk of which this is told
changes_muted : {D T E : Type 0} (d : Ghosts D) (told : Bool) (old new : Journal D) (after : List (List ℕ)) (result : Result T E)
    → Changes d old new after result → Changes (muted told d) old new after result
changes_muted d told old new after result change = record {
  leaves = change.leaves;
  added = change.added;
  only = change.only;
  stays = change.stays;
  refused = change.refused;
  others = change.others;
}

-- a change from one book to another, by the texts after it
pub record IsChange {D : Type 0} (d : Ghosts D) (told : Bool) (old : Journal D) (before after : Book) (texts_after : List (List ℕ)) : Type 0 where
  pub holds : HoldsBook d told old before
  pub will_be : IsTrue told → AreVolumeTexts after texts_after
  pub sound : IsTrue told → IsSound after
  pub step : IsStep before after

module _ {D : Type 0} (d : Ghosts D) (laws : DiskLaws d) (told : Bool) (old new : Journal D) (before after : Book) (texts_after : List (List ℕ))
    (is : IsChange d told old before after texts_after) where
  told_change : {T E : Type 0} (result : Result T E) → (IsTrue d.tells → Changes d old new texts_after result)
      → IsTrue told → Changes (muted told d) old new texts_after result
  told_change result change so = changes_muted d told old new texts_after result (change (is.holds.tells so))

  pub holds_made : {T E : Type 0} (value : T) → (IsTrue d.tells → Changes {E = E} d old new texts_after (Ok value)) → (IsTrue d.tells → IsInStep d new)
      → HoldsBook d told new after
  holds_made value change in_step = record {
    tells = is.holds.tells;
    in_step = in_step;
    texts_are = λ so. subst (AreVolumeTexts after) (sym (change (is.holds.tells so)).added) (is.will_be so);
    sound = is.sound;
    near = λ so. near_made d laws old.disk new.disk after texts_after (is.will_be so) (is.sound so) (change (is.holds.tells so)).only;
  }

  pub holds_refused : {T E : Type 0} (fault : E) → (IsTrue d.tells → Changes {T = T} d old new texts_after (Err fault)) → (IsTrue d.tells → IsInStep d new)
      → HoldsBook d told new before
  holds_refused {T} fault change in_step =
      let failure : Result T _ = Err fault in
      record {
        tells = is.holds.tells;
        in_step = in_step;
        texts_are = λ so. subst (AreVolumeTexts before) (sym (change (is.holds.tells so)).stays) (is.holds.texts_are so);
        sound = is.holds.sound;
        near = λ so. near_refused (muted told d) (laws_muted d told laws) old new before after texts_after failure (told_change failure change)
            is.holds.texts_are is.will_be is.holds.sound is.sound is.step so (is.holds.near so);
      }

  pub makes_by : {T E : Type 0} (result : Result T E) → (IsTrue d.tells → Changes d old new texts_after result)
      → Makes (muted told d) old.disk new.disk before after result
  makes_by result change =
      makes (muted told d) (laws_muted d told laws) old new before after texts_after result (told_change result change) is.holds.texts_are is.will_be is.holds.sound is.sound is.step

  pub makes_refused : {T E S F : Type 0} (fault : E) (answer : Result S F) → (IsTrue d.tells → Changes {T = T} d old new texts_after (Err fault))
      → IsErr answer → Makes (muted told d) old.disk new.disk before after answer
  makes_refused {T} fault answer change failed =
      let failure : Result T _ = Err fault in
      refused_on (muted told d) old.disk new.disk before after failure answer refl failed (makes_by failure change)

-- what the texts of a book and its soundness are when it grows
growth : GrowthKeeps
growth = record { captures = growth_keeps_captures; payloads = growth_keeps_payloads }

text_added : VolumesAddTheirText
text_added = volumes_add_their_text (sealed_volumes_stay growth) (last_volume_goes_on growth)

group_added : CapturesAddTheirGroup
group_added = captures_add_their_group (sealed_volumes_stay growth) (last_volume_goes_on growth)

sound_with : VolumesKeepSoundness
sound_with = volumes_keep_soundness (sealed_volumes_stay growth) (last_volume_goes_on growth) (one_group captures_have_one) volumes_have_one_text

-- a volume with this text is begun
pub volume_change : {D : Type 0} (d : Ghosts D) (told : Bool) (old : Journal D) (book : Book) (born : ℕ) (text : List ℕ)
    → HoldsBook d told old book → AreFilled book → InRange born
    → text ≡ info_text book.namespace (length book.volumes) born
    → IsChange d told old book (with_volume book born) (texts d old ++ text ∷ [])
volume_change d told old book born text holds filled in_range info = record {
  holds = holds;
  will_be = λ so. subst (λ (t : List ℕ). AreVolumeTexts (with_volume book born) (texts d old ++ t ∷ [])) (sym info)
      (text_added book born (texts d old) (holds.texts_are so));
  sound = λ so. sound_with book born (holds.sound so) filled in_range;
  step = step_volume book born;
}

-- a capture with this group is added
pub capture_change : {D : Type 0} (d : Ghosts D) (told : Bool) (old : Journal D) (book : Book) (stored : Stored) (group : List ℕ)
    → HoldsBook d told old book → 0 < length book.volumes
    → (IsTrue told → IsGroupText (with_capture book stored) (length (captures book)) group) → (IsTrue told → IsSound (with_capture book stored))
    → IsChange d told old book (with_capture book stored) (with_more (texts d old) group)
capture_change d told old book stored group holds some is_group sound = record {
  holds = holds;
  will_be = λ so. group_added book stored (texts d old) group some (holds.texts_are so) (is_group so);
  sound = sound;
  step = step_capture book stored some;
}

-- a call that only reads
pub texts_rest : {D : Type 0} (d : Ghosts D) (old new : Journal D) → Rests d old.disk new.disk → new.extent ≡ old.extent → texts d new ≡ texts d old
texts_rest d old new rests same =
    ap (λ (e : Extent). texts_in e (warc_files (d.reading new.disk))) same
    ∙ ap (λ (i : Image). texts_in old.extent (warc_files i)) rests.read

pub holds_rest : {D : Type 0} (d : Ghosts D) (laws : DiskLaws d) (told : Bool) (old new : Journal D) (book : Book) → (IsTrue d.tells → Rests d old.disk new.disk)
    → new.extent ≡ old.extent → (IsTrue d.tells → IsInStep d new) → HoldsBook d told old book → HoldsBook d told new book
holds_rest d laws told old new book rests same in_step holds = record {
  tells = holds.tells;
  in_step = in_step;
  texts_are = λ so. subst (AreVolumeTexts book) (sym (texts_rest d old new (rests (holds.tells so)) same)) (holds.texts_are so);
  sound = holds.sound;
  near = λ so. near_stays d laws old.disk new.disk book (rests (holds.tells so)) (holds.near so);
}

-- ---- its measures

pub measured_same : {D : Type 0} (old new : Journal D) (book : Book) → volumes new ≡ volumes old → last_len new ≡ last_len old → IsMeasured old book → IsMeasured new book
measured_same old new book same len is = record {
  count = same ∙ is.count;
  filled = is.filled;
  ends = omega (arith, len, is.ends);
  begins = λ k volume last at empty. omega (arith, len, is.begins k volume last at empty);
}

pub measured_volume : {D : Type 0} (old new : Journal D) (book : Book) (born : ℕ) → volumes new ≡ volumes old + 1 → last_len new ≤ 512 → AreFilled book
    → IsMeasured old book → IsMeasured new (with_volume book born)
measured_volume old new book born more len filled is =
    let long : length (book.volumes ++ new_volume born ∷ []) ≡ length book.volumes + 1 = length-append book.volumes (new_volume born ∷ []) in
    record {
      count = omega (arith, more, is.count, long);
      filled = λ k volume at less. filled k volume (sym (kept_before book.volumes (new_volume born) k (omega (arith, less, long))) ∙ at);
      ends = omega (arith, len);
      begins = λ k volume last at empty. len;
    }

some_behind : (captures : List Stored) (stored : Stored) → captures ++ stored ∷ [] ≡ [] → ⊥
some_behind [] stored e = cc
some_behind (c ∷ cs) stored e = cc

pub measured_capture : {D : Type 0} (old new : Journal D) (book : Book) (stored : Stored) → volumes new ≡ volumes old → last_len new < 2 ^ 62
    → IsMeasured old book → IsMeasured new (with_capture book stored)
measured_capture old new book stored same len is =
    let long : length (add_to_last book.volumes stored) ≡ length book.volumes = same_length book.volumes stored in
    record {
      count = omega (arith, same, is.count, long);
      filled = λ k volume at less.
          let short : k + 1 < length book.volumes = omega (arith, less, long) in
          is.filled k volume (sym ((capture_grows book stored).sealed k short) ∙ at) short;
      ends = len;
      begins = λ k volume last at empty.
          let was : Volume = get_or book.volumes k (new_volume 0) in
          let placed : slice_get book.volumes k ≡ Some was = slice_get-get_or book.volumes k (new_volume 0) (omega (arith, last, long)) in
          let after : Volume = record { born = was.born; captures = was.captures ++ stored ∷ [] } in
          let is_after : after ≡ volume = same_Some after volume (sym (last_placed book.volumes stored k was (omega (arith, last, long)) placed) ∙ at) in
          absurd (some_behind was.captures stored (ap (λ (v : Volume). v.captures) is_after ∙ empty));
    }

-- a last volume is a volume
pub held_some : (held : Held) → IsSome held.last → 0 < length (book_of held).volumes
held_some held some = by_last held.last some
  where
    by_last : (last : Option Shadow) → IsSome last → 0 < length (map volume_of held.sealed.items ++ map volume_of (option_to_list last))
    by_last None none = absurd (false≢true none)
    by_last (Some shadow) is = omega (arith, length-append (map volume_of held.sealed.items) (volume_of shadow ∷ []))
