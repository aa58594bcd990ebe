-- What a store leaves of the volumes.
use Rattle.std.proofs.Common.{◌≡◌, ◌⊎◌, ℕ, ◌+◌, Bool, true, false, IsTrue, List, [], ◌∷◌, ◌++◌, length, Option, Some, None, Result, Ok, Err, OnErr, OnOk, if◌then◌else◌, refl, sym, ap, subst, ◌∙◌, inl, inr, ⊎_elim, arith, length-append}
use Rattle.std.specs.Prelude.{IfSome}
use Rattle.capture.specs.Captures.{HasPayload}
use Rattle.capture.specs.declared.book.Book.{Book}
use Rattle.capture.specs.declared.captured.Taken.{Taken}
use Rattle.disk_model.specs.Crash.{Leaves}
use Rattle.disk_model.specs.declared.disk.Disk.{Ghosts}
use Rattle.warc_journal.specs.Extents.{warc_files}
use Rattle.warc_journal.specs.Journals.{Rests, disk_of, extent_of, last_len, texts}
use Rattle.warc_journal.specs.Texts.{HoldEither, with_more}
use Rattle.warc_journal.specs.declared.extent.Extent.{Extent}
use Rattle.warc_journal.specs.declared.journal.Journal.{Journal}
use Rattle.warc_text.specs.Records.{info_text}
use Rattle.archive_shelf.specs.Storing.{as_stored, new_volume, with_capture, with_volume}
use Rattle.archive_shelf.specs.declared.fault.StoreFault.{StoreFault}
use Rattle.archive_shelf.specs.declared.fault.StoreFault.TheVariants as stores
use Rattle.archive_shelf.specs.declared.receipt.Receipt.{Receipt}
use Rattle.archive_core.specs.Holdings.{Holdings}
use Rattle.archive_core.specs.Stores.{BeginsAlone, Fills, FillsVolumes, LeavesVolumes, StaysFilled, texts_where}
use Rattle.archive_volumes.proofs.VolumeLaws.{texts_rest}
use Rattle.archive_volumes.proofs.WrittenLaws.{rests_on, texts_since}
use Rattle.archive_volumes.specs.Grouping.{IsGroupFor}
use Rattle.archive_volumes.specs.Held.{book_of}
use Rattle.archive_volumes.specs.Writing.{HasRoomFor, IsDecided, IsNeeded, end_with, texts_with, with_prepared}
use Rattle.archive_volumes.specs.Written.{WritesTexts, texts_as}
use Rattle.archive_volumes.specs.declared.room.Prepared.{Prepared}
use Rattle.archive_volumes.specs.declared.volumes.Volumes.{Volumes}

on_ok : {T E A B : Type 0} (result : Result T E) → (A → B) → OnOk result A → OnOk result B
on_ok (Ok v) go on = go on
on_ok (Err e) go on = tt

on_err : {T E A B : Type 0} (result : Result T E) → (A → B) → OnErr result A → OnErr result B
on_err (Ok v) go on = tt
on_err (Err e) go on = go on

-- ---- what is left of one that was refused

-- neither book nor texts have changed; or both have the volume that was prepared, and each image its warcinfo with the group or without
abbrev pub IsLeftWith : {D : Type 0} → Ghosts D → Volumes D → Holdings D → Option Prepared → List ℕ → Type 0
IsLeftWith d now is prepared group =
    ((is.book ≡ book_of now.held) × (texts d is.journal ≡ texts d now.journal))
    ⊎ ((is.book ≡ with_prepared (book_of now.held) prepared) × (texts d is.journal ≡ texts_with (texts d now.journal) prepared)
    × Leaves (d.images (disk_of is.journal))
    (λ image. HoldEither (texts_with (texts d now.journal) prepared) (with_more (texts_with (texts d now.journal) prepared) group) (warc_files image)))

-- so it is where both have as many volumes before, and after
module _ {D : Type 0} (d : Ghosts D) (now : Volumes D) (is : Holdings D) (group : List ℕ) (before : length (texts d now.journal) ≡ length (book_of now.held).volumes)
    (after : length (texts d is.journal) ≡ length is.book.volumes) where
  abbrev IsRoom : Option Prepared → Type 0
  IsRoom prepared = is.book ≡ with_prepared (book_of now.held) prepared

  stayed : (p : Prepared) → texts d is.journal ≡ texts d now.journal → (is.book ≡ book_of now.held) ⊎ IsRoom (Some p) → IsLeftWith d now is (Some p) group
  stayed p same left = ⊎_elim
      (λ (book : is.book ≡ book_of now.held). inl (book, same))
      (λ (room : IsRoom (Some p)). absurd (omega (
        arith,
        before,
        after,
        ap (λ (l : List (List ℕ)). length l) same,
        ap (λ (b : Book). length b.volumes) room,
        length-append (book_of now.held).volumes (new_volume p.shadow.born ∷ []),
      )))
      left

  begun_so : (p : Prepared) → texts d is.journal ≡ texts d now.journal ++ p.info ∷ [] → (is.book ≡ book_of now.held) ⊎ IsRoom (Some p)
      → Leaves (d.images (disk_of is.journal)) (λ image. HoldEither (texts d now.journal ++ p.info ∷ []) (with_more (texts d now.journal ++ p.info ∷ []) group) (warc_files image))
      → IsLeftWith d now is (Some p) group
  begun_so p more left images = ⊎_elim
      (λ (book : is.book ≡ book_of now.held). absurd (omega (
        arith,
        before,
        after,
        ap (λ (l : List (List ℕ)). length l) more,
        ap (λ (b : Book). length b.volumes) book,
        length-append (texts d now.journal) (p.info ∷ []),
      )))
      (λ (room : IsRoom (Some p)). inr (room, more, images))
      left

  pub left_with : {T E : Type 0} (prepared : Option Prepared) (fault : E) → (is.book ≡ book_of now.held) ⊎ IsRoom prepared
      → WritesTexts {T = T} d now.journal is.journal (texts_as (texts_with (texts d now.journal) prepared) (with_more (texts_with (texts d now.journal) prepared) group)) (Err fault)
      → IsLeftWith d now is prepared group
  left_with None fault left wrote = inl (⊎_elim (λ book. book) (λ room. room) left, ⊎_elim (λ same. same) (λ roomy. roomy) wrote.stays)
  left_with (Some p) fault left wrote = ⊎_elim
      (λ (same : texts d is.journal ≡ texts d now.journal). stayed p same left)
      (λ images. ⊎_elim
      (λ (same : texts d is.journal ≡ texts d now.journal). stayed p same left)
      (λ (more : texts d is.journal ≡ texts d now.journal ++ p.info ∷ []). begun_so p more left images)
      wrote.stays)
      wrote.refused

-- ---- what is left of a store

-- by what was made ready for the capture, and by what is held once it is written, or refused
pub fills_by : {D : Type 0} (d : Ghosts D) (was is : Holdings D) (now : Volumes D) (taken : Taken) (same : Option ℕ) (payload group : List ℕ)
    → was.journal ≡ now.journal → was.book ≡ book_of now.held → HasPayload taken.cut taken.method taken.head taken.wire payload
    → IsGroupFor was.book taken payload same group → (prepared : Option Prepared) → HasRoomFor now prepared
    → IfSome prepared (λ (p : Prepared). p.shadow.born ≡ taken.date)
    → IsDecided was.limits.volume_bytes was.book (last_len was.journal) (length group) prepared
    → (result : Result Receipt StoreFault)
    → OnOk result (is.book ≡ with_capture (with_prepared was.book prepared) (as_stored taken same))
    → OnOk result (last_len is.journal ≡ end_with now prepared + length group)
    → (IsTrue d.tells → WritesTexts d now.journal is.journal (texts_as (texts_with (texts d now.journal) prepared)
    (with_more (texts_with (texts d now.journal) prepared) group)) result)
    → (IsTrue d.tells → OnErr result (IsLeftWith d now is prepared group))
    → FillsVolumes d was is taken same result
fills_by {D} d was is now taken same payload group journal_is book_is has of None room born decided result book ends wrote left = record {
  payload = payload;
  has = has;
  group = group;
  of = of;
  begun = false;
  needed = decided;
  book = book;
  ends = on_ok result
      (λ (end : last_len is.journal ≡ last_len now.journal + length group).
      end ∙ sym (ap (λ (j : Journal D). last_len j + length group) journal_is))
      ends;
  bytes = λ tells.
      subst (λ (j : Journal D). WritesTexts d j is.journal (texts_as (texts d j) (with_more (texts d j) group)) result) (sym journal_is) (wrote tells);
  left = λ tells. on_err result
      (λ (l : IsLeftWith d now is None group).
      let texts_is : texts d now.journal ≡ texts d was.journal = ap (λ (j : Journal D). texts d j) (sym journal_is) in ⊎_elim
      (λ (stays : (is.book ≡ book_of now.held) × (texts d is.journal ≡ texts d now.journal)). inl (stays.0 ∙ sym book_is, stays.1 ∙ texts_is))
      (λ begun. inl (begun.0 ∙ sym book_is, begun.1 ∙ texts_is))
      l)
      (left tells);
}
fills_by {D} d was is now taken same payload group journal_is book_is has of (Some p) room born decided result book ends wrote left =
    let info : List ℕ = info_text was.book.namespace (length was.book.volumes) taken.date in
    let info_is : p.info ≡ info =
    room.prepared_is.info
    ∙ ap (λ (n : ℕ). info_text (book_of now.held).namespace (length (book_of now.held).volumes) n) born
    ∙ sym (ap (λ (b : Book). info_text b.namespace (length b.volumes) taken.date) book_is) in
    record {
      payload = payload;
      has = has;
      group = group;
      of = of;
      begun = true;
      needed = decided;
      book = on_ok result
          (λ (stored : is.book ≡ with_capture (with_volume was.book p.shadow.born) (as_stored taken same)).
          stored ∙ ap (λ (n : ℕ). with_capture (with_volume was.book n) (as_stored taken same)) born)
          book;
      ends = on_ok result
          (λ (end : last_len is.journal ≡ length p.info + length group). end ∙ ap (λ (text : List ℕ). length text + length group) info_is)
          ends;
      bytes = λ tells.
          subst (λ (j : Journal D). WritesTexts d j is.journal (texts_as (texts d j ++ info ∷ []) (with_more (texts d j ++ info ∷ []) group)) result) (sym journal_is)
          (subst (λ (text : List ℕ). WritesTexts d now.journal is.journal (texts_as (texts d now.journal ++ text ∷ [])
          (with_more (texts d now.journal ++ text ∷ []) group)) result) info_is (wrote tells));
      left = λ tells. on_err result
          (λ (l : IsLeftWith d now is (Some p) group). ⊎_elim
          (λ (stays : (is.book ≡ book_of now.held) × (texts d is.journal ≡ texts d now.journal)).
          inl (stays.0 ∙ sym book_is, stays.1 ∙ ap (λ (j : Journal D). texts d j) (sym journal_is)))
          (λ begun.
          let room_is : texts d now.journal ++ p.info ∷ [] ≡ texts d was.journal ++ info ∷ [] =
          ap (λ (text : List ℕ). texts d now.journal ++ text ∷ []) info_is ∙ ap (λ (j : Journal D). texts d j ++ info ∷ []) (sym journal_is) in
          inr (
            refl,
            record {
              book = begun.0 ∙ ap (λ (n : ℕ). with_volume (book_of now.held) n) born ∙ ap (λ (b : Book). with_volume b taken.date) (sym book_is);
              texts_are = begun.1 ∙ room_is;
              images = subst (λ (room : List (List ℕ)). Leaves (d.images (disk_of is.journal)) (λ image. HoldEither room (with_more room group) (warc_files image)))
                  room_is begun.2;
            },
          ))
          l)
          (left tells);
    }

-- nothing was written
pub fills_none : {D : Type 0} (d : Ghosts D) (was is : Holdings D) (taken : Taken) (fault : StoreFault) → LeavesVolumes d was is → Fills d was is taken (Err fault)
fills_none d was is taken (stores.Full count limit) kept = kept
fills_none d was is taken stores.DiskFault kept = inl kept
fills_none d was is taken (stores.Damaged number kept found) bytes = bytes
fills_none d was is taken stores.Memory kept = kept

-- ---- and the same where the disk was read before

module _ {D : Type 0} (d : Ghosts D) (was is : Holdings D) (journal : Journal D) (taken : Taken) (extent : extent_of journal ≡ extent_of was.journal)
    (rests : IsTrue d.tells → Rests d (disk_of was.journal) (disk_of journal)) where
  abbrev looked : Holdings D
  looked = record was { journal = journal }

  kept_after : LeavesVolumes d looked is → LeavesVolumes d was is
  kept_after kept =
      ((λ tells. rests_on d (disk_of was.journal) (disk_of journal) (disk_of is.journal) (rests tells) (kept.0 tells)), kept.1 ∙ extent, kept.2)

  read_same : IsTrue d.tells → texts d journal ≡ texts d was.journal
  read_same tells = texts_rest d was.journal journal (rests tells) extent

  where_same : (begun : Bool) → IsTrue d.tells → texts_where d looked begun taken.date ≡ texts_where d was begun taken.date
  where_same true tells =
      ap (λ (all : List (List ℕ)). all ++ info_text was.book.namespace (length was.book.volumes) taken.date ∷ []) (read_same tells)
  where_same false tells = read_same tells

  left_after : (begun : Bool) (group : List ℕ) → IsTrue d.tells → StaysFilled d looked is ⊎ ((begun ≡ true) × BeginsAlone d looked is taken.date group)
      → StaysFilled d was is ⊎ ((begun ≡ true) × BeginsAlone d was is taken.date group)
  left_after begun group tells left = ⊎_elim
      (λ (stays : StaysFilled d looked is). inl (stays.0, stays.1 ∙ read_same tells))
      (λ (alone : (begun ≡ true) × BeginsAlone d looked is taken.date group). inr (
        alone.0,
        record {
          book = alone.1.book;
          texts_are = alone.1.texts_are ∙ where_same true tells;
          images = subst (λ (room : List (List ℕ)). Leaves (d.images (disk_of is.journal)) (λ image. HoldEither room (with_more room group) (warc_files image)))
              (where_same true tells) alone.1.images;
        },
      ))
      left

  volumes_after : (same : Option ℕ) (result : Result Receipt StoreFault) → FillsVolumes d looked is taken same result
      → FillsVolumes d was is taken same result
  volumes_after same result f =
      let end_is : last_len journal ≡ last_len was.journal = ap (λ (e : Extent). e.end) extent in
      record {
        payload = f.payload;
        has = f.has;
        group = f.group;
        of = f.of;
        begun = f.begun;
        needed = subst (λ (n : ℕ). IsNeeded was.limits.volume_bytes was.book n (length f.group) f.begun) end_is f.needed;
        book = f.book;
        ends = subst (λ (n : ℕ). OnOk result (last_len is.journal
            ≡ (if f.begun then length (info_text was.book.namespace (length was.book.volumes) taken.date) else n) + length f.group)) end_is f.ends;
        bytes = λ tells.
            texts_since d was.journal journal is.journal (texts_where d was f.begun taken.date) (with_more (texts_where d was f.begun taken.date) f.group)
            result (rests tells) (read_same tells)
            (subst (λ (room : List (List ℕ)). WritesTexts d journal is.journal (texts_as room (with_more room f.group)) result) (where_same f.begun tells) (f.bytes tells));
        left = λ tells. on_err result (left_after f.begun f.group tells) (f.left tells);
      }

  pub fills_after : (result : Result Receipt StoreFault) → Fills d (record was { journal = journal }) is taken result → Fills d was is taken result
  fills_after (Ok receipt) f = volumes_after receipt.same_as (Ok receipt) f
  fills_after (Err (stores.Full count limit)) kept = kept_after kept
  fills_after (Err stores.DiskFault) f = ⊎_elim
      (λ (kept : LeavesVolumes d looked is). inl (kept_after kept))
      (λ (put : (same : Option ℕ) × FillsVolumes d looked is taken same (Err stores.DiskFault)).
      inr (put.0, volumes_after put.0 (Err stores.DiskFault) put.1))
      f
  fills_after (Err (stores.Damaged number digest found)) kept = kept_after kept
  fills_after (Err stores.Memory) kept = kept_after kept
