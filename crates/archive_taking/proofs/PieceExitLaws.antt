-- How the taking of a piece ends once it was read: without memory, refused by the disk, or with the capture.
use Rattle.std.proofs.Common.{◌≡◌, ◌⊎◌, ℕ, ◌+◌, ◌-◌, ◌^◌, ◌<◌, Bool, false, IsFalse, IsTrue, List, [], ◌∷◌, ◌++◌, length, Option, Some, None, Result, Ok, Err, if◌then◌else◌, is_some, refl, sym, ap, subst, ◌∙◌, inl, inr, ⊎_elim, arith, length-append}
use Rattle.std.specs.Prelude.{IfSome, IsErrAnd}
use Rattle.std.specs.List.{range_with_len}
use Rattle.sha1.specs.Sha1.{sha1}
use Rattle.capture.proofs.PayloadLaws.{captures_have_one}
use Rattle.capture.specs.Captures.{IsPayloadOf, captures, taken_back}
use Rattle.capture.specs.Growth.{Grows}
use Rattle.capture.specs.Message.{IsResponseHeadText}
use Rattle.capture.specs.declared.book.Book.{Book}
use Rattle.capture.specs.declared.book.Volume.{Volume}
use Rattle.capture.specs.declared.captured.Kept.{Kept}
use Rattle.capture.specs.declared.captured.Kept.TheVariants.{Wire, Same, Cut}
use Rattle.capture.specs.declared.captured.Stored.{Stored}
use Rattle.index_entry.proofs.Members.{Among, contains_from_among}
use Rattle.index_entry.specs.Facts.{Facts}
use Rattle.index_entry.specs.OfBook.{AreOf}
use Rattle.index_entry.specs.Order.{with_entry, without}
use Rattle.index_entry.specs.Queries.{IsIndex}
use Rattle.disk_model.specs.declared.disk.Disk.{Ghosts}
use Rattle.httparse.specs.Grammar as grammar
use Rattle.revisit_table.specs.Table.{Table}
use Rattle.warc_journal.specs.Extents.{cdxj_files}
use Rattle.warc_journal.specs.Journals.{disk_of, last_len, texts}
use Rattle.warc_journal.specs.declared.journal.Journal.{Journal}
use Rattle.warc_journal.specs.Texts.{with_more}
use Rattle.warc_text.proofs.BookLaws.{get_behind}
use Rattle.warc_text.specs.Books.{IsGroupText, IsVolumeText}
use Rattle.warc_text.specs.Lengths.{request_length}
use Rattle.warc_text.specs.Records.{info_text}
use Rattle.warc_text.specs.References.{Reference}
use Rattle.warc_text.specs.Sound.{IsSound}
use Rattle.warc_scan.specs.Groups.{IsAnswer, IsGroup, reference_in}
use Rattle.warc_scan.specs.declared.group.Group.{Group}
use Rattle.warc_scan.specs.declared.group.Revisited.{Revisited}
use Rattle.archive_shelf.proofs.GainingSoundness.{no_volumes}
use Rattle.archive_shelf.proofs.StoringLaws.{captures_more}
use Rattle.archive_shelf.specs.Answers.{CountsIf}
use Rattle.archive_shelf.specs.Entering.{TellsOfNew}
use Rattle.archive_shelf.specs.Storing.{is_revisit, new_volume, with_capture}
use Rattle.archive_gathering.proofs.PlaceLaws.{answer_and_request}
use Rattle.archive_gathering.specs.Noting.{referring}
use Rattle.archive_gathering.specs.Reading.{Laws}
use Rattle.archive_volumes.proofs.WayLaws.{room_captures, room_gains}
use Rattle.archive_volumes.proofs.WrittenLaws.{texts_done, texts_refused}
use Rattle.archive_volumes.specs.Entries.{EntersAs, IsEntryAt, entered}
use Rattle.archive_volumes.specs.Held.{book_of, stored_in}
use Rattle.archive_volumes.specs.Ready.{CanCommit, record_in, spot_in}
use Rattle.archive_volumes.specs.Spots.{AreHeldWhole, ArePlaced, AreSpotsOf, AreWithin, IsPlaced, spot_of, text_at, whole_from}
use Rattle.archive_volumes.specs.Volumes.{HoldsBook, IsMeasured, muted}
use Rattle.archive_volumes.specs.Writing.{HasRoomFor, Writes, books_as, end_with, texts_with, with_prepared}
use Rattle.archive_volumes.specs.Written.{WritesTexts, texts_as}
use Rattle.archive_volumes.specs.declared.entry.RecordAt.{RecordAt}
use Rattle.archive_volumes.specs.declared.ready.Ready.{Ready}
use Rattle.archive_volumes.specs.declared.room.Prepared.{Prepared}
use Rattle.archive_volumes.specs.declared.spot.Spot.{Spot}
use Rattle.archive_volumes.specs.declared.volumes.Volumes.{Volumes}
use Rattle.archive_core.specs.Basis.{StoringBasis}
use Rattle.archive_core.specs.Holdings.{Holdings, IsArchive}
use Rattle.archive_pieces.specs.PieceFaults.{is_take_fault}
use Rattle.archive_pieces.specs.PieceParts.{book_by, room_by}
use Rattle.archive_pieces.specs.PieceReady.{IsReadyGroup, IsWithinBounds, MakesRoom, MayHold, RefersSo, end_in}
use Rattle.archive_index.specs.Shown.{numbered}
use Rattle.archive_taking.specs.TakingPieces.{IsUntouched, Puts}
use Rattle.archive_core.specs.Texts.{texts_room}
use Rattle.archive_pieces.specs.declared.fault.PieceFault.{PieceFault}
use Rattle.archive_pieces.specs.declared.fault.PieceFault.TheVariants as pieces
use Rattle.archive_core.proofs.EnterLaws.{TellsOfCapture, known_left, known_room, known_with, known_without, tells_of_new}
use Rattle.archive_core.proofs.ExitLaws.{back_by, entered_by, in_volumes, mine_more, same_holdings, shown_by, texts_by}
use Rattle.archive_settling.proofs.FinishedLaws.{ready_grows, room_grows}
use Rattle.archive_taking.proofs.PieceReadyLaws.{HasRoomBy, can_commit_piece, good_group, good_place, good_target}
use Rattle.archive_core.proofs.ReadyLaws.{with_count, with_end}
use Rattle.archive_core.proofs.StoredLaws.{archive_left, archive_stored}
use Rattle.archive_core.proofs.NamedLaws.{named_after, named_same, numbered_new}
use Rattle.archive_taking.specs.steps.Taking.{disk_failed, parts_as}

-- ---- without memory

pub untouched : {D : Type 0} (d : Ghosts D) (was is : Holdings D) → is.journal ≡ was.journal → is.book ≡ was.book → is.index ≡ was.index
    → is.limits ≡ was.limits → is.found ≡ was.found → is.told ≡ was.told → IsUntouched was is
untouched d was is journal book index limits found told = record {
  journal = journal;
  contents = λ i. record {
    tells = told i;
    seen = book i;
    shown = numbered (index i);
    mine = range_with_len (found i) (length (captures (book i)) - found i);
    limits = limits i;
  };
}

-- what a `?` hands out is want of memory
pub memory_exit : {D : Type 0} (d : Ghosts D) (was is : Holdings D) (text : List ℕ) (group : Group) (first begins : Option ℕ) → IsUntouched was is
    → (result : Result ℕ PieceFault) → IsErrAnd result (λ fault. fault ≡ pieces.Memory) → Puts d was is (parts_as text group first begins) result
memory_exit d was is text group first begins same (Ok number) fault = absurd fault
memory_exit d was is text group first begins same (Err other) fault =
    subst (λ (f : PieceFault). Puts d was is (parts_as text group first begins) (Err f)) (sym fault) same

pub memory_faults : {D : Type 0} (d : Ghosts D) (was is : Journal D) → is ≡ was → (result : Result ℕ PieceFault)
    → IsErrAnd result (λ fault. fault ≡ pieces.Memory) → CountsIf (is_take_fault result) (d.faults (disk_of was)) (d.faults (disk_of is))
memory_faults {D} d was is same (Ok number) fault = absurd fault
memory_faults {D} d was is same (Err other) fault =
    subst (λ (f : PieceFault). CountsIf (is_take_fault (err f)) (d.faults (disk_of was)) (d.faults (disk_of is))) (sym fault)
    (ap (λ (j : Journal D). d.faults (disk_of j)) same)
  where
    err : PieceFault → Result ℕ PieceFault
    err f = Err f

-- ---- room

abbrev first_born : List Volume → ℕ
first_born [] = 0
first_born (volume ∷ volumes) = volume.born

abbrev behind_first : List Volume → List Volume
behind_first [] = []
behind_first (volume ∷ volumes) = volumes

same_born : (volumes : List Volume) (a b : ℕ) → volumes ++ new_volume a ∷ [] ≡ volumes ++ new_volume b ∷ [] → a ≡ b
same_born [] a b same = ap first_born same
same_born (volume ∷ volumes) a b same = same_born volumes a b (ap behind_first same)

-- the texts with room, by whether a volume is begun and when it is born
texts_with_room : {D : Type 0} (d : Ghosts D) (was : Holdings D) (now : Volumes D) (begins : Option ℕ) (prepared : Option Prepared) → HasRoomFor now prepared
    → with_prepared (book_of now.held) prepared ≡ room_by (book_of now.held) begins
    → texts_with (texts d now.journal) prepared ≡ texts_room d (in_volumes was now) begins
texts_with_room d was now None None room same = refl
texts_with_room d was now None (Some p) room same =
    let more = length-append (book_of now.held).volumes (new_volume p.shadow.born ∷ []) in
    absurd (omega (arith, more, ap (λ (b : Book). length b.volumes) same))
texts_with_room d was now (Some born) None room same =
    let more = length-append (book_of now.held).volumes (new_volume born ∷ []) in
    absurd (omega (arith, more, ap (λ (b : Book). length b.volumes) same))
texts_with_room d was now (Some born) (Some p) room same =
    let born_is : p.shadow.born ≡ born = same_born (book_of now.held).volumes p.shadow.born born (ap (λ (b : Book). b.volumes) same) in
    ap (λ (info : List ℕ). texts d now.journal ++ info ∷ []) (room.prepared_is.info
    ∙ ap (λ (n : ℕ). info_text (book_of now.held).namespace (length (book_of now.held).volumes) n) born_is)

-- ---- on the way

pub record HasHead (text : List ℕ) : Type 0 where
  pub head : grammar.ResponseHead
  pub is : IsResponseHeadText text head

head_by : (method head digest : List ℕ) (same : Option Reference) (kept : Kept) → IsAnswer method head digest same kept → HasHead head
head_by method head digest same (Wire wire) is = record { head = is.1.responds.parsed; is = is.1.responds.head_is.whole }
head_by method head digest same (Same number) is = record { head = is.1.parsed; is = is.1.tells.head_is.whole }
head_by method head digest same (Cut wire) is = record { head = is.1.responds.parsed; is = is.1.responds.head_is.whole }

-- the head of a group's response, as it stands in the group's text
pub head_of_group : (namespace : List ℕ) (number : ℕ) (text head : List ℕ) (group : Group) → IsGroup namespace number text group → head ≡ group.stored.head
    → HasHead head
head_of_group namespace number text head group of same =
    subst HasHead (sym same) (head_by group.stored.method group.stored.head group.digest (reference_in group.same) group.stored.kept of.answer)

-- what was measured is so once a piece was made ready
pub measured_on : {D : Type 0} (old now : Volumes D) → now.journal ≡ old.journal → book_of now.held ≡ book_of old.held
    → IsMeasured old.journal (book_of old.held) → IsMeasured now.journal (book_of now.held)
measured_on {D} old now journal_is book_is measured =
    subst (λ (b : Book). IsMeasured now.journal b) (sym book_is) (subst (λ (j : Journal D). IsMeasured j (book_of old.held)) (sym journal_is) measured)

-- all that is known of a piece that is ready, of which nothing was written
pub record IsTaking {D : Type 0} (d : Ghosts D) (was : Holdings D) (now : Volumes D) (text : List ℕ) (group : Group) (first begins : Option ℕ) (ready : Ready) : Type 0 where
  pub is : IsArchive d (in_volumes was now)
  pub not_full : length (captures (book_of now.held)) < was.limits.captures
  pub of : IsGroup (book_of now.held).namespace (length (captures (book_of now.held))) text group
  pub refers : RefersSo was.told (book_of now.held) group first
  pub request : length group.stored.request < 2 ^ 34
  pub ready_is : IsReadyGroup text group first ready
  pub room_is : HasRoomBy now begins (length text) ready.prepared
  pub ends : end_with now ready.prepared ≡ end_in (book_of now.held) (last_len now.journal) begins

some_room : (book : Book) (begins : Option ℕ) → MayHold book begins → 0 < length (room_by book begins).volumes
some_room book None may = may
some_room book (Some born) may = let more = length-append book.volumes (new_volume born ∷ []) in omega (arith, more)

pub taking : {D : Type 0} (d : Ghosts D) (seen was : Holdings D) (old now : Volumes D) (text : List ℕ) (group : Group) (first begins : Option ℕ) (ready : Ready)
    → was ≡ seen → was.journal ≡ old.journal → was.book ≡ book_of old.held → IsArchive d was → length (captures seen.book) < seen.limits.captures
    → IsGroup seen.book.namespace (length (captures seen.book)) text group → RefersSo seen.told seen.book group first → MayHold seen.book begins
    → IsWithinBounds group (end_in seen.book (last_len seen.journal) begins) → now.journal ≡ old.journal → book_of now.held ≡ book_of old.held
    → IsReadyGroup text group first ready → MakesRoom old now begins ready.prepared → IsTaking d was now text group first begins ready
taking {D} d seen was old now text group first begins ready seen_is old_journal old_book archive not_full of refers may bounds journal_is book_is ready_is makes =
    let book_same : seen.book ≡ book_of now.held = sym (ap (λ (held : Holdings D). held.book) seen_is) ∙ old_book ∙ sym book_is in
    let journal_same : seen.journal ≡ now.journal = sym (ap (λ (held : Holdings D). held.journal) seen_is) ∙ old_journal ∙ sym journal_is in
    let told_same : seen.told ≡ was.told = sym (ap (λ (held : Holdings D). held.told) seen_is) in
    let same : in_volumes was now ≡ was = same_holdings was now (journal_is ∙ sym old_journal) (book_is ∙ sym old_book) in
    let within : IsWithinBounds group (end_in (book_of now.held) (last_len now.journal) begins)
    = subst (λ (b : Book). IsWithinBounds group (end_in b (last_len now.journal) begins)) book_same
    (subst (λ (j : Journal D). IsWithinBounds group (end_in seen.book (last_len j) begins)) journal_same bounds) in
    let may_now : MayHold (book_of now.held) begins = subst (λ (b : Book). MayHold b begins) book_same may in
    let of_now : IsGroup (book_of now.held).namespace (length (captures (book_of now.held))) text group
    = subst (λ (b : Book). IsGroup b.namespace (length (captures b)) text group) book_same of in
    let room_now : with_prepared (book_of now.held) ready.prepared ≡ room_by (book_of now.held) begins
    = subst (λ (b : Book). with_prepared b ready.prepared ≡ room_by b begins) (sym book_is) makes.room_is in
    let ends_now : end_with now ready.prepared ≡ end_in (book_of now.held) (last_len now.journal) begins
    = subst (λ (b : Book). end_with now ready.prepared ≡ end_in b (last_len now.journal) begins) (sym book_is)
    (subst (λ (j : Journal D). end_with now ready.prepared ≡ end_in (book_of old.held) (last_len j) begins) (sym journal_is) makes.ends) in
    record {
      is = subst (λ (held : Holdings D). IsArchive d held) (sym same) archive;
      not_full = omega (arith, not_full, ap (λ (b : Book). length (captures b)) book_same, ap (λ (held : Holdings D). held.limits.captures) seen_is);
      of = of_now;
      refers = subst (λ (b : Bool). RefersSo b (book_of now.held) group first) told_same
          (subst (λ (b : Book). RefersSo seen.told b group first) book_same refers);
      request = within.request;
      ready_is = ready_is;
      room_is = record {
        room = makes.room;
        room_is = room_now;
        some = subst (λ (b : Book). 0 < length b.volumes) (sym room_now) (some_room (book_of now.held) begins may_now);
        fits = omega (arith, within.ends, ends_now, of_now.places.len);
      };
      ends = ends_now;
    }

-- what is handed back is what was handed over
pub handed_back : (text : List ℕ) (group : Group) (first : Option ℕ) (ready back : Ready) → back ≡ ready → IsReadyGroup text group first ready
    → IsReadyGroup text group first back
handed_back text group first ready back same is = subst (λ (r : Ready). IsReadyGroup text group first r) (sym same) is

-- and what is ready of the group that was handed back is so of the one that was handed over
pub of_group : (text : List ℕ) (group back : Group) (first : Option ℕ) (ready : Ready) → back ≡ group → IsReadyGroup text back first ready
    → IsReadyGroup text group first ready
of_group text group back first ready same is = subst (λ (x : Group). IsReadyGroup text x first ready) same is

pub room_back : {D : Type 0} (old now : Volumes D) (begins : Option ℕ) (ready back : Ready) → back ≡ ready → MakesRoom old now begins ready.prepared
    → MakesRoom old now begins back.prepared
room_back old now begins ready back same is = subst (λ (r : Ready). MakesRoom old now begins r.prepared) (sym same) is

none_is_some : (r : Reference) → None ≡ Some r → ⊥
none_is_some r e = cc

-- a capture that refers to another one is a revisit
abbrev once : Bool → ℕ
once b = if b then 1 else 0

revisit_by : (method head digest : List ℕ) (same : Option Revisited) (kept : Kept) → IsAnswer method head digest (reference_in same) kept → same ≡ None
    → once false ≡ once (is_revisit kept)
revisit_by method head digest same (Wire wire) is none = refl
revisit_by method head digest same (Same n) is none =
    absurd (none_is_some is.1.reference (sym (ap (λ (o : Option Revisited). reference_in o) none) ∙ is.1.refers))
revisit_by method head digest same (Cut wire) is none = refl

revisits_so : (told : Bool) (book : Book) (group : Group) (text : List ℕ) → IsGroup book.namespace (length (captures book)) text group → (first : Option ℕ)
    → RefersSo told book group first → once (is_some first) ≡ once (is_revisit (referring group.stored first).kept)
revisits_so told book group text of None refers =
    revisit_by group.stored.method group.stored.head group.digest group.same group.stored.kept of.answer refers
revisits_so told book group text of (Some n) refers = refl

asked_same : (stored : Stored) (first : Option ℕ) → request_length (taken_back (referring stored first)) ≡ request_length (taken_back stored)
asked_same stored None = refl
asked_same stored (Some n) = refl

pub head_same : (stored : Stored) (first : Option ℕ) → (referring stored first).head ≡ stored.head
head_same stored None = refl
head_same stored (Some n) = refl

pub date_same : (stored : Stored) (first : Option ℕ) → (referring stored first).date ≡ stored.date
date_same stored None = refl
date_same stored (Some n) = refl

module _ {D : Type 0} (d : Ghosts D) (basis : StoringBasis) (reading : Laws) (was : Holdings D) (now : Volumes D) (text : List ℕ) (group : Group)
    (first begins : Option ℕ) (ready : Ready) (t : IsTaking d was now text group first begins ready) where
  abbrev book : Book
  book = book_of now.held

  abbrev room : Book
  room = with_prepared book ready.prepared

  abbrev stored : Stored
  stored = referring group.stored first

  abbrev number : ℕ
  number = length (captures book)

  few : length (captures book) + 1 < 2 ^ 32 - 1
  few = omega (arith, t.not_full, t.is.counted.limits.captures)

  pub commit_ready : CanCommit d was.told now ready
  commit_ready = can_commit_piece d reading basis.volumes was.told now text group first begins ready t.ready_is t.room_is t.of t.refers few t.request
      t.is.holds t.is.measured

  below : (f : Facts) → Among was.index f → f.number < number
  below f among = t.is.counted.below f (contains_from_among was.index f among)

  head_there : HasHead group.stored.head
  head_there = head_by group.stored.method group.stored.head group.digest (reference_in group.same) group.stored.kept t.of.answer

  stored_head : IsResponseHeadText stored.head head_there.head
  stored_head = subst (λ (h : List ℕ). IsResponseHeadText h head_there.head) (sym (head_same group.stored first)) head_there.is

  ready_head : IsResponseHeadText (stored_in ready.stored).head head_there.head
  ready_head = subst (λ (s : Stored). IsResponseHeadText s.head head_there.head) (sym t.ready_is.stored) stored_head

  module _ (at : RecordAt) (n : ℕ) (at_is : at ≡ record_in now ready n) (n_is : n ≡ length (captures (book_of now.held))) (entry : Option Facts)
      (enters : (h : grammar.ResponseHead) → IsResponseHeadText (stored_in ready.stored).head h → EntersAs (stored_in ready.stored) h at entry) where
    numbered_so : IfSome entry (λ (f : Facts). f.number ≡ number)
    numbered_so = numbered_new now ready at n at_is number n_is head_there.head entry (enters head_there.head ready_head)

    -- ---- the index with it is that of the book

    module _ (so : IsTrue was.told) where
      abbrev all : List (List ℕ)
      all = texts_with (texts d now.journal) ready.prepared

      group_there : IsGroupText (with_capture room stored) (length (captures room)) text
      group_there = good_group d reading basis.volumes was.told now text group first begins ready t.ready_is t.room_is t.of t.refers few t.request
          t.is.holds t.is.measured so

      place_there : IsPlaced (with_more all text) (with_capture room stored) (length (captures book))
          (spot_of stored group.digest (length room.volumes - 1) (end_with now ready.prepared) (end_with now ready.prepared + group.head_at))
      place_there = good_place d reading basis.volumes was.told now text group first begins ready t.ready_is t.room_is t.of t.refers few t.request
          t.is.holds t.is.measured so

      same_number : length (captures room) ≡ length (captures book)
      same_number = ap (λ (l : List Stored). length l) (room_captures book ready.prepared)

      one_payload : place_there.payload ≡ group_there.payload
      one_payload =
          captures_have_one (with_capture room stored) (length (captures book)) place_there.payload group_there.payload place_there.has
          (subst (λ (k : ℕ). IsPayloadOf (with_capture room stored) k group_there.payload) same_number
          (record { stored = group_there.stored; placed = group_there.placed; by_kept = group_there.payload_is }))

      tells_of : (e : Facts) → IsEntryAt stored head_there.head at e
          → TellsOfCapture room stored head_there.head group_there.payload text (text_at all (length all - 1)) e
      tells_of e is =
          let count : length all ≡ length room.volumes = with_count book (texts d now.journal) ready.prepared (t.is.holds.texts_are so).count in
          let volume : e.volume ≡ length room.volumes - 1 = is.volume ∙ ap (λ (a : RecordAt). a.volume) at_is in
          let last : length all - 1 ≡ e.volume = omega (arith, count, volume) in
          let all_are = texts_by now (texts d now.journal) ready.prepared basis.volumes (t.is.holds.texts_are so) t.room_is.room in
          let len : e.length ≡ ready.layout.record_len = is.len ∙ ap (λ (a : RecordAt). a.len) at_is in
          let long = ap (λ (l : List ℕ). length l) t.of.composed
          ∙ answer_and_request book.namespace number (taken_back group.stored) group.digest (reference_in group.same) in
          record {
            parsed = stored_head;
            keyed = is.keyed;
            date_is = is.date;
            number_is = is.number ∙ ap (λ (a : RecordAt). a.number) at_is ∙ n_is ∙ sym same_number;
            uri_is = is.uri;
            mime_is = is.mime;
            status_is = is.status;
            volume_is = omega (arith, volume, t.room_is.some);
            ends = subst (λ (k : ℕ). IsVolumeText room k (text_at all (length all - 1))) last (all_are.each (length all - 1) (omega (arith, count, t.room_is.some)));
            offset_is = is.offset ∙ ap (λ (a : RecordAt). a.offset) at_is
                ∙ sym (with_end d now book ready.prepared (t.is.holds.in_step (t.is.holds.tells so)) t.is.measured.count t.room_is.some);
            digest_is = is.digest ∙ ap (λ (a : RecordAt). a.digest) at_is ∙ t.ready_is.digest ∙ place_there.digest ∙ ap sha1 one_payload;
            length_is = omega (arith, len, t.ready_is.record_len, t.of.places.first_len, long, asked_same group.stored first);
          }

      tells_new : (e : Facts) → IsEntryAt stored head_there.head at e → TellsOfNew room stored e
      tells_new e is =
          tells_of_new room stored head_there.head group_there.payload text (text_at all (length all - 1)) e
          (get_behind (captures (with_capture room stored)) (captures room) stored [] (length (captures room)) (captures_more room.volumes stored (no_volumes room.volumes t.room_is.some)) refl)
          (record { is = group_there; payload_is = refl })
          (tells_of e is)

      known_by : (e : Option Facts) → ((h : grammar.ResponseHead) → IsResponseHeadText stored.head h → EntersAs stored h at e)
          → AreOf (with_capture room stored) (entered e was.index)
      known_by None enters_so =
          known_without basis.all room stored was.index t.room_is.some (known_room basis.stay basis.itself book ready.prepared was.index (t.is.known so))
          (λ found. basis.keys stored.uri (good_target was.told book group text t.of first) ((enters_so found.head found.parsed).none found.asked found.told))
      known_by (Some e) enters_so =
          let is = enters_so head_there.head stored_head in
          known_with basis.gain basis.of_new room stored e was.index t.room_is.some (known_room basis.stay basis.itself book ready.prepared was.index (t.is.known so))
          (record { head = head_there.head; parsed = stored_head; asked = is.asked; told = is.told })
          (tells_new e is)

      known_after : AreOf (with_capture room (stored_in ready.stored)) (entered entry was.index)
      known_after =
          subst (λ (s : Stored). AreOf (with_capture room s) (entered entry was.index)) (sym t.ready_is.stored)
          (known_by entry (λ h reads. subst (λ (s : Stored). EntersAs s h at entry) t.ready_is.stored
          (enters h (subst (λ (s : Stored). IsResponseHeadText s.head h) (sym t.ready_is.stored) reads))))

    module _ (journal : Journal D) (after : Book) (table : Table) (index : List Facts) (spots : List Spot)
        (holds : HoldsBook d was.told journal after) (measured : IsMeasured journal after) (table_is : table.kept ≡ whole_from 0 spots)
        (spots_are : AreSpotsOf after spots) (within : IsTrue d.tells → AreWithin (texts d journal) spots)
        (placed : IsTrue was.told → ArePlaced (texts d journal) after spots) (made : IsFalse was.told → AreHeldWhole after spots)
        (others : IsTrue d.tells → cdxj_files (d.reading (disk_of journal)) ≡ cdxj_files (d.reading (disk_of now.journal))) where
      room_same : room ≡ room_by book begins
      room_same = t.room_is.room_is

      room_texts : texts_with (texts d now.journal) ready.prepared ≡ texts_room d (in_volumes was now) begins
      room_texts = texts_with_room d was now begins ready.prepared t.room_is.room room_same

      abbrev WritesSo : {T E : Type 0} → List (List ℕ) → List ℕ → Result T E → Type 0
      WritesSo all group result = WritesTexts d now.journal journal (texts_as all (with_more all group)) result

      wrote_so : {T E : Type 0} (result : Result T E) → WritesSo (texts_with (texts d now.journal) ready.prepared) ready.group result
          → WritesSo (texts_room d (in_volumes was now) begins) text result
      wrote_so result wrote =
          subst (λ (all : List (List ℕ)). WritesSo all text result) room_texts
          (subst (λ (l : List ℕ). WritesSo (texts_with (texts d now.journal) ready.prepared) l result) t.ready_is.text_is wrote)

      after_same : with_capture room (stored_in ready.stored) ≡ book_by book begins group first
      after_same = ap (λ (s : Stored). with_capture room s) t.ready_is.stored ∙ ap (λ (b : Book). with_capture b stored) room_same

      count_same : length (captures room) ≡ number
      count_same = ap (λ (l : List Stored). length l) (room_captures book ready.prepared)

      group_after : IsTrue was.told → IsGroupText (book_by book begins group first) number text
      group_after so =
          subst (λ (b : Book). IsGroupText (with_capture b stored) number text) room_same
          (subst (λ (k : ℕ). IsGroupText (with_capture room stored) k text) count_same (group_there so))

      sound_after : IsTrue was.told → IsSound (book_by book begins group first)
      sound_after so = subst (λ (b : Book). IsSound b) after_same (commit_ready.sound so)

      -- ---- refused by the disk

      module _ (left : (after ≡ book_of now.held) ⊎ (after ≡ with_prepared (book_of now.held) ready.prepared))
          (taken_back_is : index ≡ without (length (captures (book_of now.held))) (entered entry was.index)) where
        index_stays : index ≡ was.index
        index_stays = taken_back_is ∙ back_by number entry was.index numbered_so below

        captures_stay : captures after ≡ captures book
        captures_stay = ⊎_elim
            (λ (same : after ≡ book). ap (λ (b : Book). captures b) same)
            (λ (more : after ≡ room). ap (λ (b : Book). captures b) more ∙ room_captures book ready.prepared)
            left

        pub refused_archive : {T E : Type 0} (fault : E) → spots ≡ was.spots
            → Writes {T = T} {E = E} (muted was.told d) (disk_of now.journal) (disk_of journal) (books_as (book_of now.held) (with_prepared (book_of now.held) ready.prepared)
            (with_capture (with_prepared (book_of now.held) ready.prepared) (stored_in ready.stored)) after) (Err fault)
            → IsArchive d (record was { journal = journal; book = after; table = table; index = index; spots = spots })
        refused_archive fault kept writes =
            archive_left d (in_volumes was now) t.is journal after table holds measured (room_grows book after ready.prepared left) writes.kept index spots captures_stay index_stays table_is spots_are within placed made
            (λ told. known_left basis.stay basis.itself book after ready.prepared was.index left (t.is.known told))
            (named_same was.spots spots was.index index t.is.named kept index_stays)

        pub refused_puts : {T E : Type 0} (fault : E)
            → Writes {T = T} {E = E} (muted was.told d) (disk_of now.journal) (disk_of journal) (books_as (book_of now.held) (with_prepared (book_of now.held) ready.prepared)
            (with_capture (with_prepared (book_of now.held) ready.prepared) (stored_in ready.stored)) after) (Err fault)
            → (IsTrue d.tells → WritesTexts {T = T} {E = E} d now.journal journal (texts_as (texts_with (texts d now.journal) ready.prepared)
            (with_more (texts_with (texts d now.journal) ready.prepared) ready.group)) (Err fault))
            → Puts d (in_volumes was now) (record was { journal = journal; book = after; table = table; index = index; spots = spots })
            (parts_as text group first begins) (Err pieces.DiskFault)
        refused_puts {T} {E} fault writes wrote =
            let told_writes : Writes {T = T} {E = E} (muted was.told d) (disk_of now.journal) (disk_of journal) (books_as book (room_by book begins)
            (book_by book begins group first) after) (Err fault)
            = subst (λ (b : Book). Writes {T = T} {E = E} (muted was.told d) (disk_of now.journal) (disk_of journal) (books_as book b (book_by book begins group first) after) (Err fault)) room_same
            (subst (λ (b : Book). Writes {T = T} {E = E} (muted was.told d) (disk_of now.journal) (disk_of journal) (books_as book room b after) (Err fault)) after_same writes) in
            record {
              left = ⊎_elim
                  (λ (same : after ≡ book). inl same)
                  (λ (more : after ≡ room). inr (more ∙ room_same))
                  left;
              group_is = group_after;
              sound = sound_after;
              others = λ i. record {
                tells = was.told;
                seen = after;
                shown = numbered (index_stays i);
                mine = range_with_len was.found (length (captures_stay i) - was.found);
                limits = was.limits;
              };
              writes = record {
                later = told_writes.later;
                moves = told_writes.moves;
                only = λ ids. tt;
                refused = told_writes.refused;
                covered = told_writes.covered;
                kept = told_writes.kept;
                just = tt;
              };
              bytes = λ tells. texts_refused d now.journal journal (texts_room d (in_volumes was now) begins)
                  (with_more (texts_room d (in_volumes was now) begins) text) fault disk_failed refl (wrote_so {T = T} {E = E} (Err fault) (wrote tells));
              checkpoints = others;
            }

      -- ---- with the capture

      module _ (revisits : ℕ) (with_it : after ≡ with_capture (with_prepared (book_of now.held) ready.prepared) (stored_in ready.stored))
          (index_is : index ≡ entered entry was.index) where
        stored_is : after ≡ with_capture room stored
        stored_is = with_it ∙ ap (λ (s : Stored). with_capture room s) t.ready_is.stored

        gains : captures after ≡ captures book ++ stored ∷ []
        gains = ap (λ (b : Book). captures b) stored_is ∙ room_gains book ready.prepared stored t.room_is.some

        pub stored_archive : {T E : Type 0} (value : T) → spots ≡ was.spots ++ spot_in now ready ∷ []
            → Writes {T = T} {E = E} (muted was.told d) (disk_of now.journal) (disk_of journal) (books_as (book_of now.held) (with_prepared (book_of now.held) ready.prepared)
            (with_capture (with_prepared (book_of now.held) ready.prepared) (stored_in ready.stored)) after) (Ok value)
            → IsIndex index → revisits ≡ was.revisits + (if is_some first then 1 else 0)
            → IsArchive d (record was { journal = journal; book = after; table = table; index = index; spots = spots; revisits = revisits })
        stored_archive value kept writes indexed more =
            archive_stored d (in_volumes was now) t.is journal after table holds measured
            (subst (λ (b : Book). Grows book b) (sym with_it) (ready_grows book ready.prepared (stored_in ready.stored))) writes.kept stored index spots revisits gains t.not_full
            (subst (λ (l : List Facts). (l ≡ was.index) ⊎ ((e : Facts) × (e.number ≡ number) × (l ≡ with_entry e was.index))) (sym index_is)
            (entered_by number entry was.index numbered_so))
            indexed
            (more ∙ ap (λ (k : ℕ). was.revisits + k) (revisits_so was.told book group text t.of first t.refers))
            table_is spots_are within placed made
            (λ told. subst (λ (b : Book). AreOf b index) (sym with_it)
            (subst (λ (l : List Facts). AreOf (with_capture room (stored_in ready.stored)) l) (sym index_is) (known_after told)))
            (named_after now ready at n at_is head_there.head entry (enters head_there.head ready_head) was.spots was.index t.is.named number t.is.spots.count t.is.counted.below
            numbered_so spots index kept index_is)

        pub stored_puts : {T E : Type 0} (value : T)
            → Writes {T = T} {E = E} (muted was.told d) (disk_of now.journal) (disk_of journal) (books_as (book_of now.held) (with_prepared (book_of now.held) ready.prepared)
            (with_capture (with_prepared (book_of now.held) ready.prepared) (stored_in ready.stored)) after) (Ok value)
            → last_len journal ≡ end_with now ready.prepared + length ready.group
            → (IsTrue d.tells → WritesTexts {T = T} {E = E} d now.journal journal (texts_as (texts_with (texts d now.journal) ready.prepared)
            (with_more (texts_with (texts d now.journal) ready.prepared) ready.group)) (Ok value))
            → (answer : ℕ) → answer ≡ length (captures (book_of now.held))
            → Puts d (in_volumes was now) (record was { journal = journal; book = after; table = table; index = index; spots = spots; revisits = revisits })
            (parts_as text group first begins) (Ok answer)
        stored_puts {T} {E} value writes ends wrote answer number_is =
            let whole : after ≡ book_by book begins group first = with_it ∙ after_same in
            let told_writes : Writes {T = T} {E = E} (muted was.told d) (disk_of now.journal) (disk_of journal) (books_as book (room_by book begins) after after) (Ok value)
            = subst (λ (b : Book). Writes {T = T} {E = E} (muted was.told d) (disk_of now.journal) (disk_of journal) (books_as book b after after) (Ok value)) room_same
            (subst (λ (b : Book). Writes {T = T} {E = E} (muted was.told d) (disk_of now.journal) (disk_of journal) (books_as book room b after) (Ok value)) (sym with_it) writes) in
            let count : length (captures after) ≡ number + 1 =
            omega (arith, ap (λ (l : List Stored). length l) gains, length-append (captures book) (stored ∷ [])) in
            let mine = mine_more was.found number (length (captures after)) answer t.is.counted.found count number_is in
            record {
              number_is = number_is;
              book = whole;
              group_is = λ so. subst (λ (b : Book). IsGroupText b number text) (sym whole) (group_after so);
              sound = λ so. subst (λ (b : Book). IsSound b) (sym whole) (sound_after so);
              shown = subst (λ (k : ℕ). (numbered index ≡ numbered was.index) ⊎ ((e : Facts) × (e.number ≡ k) × (numbered index ≡ numbered was.index ++ e ∷ []))) (sym number_is)
                  (subst (λ (l : List Facts). (numbered l ≡ numbered was.index) ⊎ ((e : Facts) × (e.number ≡ number) × (numbered l ≡ numbered was.index ++ e ∷ []))) (sym index_is)
                  (shown_by number entry was.index numbered_so below));
              others = λ i. record {
                tells = was.told;
                seen = after;
                shown = numbered index;
                mine = mine i;
                limits = was.limits;
              };
              ends = omega (arith, ends, t.ends, ap (λ (l : List ℕ). length l) t.ready_is.text_is);
              writes = record {
                later = told_writes.later;
                moves = told_writes.moves;
                only = told_writes.only;
                refused = λ ids. tt;
                covered = told_writes.covered;
                kept = told_writes.kept;
                just = told_writes.just;
              };
              bytes = λ tells. texts_done d now.journal journal (texts_room d (in_volumes was now) begins)
                  (with_more (texts_room d (in_volumes was now) begins) text) value answer (wrote_so {T = T} {E = E} (Ok value) (wrote tells));
              checkpoints = others;
            }
