-- How a store of an archive ends: without memory, refused by the disk, or with the capture.
use Rattle.std.proofs.Common.{◌≡◌, ◌≢◌, ◌⊎◌, ℕ, zero, suc, ◌+◌, ◌-◌, ◌^◌, ◌<◌, ◌≤◌, Bool, true, false, IsFalse, IsTrue, List, [], ◌∷◌, ◌++◌, length, Option, Some, None, Result, Ok, Err, if◌then◌else◌, is_some, refl, sym, ap, subst, ◌∙◌, inl, inr, ⊎_elim, arith, length-append}
use Rattle.std.specs.Prelude.{Contains, IfSome, IsErrAnd, count_by}
use Rattle.std.specs.List.{range_with_len}
use Rattle.std.proofs.lemmas.Bool.{false≢true}
use Rattle.std.proofs.lemmas.List.Sums.{count_by-le-length}
use Rattle.sha1.specs.Sha1.{sha1}
use Rattle.capture.specs.Captures.{captures, taken_back, HasPayload}
use Rattle.capture.specs.Faults.{CountsFaults}
use Rattle.capture.specs.Message.{IsResponseHeadText}
use Rattle.capture.specs.Growth.{Grows}
use Rattle.capture.specs.declared.book.Book.{Book}
use Rattle.capture.specs.declared.captured.Stored.{Stored}
use Rattle.capture.specs.declared.captured.Taken.{Taken}
use Rattle.index_entry.proofs.Entries.{without-absent}
use Rattle.index_entry.proofs.Members.{Among, contains_from_among}
use Rattle.index_entry.specs.Facts.{Facts}
use Rattle.index_entry.specs.OfBook.{AreOf}
use Rattle.index_entry.specs.Order.{with_entry, without}
use Rattle.index_entry.specs.Queries.{IsIndex}
use Rattle.disk_model.specs.Crash.{Leaves}
use Rattle.disk_model.specs.declared.disk.Disk.{Ghosts}
use Rattle.httparse.specs.Grammar as grammar
use Rattle.revisit_table.specs.Table.{Table}
use Rattle.warc_journal.specs.Extents.{cdxj_files}
use Rattle.warc_journal.specs.Journals.{Rests, disk_of, extent_of, last_len, texts}
use Rattle.warc_journal.specs.Texts.{with_more}
use Rattle.warc_journal.specs.declared.journal.Journal.{Journal}
use Rattle.warc_text.proofs.BookLaws.{get_behind}
use Rattle.warc_text.specs.Books.{AreVolumeTexts, IsVolumeText}
use Rattle.warc_text.specs.Fits.{Fits}
use Rattle.warc_text.specs.Lengths.{request_length}
use Rattle.archive_shelf.proofs.GainingSoundness.{no_volumes}
use Rattle.archive_shelf.proofs.StoringLaws.{captures_more}
use Rattle.archive_shelf.specs.Answers.{HasStored, HasVolumeAlone}
use Rattle.archive_shelf.specs.Comparing.{CanRefer, RefersAsShown, RefersBy, RefersByDigest}
use Rattle.archive_shelf.specs.Contents.{Contents, LeadsShown}
use Rattle.archive_shelf.specs.Entering.{TellsOfNew}
use Rattle.archive_shelf.specs.Gaining.{VolumesAddTheirText}
use Rattle.archive_shelf.specs.Openings.{HasJust, IsState}
use Rattle.archive_shelf.specs.Storing.{Gains, as_stored, is_revisit, kept_of, with_capture, with_volume}
use Rattle.archive_shelf.specs.declared.fault.StoreFault.{StoreFault}
use Rattle.archive_shelf.specs.declared.fault.StoreFault.TheVariants as stores
use Rattle.archive_shelf.specs.declared.receipt.Receipt.{Receipt}
use Rattle.archive_core.specs.Basis.{StoringBasis}
use Rattle.archive_volumes.specs.Entries.{EntersAs, IsEntryAt, entered}
use Rattle.archive_volumes.specs.Held.{book_of, stored_in}
use Rattle.archive_settling.proofs.FinishedLaws.{ready_grows, room_grows}
use Rattle.archive_settling.specs.Finished.{FirstAreFinished}
use Rattle.archive_core.specs.Holdings.{AreLimits, Holdings, IsArchive, contents_of}
use Rattle.archive_core.specs.Looking.{IsDigestOf, RefersTo}
use Rattle.archive_volumes.specs.Ready.{CanCommit, Incoming, IsReady, record_in, spot_in}
use Rattle.archive_index.specs.Shown.{numbered}
use Rattle.archive_payloads.specs.Choosing.{IsKeptWith}
use Rattle.archive_volumes.specs.Spots.{AreHeldWhole, ArePlaced, AreSpotsOf, AreWithin, text_at, whole_from}
use Rattle.archive_core.specs.Stores.{FillsVolumes, Stores}
use Rattle.archive_core.specs.Told.{told_of}
use Rattle.archive_volumes.specs.Writing.{HasRoomFor, IsWay, TakesSo, Writes, books_as, end_with, texts_with, with_prepared}
use Rattle.archive_volumes.specs.Written.{WritesTexts, texts_as}
use Rattle.archive_volumes.specs.Volumes.{HoldsBook, IsMeasured, crash_of, muted}
use Rattle.archive_volumes.specs.declared.entry.RecordAt.{RecordAt}
use Rattle.archive_volumes.specs.declared.room.Prepared.{Prepared}
use Rattle.archive_volumes.specs.declared.ready.Ready.{Ready}
use Rattle.archive_volumes.specs.declared.spot.Spot.{Spot}
use Rattle.archive_volumes.specs.declared.volumes.Volumes.{Volumes}
use Rattle.archive_volumes.proofs.ChangeLaws.{DiskLaws, laws_muted}
use Rattle.archive_core.proofs.EnterLaws.{TellsOfCapture, known_left, known_room, known_with, known_without, tells_of_new}
use Rattle.archive_core.proofs.FillLaws.{fills_by, left_with}
use Rattle.archive_core.proofs.PayloadLaws.{has_one, one_payload}
use Rattle.archive_core.proofs.ReadyLaws.{can_commit, ready_now, with_count, with_end}
use Rattle.archive_index.proofs.ShownLaws.{numbered_with, taken_out}
use Rattle.archive_volumes.proofs.StoreLaws.{quiet_itself, store_covered, store_kept, store_later, store_moves, store_refused}
use Rattle.archive_core.proofs.StoredLaws.{archive_left, archive_stored}
use Rattle.archive_volumes.proofs.RoomLaws.{texts_count}
use Rattle.archive_volumes.proofs.TakenGroup.{IsGroupWith}
use Rattle.archive_volumes.proofs.WrittenLaws.{rests_itself, texts_done, texts_refused}
use Rattle.archive_volumes.proofs.WayLaws.{by_rule, group_with, needed_by, room_captures, room_gains, room_namespace, room_some, way}
use Rattle.archive_core.proofs.MatchLaws.{digest_by}
use Rattle.archive_core.proofs.NamedLaws.{named_after, named_same, numbered_new}
use Rattle.archive_core.proofs.ReferLaws.{refers_as_shown, refers_by_digest}

-- ---- without memory: all is as it was, but for what is reserved

module _ {D : Type 0} (d : Ghosts D) (was is : Holdings D) (journal_is : is.journal ≡ was.journal) (book_is : is.book ≡ was.book)
    (index_is : is.index ≡ was.index) (limits_is : is.limits ≡ was.limits) (found_is : is.found ≡ was.found)
    (told_is : is.told ≡ was.told) (settled_is : is.settled ≡ was.settled) where
  pub memory_archive : IsArchive d was → is.spots ≡ was.spots → is.table.kept ≡ was.table.kept → is.revisits ≡ was.revisits → IsArchive d is
  memory_archive archive spots_are kept revisits_are =
      let count : length (captures is.book) ≡ length (captures was.book) = ap (λ (b : Book). length (captures b)) book_is in
      record {
        holds = subst (λ (t : Bool). HoldsBook d t is.journal is.book) (sym told_is) (subst (λ (b : Book). HoldsBook d was.told is.journal b) (sym book_is)
            (subst (λ (j : Journal D). HoldsBook d was.told j was.book) (sym journal_is) archive.holds));
        measured = subst (λ (b : Book). IsMeasured is.journal b) (sym book_is) (subst (λ (j : Journal D). IsMeasured j was.book) (sym journal_is) archive.measured);
        counted = record {
          few = omega (arith, count, archive.counted.few);
          revisits = revisits_are ∙ archive.counted.revisits
              ∙ sym (ap (λ (b : Book). count_by (λ (stored : Stored). is_revisit stored.kept) (captures b)) book_is);
          found = omega (arith, count, archive.counted.found, found_is);
          below = λ entry has. omega (arith, count, archive.counted.below entry (subst (λ (l : List Facts). Contains l entry) index_is has));
          limits = subst AreLimits (sym limits_is) archive.counted.limits;
          sealed = omega (arith, archive.counted.sealed, settled_is, ap (λ (b : Book). length b.volumes) book_is);
        };
        spots = subst (λ (l : List Spot). AreSpotsOf is.book l) (sym spots_are) (subst (λ (b : Book). AreSpotsOf b was.spots) (sym book_is) archive.spots);
        table = kept ∙ archive.table ∙ sym (ap (λ (l : List Spot). whole_from 0 l) spots_are);
        indexed = subst IsIndex (sym index_is) archive.indexed;
        named = named_same was.spots is.spots was.index is.index archive.named spots_are index_is;
        within = λ tells. subst (λ (l : List Spot). AreWithin (texts d is.journal) l) (sym spots_are)
            (subst (λ (j : Journal D). AreWithin (texts d j) was.spots) (sym journal_is) (archive.within tells));
        placed = λ told. subst (λ (l : List Spot). ArePlaced (texts d is.journal) is.book l) (sym spots_are)
            (subst (λ (b : Book). ArePlaced (texts d is.journal) b was.spots) (sym book_is)
            (subst (λ (j : Journal D). ArePlaced (texts d j) was.book was.spots) (sym journal_is) (archive.placed (sym told_is ∙ told))));
        made = λ untold. subst (λ (l : List Spot). AreHeldWhole is.book l) (sym spots_are)
            (subst (λ (b : Book). AreHeldWhole b was.spots) (sym book_is) (archive.made (sym told_is ∙ untold)));
        known = λ told. subst (λ (l : List Facts). AreOf is.book l) (sym index_is) (subst (λ (b : Book). AreOf b was.index) (sym book_is) (archive.known (sym told_is ∙ told)));
        settled = λ told. subst (λ (n : ℕ). Leaves (d.images (disk_of is.journal)) (FirstAreFinished is.book n)) (sym settled_is)
            (subst (λ (b : Book). Leaves (d.images (disk_of is.journal)) (FirstAreFinished b was.settled)) (sym book_is)
            (subst (λ (j : Journal D). Leaves (d.images (disk_of j)) (FirstAreFinished was.book was.settled)) (sym journal_is) (archive.settled (sym told_is ∙ told))));
      }

  opened_by : (t : ℕ) (x : Book) → (told_of d is).crash.openings t x → (told_of d was).crash.openings t x
  opened_by t x o = subst (λ (j : Journal D). (crash_of (muted was.told d) (disk_of j)).openings t x) journal_is
      (subst (λ (b : Bool). (crash_of (muted b d) (disk_of is.journal)).openings t x) told_is o)

  memory_stores : (taken : Taken) → Stores d was is taken (Err stores.Memory)
  memory_stores taken = record {
    told = record {
      leaves = record {
        seen = book_is;
        shown = ap numbered index_is;
        others = λ i. record {
          tells = told_is i;
          seen = is.book;
          shown = numbered is.index;
          mine = range_with_len (found_is i) (length (captures (book_is i)) - found_is i);
          limits = limits_is i;
        };
      };
      faults = ap (λ (j : Journal D). d.faults (disk_of j)) journal_is;
      reading = λ alone told.
          ((λ none. ap (λ (j : Journal D). d.reading (disk_of j)) journal_is), ap (λ (j : Journal D). cdxj_files (d.reading (disk_of j))) journal_is);
      crash = record {
        later = omega (
          arith,
          ap (λ (j : Journal D). (crash_of (muted was.told d) (disk_of j)).moment) journal_is,
          ap (λ (b : Bool). (crash_of (muted b d) (disk_of is.journal)).moment) told_is,
        );
        moves = λ ids t x le o. inl (opened_by t x o);
        only = λ ids. tt;
        refused = λ alone told ids fault. absurd (false≢true fault);
        quiet = λ none t x le o. inl (opened_by t x o);
        covered = λ t le all. subst (λ (b : Bool). (crash_of (muted b d) (disk_of is.journal)).covered t) (sym told_is)
            (subst (λ (j : Journal D). (crash_of (muted was.told d) (disk_of j)).covered t) (sym journal_is) all);
        kept = λ files has. subst (λ (j : Journal D). (crash_of (muted was.told d) (disk_of j)).checkpoints files) journal_is
            (subst (λ (b : Bool). (crash_of (muted b d) (disk_of is.journal)).checkpoints files) told_is has);
      };
    };
    just = tt;
    fills = (
      (λ tells. subst (λ (j : Journal D). Rests d (disk_of was.journal) (disk_of j)) (sym journal_is) (rests_itself d (disk_of was.journal))),
      ap (λ (j : Journal D). extent_of j) journal_is,
      book_is,
    );
    bytes = λ tells.
        ((λ none. ap (λ (j : Journal D). d.reading (disk_of j)) journal_is), ap (λ (j : Journal D). cdxj_files (d.reading (disk_of j))) journal_is);
  }

  -- what a `?` hands out is want of memory
  pub memory_exit : (taken : Taken) (result : Result Receipt StoreFault) → IsErrAnd result (λ fault. fault ≡ stores.Memory) → Stores d was is taken result
  memory_exit taken (Ok receipt) fault = absurd fault
  memory_exit taken (Err other) fault = subst (λ (f : StoreFault). Stores d was is taken (Err f)) (sym fault) (memory_stores taken)

-- ---- on the way

-- the archive with the volumes in which room was made
abbrev pub in_volumes : {D : Type 0} → Holdings D → Volumes D → Holdings D
in_volumes was now = record was { journal = now.journal; book = book_of now.held }

pub same_holdings : {D : Type 0} (was : Holdings D) (now : Volumes D) → now.journal ≡ was.journal → book_of now.held ≡ was.book → in_volumes was now ≡ was
same_holdings was now journal_is book_is = λ i. record was { journal = journal_is i; book = book_is i }

-- the capture is ready, and nothing of it was written; all that is known of it
pub record IsUnderWay {D : Type 0} (d : Ghosts D) (was : Holdings D) (now : Volumes D) (incoming : Incoming) (ready : Ready) : Type 0 where
  pub is : IsArchive d (in_volumes was now)
  pub fits : Fits incoming.taken
  pub not_full : length (captures (book_of now.held)) < was.limits.captures
  pub payload : List ℕ
  pub has : HasPayload incoming.taken.cut incoming.taken.method incoming.taken.head incoming.taken.wire payload
  pub digested : incoming.digest ≡ sha1 payload
  pub refers : CanRefer incoming.taken.cut (book_of now.held) incoming.same
  pub kept : IfSome incoming.same (IsKeptWith was.spots incoming.digest)
  pub finds : IsTrue was.told → RefersBy incoming.taken.cut (book_of now.held) (length (captures (book_of now.held))) payload incoming.same
  pub ready_is : IsReady now now was.limits.volume_bytes incoming payload ready

under_way_from : {D : Type 0} (d : Ghosts D) → StoringBasis → (was : Holdings D) (old now : Volumes D) (incoming : Incoming) (ready : Ready)
    → was.journal ≡ old.journal → was.book ≡ book_of old.held → IsArchive d was → Fits incoming.taken
    → length (captures was.book) < was.limits.captures → IsDigestOf incoming.taken incoming.digest
    → RefersTo (contents_of was) incoming.taken incoming.same → IfSome incoming.same (IsKeptWith was.spots incoming.digest)
    → now.journal ≡ old.journal → book_of now.held ≡ book_of old.held
    → ((payload : List ℕ) → incoming.digest ≡ sha1 payload → IsReady old now was.limits.volume_bytes incoming payload ready)
    → IsUnderWay d was now incoming ready
under_way_from {D} d basis was old now incoming ready old_journal old_book archive fits not_full digest refers kept journal_is book_is ready_is =
    let there = has_one basis.whole basis.cut incoming.taken fits in
    let same_book : book_of now.held ≡ was.book = book_is ∙ sym old_book in
    let same : in_volumes was now ≡ was = same_holdings was now (journal_is ∙ sym old_journal) same_book in
    let digested : incoming.digest ≡ sha1 there.payload = digest there.payload there.has in
    record {
      is = subst (λ (held : Holdings D). IsArchive d held) (sym same) archive;
      fits = fits;
      not_full = omega (arith, ap (λ (b : Book). length (captures b)) same_book, not_full);
      payload = there.payload;
      has = there.has;
      digested = digested;
      refers = subst (λ (b : Book). CanRefer incoming.taken.cut b incoming.same) (sym same_book) refers.can;
      kept = kept;
      finds = λ told.
          let does = refers.does told in
          subst (λ (b : Book). RefersBy incoming.taken.cut b (length (captures b)) there.payload incoming.same) (sym same_book)
          (subst (λ (p : List ℕ). RefersBy incoming.taken.cut was.book (length (captures was.book)) p incoming.same)
          (one_payload basis.one incoming.taken.cut incoming.taken.method incoming.taken.head incoming.taken.wire does.payload there.payload does.has there.has)
          does.refers);
      ready_is = ready_now old now was.limits.volume_bytes incoming there.payload ready book_is journal_is (ready_is there.payload digested);
    }

-- and the same by what clauses see of the archive
pub under_way : {D : Type 0} (d : Ghosts D) → StoringBasis → (seen was : Holdings D) (old now : Volumes D) (incoming : Incoming) (ready : Ready)
    → was ≡ seen → was.journal ≡ old.journal → was.book ≡ book_of old.held → IsArchive d was → Fits incoming.taken
    → length (captures seen.book) < seen.limits.captures → IsDigestOf incoming.taken incoming.digest
    → RefersTo (contents_of seen) incoming.taken incoming.same → IfSome incoming.same (IsKeptWith seen.spots incoming.digest)
    → now.journal ≡ old.journal → book_of now.held ≡ book_of old.held
    → ((payload : List ℕ) → incoming.digest ≡ sha1 payload → IsReady old now was.limits.volume_bytes incoming payload ready)
    → IsUnderWay d was now incoming ready
under_way {D} d basis seen was old now incoming ready seen_is old_journal old_book archive fits not_full digest refers kept =
    under_way_from d basis was old now incoming ready old_journal old_book archive fits
    (subst (λ (held : Holdings D). length (captures held.book) < held.limits.captures) (sym seen_is) not_full) digest
    (subst (λ (held : Holdings D). RefersTo (contents_of held) incoming.taken incoming.same) (sym seen_is) refers)
    (subst (λ (held : Holdings D). IfSome incoming.same (IsKeptWith held.spots incoming.digest)) (sym seen_is) kept)

-- what is handed back is what was handed over
pub handed_back : {D : Type 0} (old now : Volumes D) (limit : ℕ) (incoming : Incoming) (ready back : Ready) → back ≡ ready
    → ((payload : List ℕ) → incoming.digest ≡ sha1 payload → IsReady old now limit incoming payload ready)
    → (payload : List ℕ) → incoming.digest ≡ sha1 payload → IsReady old now limit incoming payload back
handed_back old now limit incoming ready back same is payload digested =
    subst (λ (r : Ready). IsReady old now limit incoming payload r) (sym same) (is payload digested)

pub record_back : {D : Type 0} (now : Volumes D) (ready back : Ready) (at : RecordAt) (n : ℕ) → back ≡ ready → at ≡ record_in now ready n → at ≡ record_in now back n
record_back now ready back at n same is = subst (λ (r : Ready). at ≡ record_in now r n) (sym same) is

-- the texts of the volumes with room
pub texts_by : {D : Type 0} (now : Volumes D) (all : List (List ℕ)) (prepared : Option Prepared) → VolumesAddTheirText
    → AreVolumeTexts (book_of now.held) all → HasRoomFor now prepared → AreVolumeTexts (with_prepared (book_of now.held) prepared) (texts_with all prepared)
texts_by now all None add are room = are
texts_by now all (Some p) add are room =
    subst (λ (text : List ℕ). AreVolumeTexts (with_volume (book_of now.held) p.shadow.born) (all ++ text ∷ [])) (sym room.prepared_is.info)
    (add (book_of now.held) p.shadow.born all are)

-- one, where it is so
abbrev pub once : Bool → ℕ
once b = if b then 1 else 0

once_short : (b : Bool) → once b ≤ 1
once_short true = omega arith
once_short false = omega arith

-- there are few enough to count one more
pub revisits_few : {D : Type 0} (d : Ghosts D) (was : Holdings D) (b : Bool) → IsArchive d was → was.revisits + once b < 2 ^ 32
revisits_few d was b is =
    omega (arith, is.counted.revisits, count_by-le-length (λ (stored : Stored). is_revisit stored.kept) (captures was.book), is.counted.few, once_short b)

-- a capture that refers to another one is a revisit
revisit_by : (cut : Bool) (book : Book) (same : Option ℕ) (wire : List ℕ) → CanRefer cut book same
    → once (is_some same) ≡ once (is_revisit (kept_of cut wire same))
revisit_by true book None wire can = refl
revisit_by true book (Some first) wire can = nothing first can
  where
    nothing : (n : ℕ) → Some n ≡ None → once true ≡ once false
    nothing n e = cc
revisit_by false book None wire can = refl
revisit_by false book (Some first) wire can = refl

-- the book with room is one for the capture
roomy_by : (book : Book) (prepared : Option Prepared) (date : ℕ) → 0 < length (with_prepared book prepared).volumes
    → IfSome prepared (λ (p : Prepared). p.shadow.born ≡ date)
    → ((book.volumes ≢ []) × (with_prepared book prepared ≡ book)) ⊎ (with_prepared book prepared ≡ with_volume book date)
roomy_by book None date some born = inl (no_volumes book.volumes some, refl)
roomy_by book (Some p) date some born = inr (ap (with_volume book) born)

-- one number more stands behind the others
range_more : (a n : ℕ) → range_with_len a (suc n) ≡ range_with_len a n ++ (a + n) ∷ []
range_more a zero = let same : a ≡ a + 0 = omega arith in ap (λ (x : ℕ). x ∷ []) same
range_more a (suc n) =
    let same : a + 1 + n ≡ a + suc n = omega arith in
    ap (λ (l : List ℕ). a ∷ l) (range_more (a + 1) n ∙ ap (λ (x : ℕ). range_with_len (a + 1) n ++ x ∷ []) same)

-- its own number is added to those that its stores gave
pub mine_more : (found n m k : ℕ) → found ≤ n → m ≡ n + 1 → k ≡ n → range_with_len found (m - found) ≡ range_with_len found (n - found) ++ k ∷ []
mine_more found n m k le more is =
    let long : m - found ≡ suc (n - found) = omega (arith, le, more) in
    let last : found + (n - found) ≡ k = omega (arith, le, is) in
    ap (range_with_len found) long ∙ range_more found (n - found) ∙ ap (λ (x : ℕ). range_with_len found (n - found) ++ x ∷ []) last

-- where a volume was begun alone, the capture needed it
left_by : {D : Type 0} (d : Ghosts D) (limit : ℕ) (book : Book) (taken : Taken) (prepared : Option Prepared) (with_it now : Book)
    → IfSome prepared (λ (p : Prepared). p.shadow.born ≡ taken.date) → TakesSo d limit book taken (with_prepared book prepared) with_it
    → now ≡ with_prepared book prepared → (now ≡ book) ⊎ HasVolumeAlone d.tells limit book taken now
left_by d limit book taken None with_it now born takes is = inl is
left_by d limit book taken (Some p) with_it now born takes is = inr (record {
  volume = is ∙ ap (with_volume book) born;
  needed = λ told. needed_by d limit book taken p.shadow.born with_it (takes told);
})

-- the entry is taken back
pub back_by : (n : ℕ) (entry : Option Facts) (index : List Facts) → IfSome entry (λ (e : Facts). e.number ≡ n)
    → ((f : Facts) → Among index f → f.number < n) → without n (entered entry index) ≡ index
back_by n None index is below = without-absent n index (λ f among e. omega (arith, below f among, e))
back_by n (Some entry) index is below = taken_out n entry index is below

-- what an entry adds to those that are shown
pub shown_by : (n : ℕ) (entry : Option Facts) (index : List Facts) → IfSome entry (λ (e : Facts). e.number ≡ n)
    → ((f : Facts) → Among index f → f.number < n)
    → (numbered (entered entry index) ≡ numbered index) ⊎ ((e : Facts) × (e.number ≡ n) × (numbered (entered entry index) ≡ numbered index ++ e ∷ []))
shown_by n None index is below = inl refl
shown_by n (Some e) index is below =
    inr (e, is, numbered_with e index (λ f among. omega (arith, below f among, is)))

-- and to the index
pub entered_by : (n : ℕ) (entry : Option Facts) (index : List Facts) → IfSome entry (λ (e : Facts). e.number ≡ n)
    → (entered entry index ≡ index) ⊎ ((e : Facts) × (e.number ≡ n) × (entered entry index ≡ with_entry e index))
entered_by n None index is = inl refl
entered_by n (Some e) index is = inr (e, is, refl)

module _ {D : Type 0} (d : Ghosts D) (basis : StoringBasis) (was : Holdings D) (now : Volumes D) (incoming : Incoming) (ready : Ready)
    (u : IsUnderWay d was now incoming ready) where
  abbrev book : Book
  book = book_of now.held

  abbrev room : Book
  room = with_prepared book ready.prepared

  abbrev stored : Stored
  stored = as_stored incoming.taken incoming.same

  abbrev number : ℕ
  number = length (captures book)

  abbrev before : Contents
  before = contents_of (in_volumes was now)

  some : 0 < length room.volumes
  some = room_some was.limits.volume_bytes book (last_len now.journal) (length ready.group) ready.prepared u.ready_is.decided

  pub commit_ready : CanCommit d was.told now ready
  commit_ready =
      can_commit d was.told now was.limits.volume_bytes incoming u.payload ready u.ready_is u.is.holds u.is.measured u.fits u.refers u.digested u.has u.finds
      basis.committed basis.groups basis.sound u.is.counted.limits.volume_bytes (omega (arith, u.not_full, u.is.counted.limits.captures))

  below : (f : Facts) → Among was.index f → f.number < number
  below f among = u.is.counted.below f (contains_from_among was.index f among)

  pub ready_head : IsResponseHeadText (stored_in ready.stored).head u.has.parsed
  ready_head = subst (λ (s : Stored). IsResponseHeadText s.head u.has.parsed) (sym u.ready_is.stored) u.has.whole

  takes : TakesSo (muted was.told d) was.limits.volume_bytes book incoming.taken room (with_capture room (stored_in ready.stored))
  takes told =
      subst (λ (s : Stored). IsWay (muted was.told d) was.limits.volume_bytes book incoming.taken room (with_capture room s)) (sym u.ready_is.stored)
      (way d now.journal book incoming.taken u.payload incoming.same ready.group told u.is.holds u.has (u.finds told) u.ready_is.group
      basis.groups u.is.measured.count was.limits.volume_bytes ready.prepared u.ready_is.born u.ready_is.decided)

  module _ (at : RecordAt) (n : ℕ) (at_is : at ≡ record_in now ready n) (n_is : n ≡ length (captures (book_of now.held))) (entry : Option Facts)
      (enters : (h : grammar.ResponseHead) → IsResponseHeadText (stored_in ready.stored).head h → EntersAs (stored_in ready.stored) h at entry) where
    numbered_so : IfSome entry (λ (f : Facts). f.number ≡ number)
    numbered_so = numbered_new now ready at n at_is number n_is u.has.parsed entry (enters u.has.parsed ready_head)

    -- ---- the index with it is that of the book

    tells_of : IsTrue was.told → (e : Facts) → IsEntryAt stored u.has.parsed at e
        → TellsOfCapture room stored u.has.parsed u.payload ready.group
        (text_at (texts_with (texts d now.journal) ready.prepared) (length (texts_with (texts d now.journal) ready.prepared) - 1)) e
    tells_of told e is =
        let all : List (List ℕ) = texts_with (texts d now.journal) ready.prepared in
        let count : length all ≡ length room.volumes = with_count book (texts d now.journal) ready.prepared (u.is.holds.texts_are told).count in
        let volume : e.volume ≡ length room.volumes - 1 = is.volume ∙ ap (λ (a : RecordAt). a.volume) at_is in
        let last : length all - 1 ≡ e.volume = omega (arith, count, volume) in
        let all_are = texts_by now (texts d now.journal) ready.prepared basis.volumes (u.is.holds.texts_are told) u.ready_is.room in
        let len : e.length ≡ ready.layout.record_len = is.len ∙ ap (λ (a : RecordAt). a.len) at_is in
        let asked : request_length (taken_back stored) ≡ request_length incoming.taken = refl in
        record {
          parsed = u.has.whole;
          keyed = is.keyed;
          date_is = is.date;
          number_is = is.number ∙ ap (λ (a : RecordAt). a.number) at_is ∙ n_is ∙ sym (ap (λ (l : List Stored). length l) (room_captures book ready.prepared));
          uri_is = is.uri;
          mime_is = is.mime;
          status_is = is.status;
          volume_is = omega (arith, volume, some);
          ends = subst (λ (k : ℕ). IsVolumeText room k (text_at all (length all - 1))) last (all_are.each (length all - 1) (omega (arith, count, some)));
          offset_is = is.offset ∙ ap (λ (a : RecordAt). a.offset) at_is
              ∙ sym (with_end d now book ready.prepared (u.is.holds.in_step (u.is.holds.tells told)) u.is.measured.count some);
          digest_is = is.digest ∙ ap (λ (a : RecordAt). a.digest) at_is ∙ u.ready_is.digest ∙ u.digested;
          length_is = omega (arith, len, asked, u.ready_is.layout.record_len);
        }

    tells_new : IsTrue was.told → (e : Facts) → IsEntryAt stored u.has.parsed at e → TellsOfNew room stored e
    tells_new told e is =
        tells_of_new room stored u.has.parsed u.payload ready.group
        (text_at (texts_with (texts d now.journal) ready.prepared) (length (texts_with (texts d now.journal) ready.prepared) - 1)) e
        (get_behind (captures (with_capture room stored)) (captures room) stored [] (length (captures room)) (captures_more room.volumes stored (no_volumes room.volumes some)) refl)
        (subst (λ (k : ℕ). IsGroupWith (with_capture room stored) k u.payload ready.group) (sym (ap (λ (l : List Stored). length l) (room_captures book ready.prepared)))
        (group_with d now.journal book incoming.taken u.payload incoming.same ready.group told u.is.holds u.has (u.finds told) u.ready_is.group
        (with_capture room stored) (room_namespace book ready.prepared) (room_gains book ready.prepared stored some)))
        (tells_of told e is)

    known_by : IsTrue was.told → (e : Option Facts) → ((h : grammar.ResponseHead) → IsResponseHeadText stored.head h → EntersAs stored h at e)
        → AreOf (with_capture room stored) (entered e was.index)
    known_by told None enters_so =
        known_without basis.all room stored was.index some (known_room basis.stay basis.itself book ready.prepared was.index (u.is.known told))
        (λ found. basis.keys incoming.taken.uri u.fits.well_formed.target ((enters_so found.head found.parsed).none found.asked found.told))
    known_by told (Some e) enters_so =
        let is = enters_so u.has.parsed u.has.whole in
        known_with basis.gain basis.of_new room stored e was.index some (known_room basis.stay basis.itself book ready.prepared was.index (u.is.known told))
        (record { head = u.has.parsed; parsed = u.has.whole; asked = is.asked; told = is.told })
        (tells_new told e is)

    known_after : IsTrue was.told → AreOf (with_capture room (stored_in ready.stored)) (entered entry was.index)
    known_after told =
        subst (λ (s : Stored). AreOf (with_capture room s) (entered entry was.index)) (sym u.ready_is.stored)
        (known_by told entry (λ h parsed. subst (λ (s : Stored). EntersAs s h at entry) u.ready_is.stored
        (enters h (subst (λ (s : Stored). IsResponseHeadText s.head h) (sym u.ready_is.stored) parsed))))

    module _ (laws : DiskLaws d) (journal : Journal D) (after : Book) (table : Table) (index : List Facts) (spots : List Spot)
        (holds : HoldsBook d was.told journal after) (measured : IsMeasured journal after) (table_is : table.kept ≡ whole_from 0 spots)
        (spots_are : AreSpotsOf after spots) (within : IsTrue d.tells → AreWithin (texts d journal) spots)
        (placed : IsTrue was.told → ArePlaced (texts d journal) after spots) (made : IsFalse was.told → AreHeldWhole after spots)
        (others : IsTrue d.tells → cdxj_files (d.reading (disk_of journal)) ≡ cdxj_files (d.reading (disk_of now.journal))) where
      laws_told : DiskLaws (muted was.told d)
      laws_told = laws_muted d was.told laws

      -- ---- refused by the disk

      module _ (left : (after ≡ book_of now.held) ⊎ (after ≡ with_prepared (book_of now.held) ready.prepared))
          (taken_back_is : index ≡ without (length (captures (book_of now.held))) (entered entry was.index)) where
        index_stays : index ≡ was.index
        index_stays = taken_back_is ∙ back_by number entry was.index numbered_so below

        captures_stay : captures after ≡ captures book
        captures_stay = ⊎_elim
            (λ (same : after ≡ book). ap (λ (b : Book). captures b) same)
            (λ (more : after ≡ room). ap (λ (b : Book). captures b) more ∙ room_captures book ready.prepared)
            left

        pub refused_archive : {T E : Type 0} (fault : E) → spots ≡ was.spots
            → Writes {T = T} {E = E} (muted was.told d) (disk_of now.journal) (disk_of journal) (books_as (book_of now.held) (with_prepared (book_of now.held) ready.prepared)
            (with_capture (with_prepared (book_of now.held) ready.prepared) (stored_in ready.stored)) after) (Err fault)
            → IsArchive d (record was { journal = journal; book = after; table = table; index = index; spots = spots })
        refused_archive fault kept writes =
            archive_left d (in_volumes was now) u.is journal after table holds measured (room_grows book after ready.prepared left) writes.kept index spots captures_stay index_stays table_is spots_are within placed made
            (λ told. known_left basis.stay basis.itself book after ready.prepared was.index left (u.is.known told))
            (named_same was.spots spots was.index index u.is.named kept index_stays)

        pub refused_stores : {T E : Type 0} (fault : E)
            → Writes {T = T} {E = E} (muted was.told d) (disk_of now.journal) (disk_of journal) (books_as (book_of now.held) (with_prepared (book_of now.held) ready.prepared)
            (with_capture (with_prepared (book_of now.held) ready.prepared) (stored_in ready.stored)) after) (Err fault)
            → CountsFaults {T = T} {E = E} (d.faults (disk_of now.journal)) (d.faults (disk_of journal)) (Err fault)
            → (IsTrue d.tells → WritesTexts {T = T} {E = E} d now.journal journal (texts_as (texts_with (texts d now.journal) ready.prepared)
            (with_more (texts_with (texts d now.journal) ready.prepared) ready.group)) (Err fault))
            → Stores d (in_volumes was now) (record was { journal = journal; book = after; table = table; index = index; spots = spots })
            incoming.taken (Err stores.DiskFault)
        refused_stores {T} {E} fault writes counts wrote =
            let is : Holdings D = record was { journal = journal; book = after; table = table; index = index; spots = spots } in
            let answer : Result T E = Err fault in
            let old : D = disk_of now.journal in
            let quiet = quiet_itself (muted was.told d) laws_told old in
            record {
              told = record {
                leaves = (
                  book,
                  refl,
                  u.not_full,
                  ⊎_elim
                      (λ (same : after ≡ book). inl same)
                      (λ (more : after ≡ room). left_by (muted was.told d) was.limits.volume_bytes book incoming.taken ready.prepared (with_capture room (stored_in ready.stored)) after u.ready_is.born takes more)
                      left,
                  ap numbered index_stays,
                  λ i. record {
                    tells = was.told;
                    seen = after;
                    shown = numbered index;
                    mine = range_with_len was.found (length (captures_stay i) - was.found);
                    limits = was.limits;
                  },
                );
                reading = λ alone told. ((λ none. absurd none), others (u.is.holds.tells told));
                faults = (counts.later, counts.rose);
                crash = record {
                  later = store_later (muted was.told d) laws_told old old (disk_of journal) before (contents_of is) incoming.taken room (with_capture room (stored_in ready.stored)) answer takes quiet writes;
                  moves = store_moves (muted was.told d) laws_told old old (disk_of journal) before (contents_of is) incoming.taken room (with_capture room (stored_in ready.stored)) answer takes quiet writes;
                  only = λ ids. tt;
                  refused = λ alone told ids fault_is.
                      store_refused (muted was.told d) laws_told old old (disk_of journal) before (contents_of is) incoming.taken room (with_capture room (stored_in ready.stored)) answer takes quiet writes told ids;
                  quiet = λ none. absurd none;
                  covered = store_covered (muted was.told d) laws_told old old (disk_of journal) before (contents_of is) incoming.taken room (with_capture room (stored_in ready.stored)) answer takes quiet writes;
                  kept = store_kept (muted was.told d) laws_told old old (disk_of journal) before (contents_of is) incoming.taken room (with_capture room (stored_in ready.stored)) answer takes quiet writes;
                };
              };
              just = tt;
              fills = inr (
                incoming.same,
                fills_by d (in_volumes was now) is now incoming.taken incoming.same u.payload ready.group refl refl u.has u.ready_is.group ready.prepared
                    u.ready_is.room u.ready_is.born u.ready_is.decided (Err stores.DiskFault) tt tt
                    (λ tells. texts_refused d now.journal journal (texts_with (texts d now.journal) ready.prepared)
                    (with_more (texts_with (texts d now.journal) ready.prepared) ready.group) fault (Err stores.DiskFault) refl (wrote tells))
                    (λ tells. left_with d now is ready.group
                    (texts_count d now.journal (u.is.holds.in_step tells) ∙ u.is.measured.count)
                    (texts_count d journal (holds.in_step tells) ∙ measured.count) ready.prepared fault left (wrote tells)),
              );
              bytes = λ tells. ((λ none. absurd none), others tells);
            }

      -- ---- with the capture

      module _ (revisits : ℕ) (with_it : after ≡ with_capture (with_prepared (book_of now.held) ready.prepared) (stored_in ready.stored))
          (index_is : index ≡ entered entry was.index) where
        stored_is : after ≡ with_capture room stored
        stored_is = with_it ∙ ap (λ (s : Stored). with_capture room s) u.ready_is.stored

        gains : captures after ≡ captures book ++ stored ∷ []
        gains = ap (λ (b : Book). captures b) stored_is ∙ room_gains book ready.prepared stored some

        pub stored_archive : {T E : Type 0} (value : T) → spots ≡ was.spots ++ spot_in now ready ∷ []
            → Writes {T = T} {E = E} (muted was.told d) (disk_of now.journal) (disk_of journal) (books_as (book_of now.held) (with_prepared (book_of now.held) ready.prepared)
            (with_capture (with_prepared (book_of now.held) ready.prepared) (stored_in ready.stored)) after) (Ok value)
            → IsIndex index → revisits ≡ was.revisits + (if is_some incoming.same then 1 else 0)
            → IsArchive d (record was { journal = journal; book = after; table = table; index = index; spots = spots; revisits = revisits })
        stored_archive value kept writes indexed more =
            archive_stored d (in_volumes was now) u.is journal after table holds measured
            (subst (Grows book) (sym with_it) (ready_grows book ready.prepared (stored_in ready.stored))) writes.kept stored index spots revisits gains u.not_full
            (subst (λ (l : List Facts). (l ≡ was.index) ⊎ ((e : Facts) × (e.number ≡ number) × (l ≡ with_entry e was.index))) (sym index_is)
            (entered_by number entry was.index numbered_so))
            indexed
            (more ∙ ap (λ (k : ℕ). was.revisits + k) (revisit_by incoming.taken.cut book incoming.same incoming.taken.wire u.refers))
            table_is spots_are within placed made
            (λ told. subst (λ (b : Book). AreOf b index) (sym with_it)
            (subst (λ (l : List Facts). AreOf (with_capture room (stored_in ready.stored)) l) (sym index_is) (known_after told)))
            (named_after now ready at n at_is u.has.parsed entry (enters u.has.parsed ready_head) was.spots was.index u.is.named number u.is.spots.count u.is.counted.below
            numbered_so spots index kept index_is)

        has_stored : (receipt : Receipt) → receipt.number ≡ number → receipt.same_as ≡ incoming.same
            → HasStored true incoming.taken before
            (contents_of (record was { journal = journal; book = after; table = table; index = index; spots = spots; revisits = revisits })) receipt
        has_stored receipt number_is same_is =
            let count : length (captures after) ≡ number + 1 =
            omega (arith, ap (λ (l : List Stored). length l) gains, length-append (captures book) (stored ∷ [])) in
            let of : IsDigestOf incoming.taken incoming.digest = digest_by basis.one incoming.taken incoming.digest u.payload u.has u.digested in
            let mine = mine_more was.found number (length (captures after)) receipt.number u.is.counted.found count number_is in
            let leads : LeadsShown true (Some number) (numbered was.index) (numbered index) =
            subst (λ (l : List Facts). LeadsShown true (Some number) (numbered was.index) (numbered l)) (sym index_is) (shown_by number entry was.index numbered_so below) in
            record {
              found = book;
              led = refl;
              not_full = u.not_full;
              number = number_is;
              refers = subst (λ (same : Option ℕ). CanRefer incoming.taken.cut book same) (sym same_is) u.refers;
              by_digest = subst (λ (same : Option ℕ). RefersByDigest book incoming.taken same) (sym same_is)
                  (refers_by_digest d (in_volumes was now) u.is incoming.digest incoming.taken of incoming.same u.refers u.kept);
              as_shown = subst (λ (same : Option ℕ). RefersAsShown (numbered index) incoming.taken same) (sym same_is)
                  (refers_as_shown d (in_volumes was now) u.is incoming.digest incoming.taken of incoming.same (numbered index) u.refers u.kept leads);
              gained = subst (λ (same : Option ℕ). Gains book (as_stored incoming.taken same) after) (sym same_is) (record {
                room = room;
                roomy = roomy_by book ready.prepared incoming.taken.date some u.ready_is.born;
                gained = stored_is;
              });
              by_rule = λ told.
                  by_rule d now.journal book incoming.taken u.payload incoming.same ready.group told u.is.holds u.has (u.finds told) u.ready_is.group
                  basis.groups u.is.measured.count was.limits.volume_bytes ready.prepared u.ready_is.born u.ready_is.decided receipt after same_is stored_is;
              shown = subst (λ (k : ℕ). LeadsShown true (Some k) (numbered was.index) (numbered index)) (sym number_is) leads;
              others = λ i. record {
                tells = was.told;
                seen = after;
                shown = numbered index;
                mine = mine i;
                limits = was.limits;
              };
            }

        pub stored_stores : {T E : Type 0} (value : T)
            → Writes {T = T} {E = E} (muted was.told d) (disk_of now.journal) (disk_of journal) (books_as (book_of now.held) (with_prepared (book_of now.held) ready.prepared)
            (with_capture (with_prepared (book_of now.held) ready.prepared) (stored_in ready.stored)) after) (Ok value)
            → CountsFaults {T = T} {E = E} (d.faults (disk_of now.journal)) (d.faults (disk_of journal)) (Ok value)
            → last_len journal ≡ end_with now ready.prepared + length ready.group
            → (IsTrue d.tells → WritesTexts {T = T} {E = E} d now.journal journal (texts_as (texts_with (texts d now.journal) ready.prepared)
            (with_more (texts_with (texts d now.journal) ready.prepared) ready.group)) (Ok value))
            → (receipt : Receipt) → receipt.number ≡ length (captures (book_of now.held)) → receipt.same_as ≡ incoming.same
            → Stores d (in_volumes was now) (record was { journal = journal; book = after; table = table; index = index; spots = spots; revisits = revisits })
            incoming.taken (Ok receipt)
        stored_stores {T} {E} value writes counts ends wrote receipt number_is same_is =
            let is : Holdings D = record was { journal = journal; book = after; table = table; index = index; spots = spots; revisits = revisits } in
            let answer : Result T E = Ok value in
            let old : D = disk_of now.journal in
            let quiet = quiet_itself (muted was.told d) laws_told old in
            record {
              told = record {
                leaves = has_stored receipt number_is same_is;
                reading = λ alone told. ((λ none. absurd none), others (u.is.holds.tells told));
                faults = counts.steady;
                crash = record {
                  later = store_later (muted was.told d) laws_told old old (disk_of journal) before (contents_of is) incoming.taken room (with_capture room (stored_in ready.stored)) answer takes quiet writes;
                  moves = store_moves (muted was.told d) laws_told old old (disk_of journal) before (contents_of is) incoming.taken room (with_capture room (stored_in ready.stored)) answer takes quiet writes;
                  only = λ ids. subst (λ (b : Book). IsState (crash_of (muted was.told d) (disk_of journal)) b None) (sym with_it) (writes.only ids);
                  refused = λ alone told ids fault. absurd (false≢true fault);
                  quiet = λ none. absurd none;
                  covered = store_covered (muted was.told d) laws_told old old (disk_of journal) before (contents_of is) incoming.taken room (with_capture room (stored_in ready.stored)) answer takes quiet writes;
                  kept = store_kept (muted was.told d) laws_told old old (disk_of journal) before (contents_of is) incoming.taken room (with_capture room (stored_in ready.stored)) answer takes quiet writes;
                };
              };
              just = λ told image now. subst (HasJust image) (sym with_it) (writes.just told image now);
              bytes = λ tells. ((λ none. absurd none), others tells);
              fills = subst (λ (same : Option ℕ). FillsVolumes d (in_volumes was now) is incoming.taken same (Ok receipt)) (sym same_is)
                  (fills_by d (in_volumes was now) is now incoming.taken incoming.same u.payload ready.group refl refl u.has u.ready_is.group ready.prepared
                  u.ready_is.room u.ready_is.born u.ready_is.decided (Ok receipt) stored_is ends
                  (λ tells. texts_done d now.journal journal (texts_with (texts d now.journal) ready.prepared)
                  (with_more (texts_with (texts d now.journal) ready.prepared) ready.group) value receipt (wrote tells))
                  (λ tells. tt));
            }
