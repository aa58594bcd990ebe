-- How the taking of a piece ends: it is full, it is no piece, a fault was met, or it was taken.
use Rattle.std.proofs.Common.{◌≡◌, ℕ, ◌+◌, ◌-◌, ◌<◌, Bool, true, IsTrue, List, [], ◌∷◌, ◌++◌, length, get_or, Option, Some, None, Result, Ok, Err, refl, sym, ap, subst, ◌∙◌, inl, inr, ⊎_elim, arith}
use Rattle.std.specs.Prelude.{IfOk, IfSome, IsErrAnd, OnErr, drop, ⊤}
use Rattle.capture.specs.Captures.{captures}
use Rattle.capture.specs.declared.book.Book.{Book}
use Rattle.disk_model.specs.Image.{Image}
use Rattle.disk_model.specs.declared.disk.Disk.{Ghosts}
use Rattle.warc_journal.specs.Extents.{cdxj_files}
use Rattle.warc_journal.specs.Journals.{IsInStep, Rests, disk_of, extent_of, last_len, texts}
use Rattle.warc_journal.specs.Texts.{with_more}
use Rattle.warc_journal.specs.declared.extent.Extent.{Extent}
use Rattle.warc_journal.specs.declared.journal.Journal.{Journal}
use Rattle.warc_text.specs.Books.{IsGroupText}
use Rattle.warc_text.specs.Records.{info_text}
use Rattle.warc_text.specs.Sound.{IsSound}
use Rattle.warc_scan.specs.Groups.{IsGroup}
use Rattle.warc_scan.specs.declared.group.Group.{Group}
use Rattle.archive_shelf.proofs.CallLaws.{keeps_behind, no_more}
use Rattle.archive_shelf.specs.Answers.{CountsIf, IsDamaged}
use Rattle.archive_shelf.specs.Openings.{IsEarlier, LeavesNoMore}
use Rattle.archive_gathering.specs.Revisits.{RefersToNone}
use Rattle.archive_shelf.specs.Pieces.{IsSomePiece}
use Rattle.archive_shelf.specs.Told.{WritesNothing}
use Rattle.archive_shelf.specs.declared.fault.StoreFault.{StoreFault}
use Rattle.archive_shelf.specs.declared.fault.StoreFault.TheVariants as stores
use Rattle.archive_volumes.proofs.ChangeLaws.{DiskLaws, laws_muted}
use Rattle.archive_volumes.proofs.RoomLaws.{last_long, texts_count}
use Rattle.archive_volumes.proofs.StoreLaws.{opens_earlier}
use Rattle.archive_volumes.proofs.VolumeLaws.{texts_rest}
use Rattle.archive_volumes.proofs.WrittenLaws.{texts_since}
use Rattle.archive_volumes.specs.Volumes.{crash_of, muted}
use Rattle.archive_volumes.specs.Writing.{Writes, books_as}
use Rattle.archive_volumes.specs.Written.{WritesTexts, texts_as}
use Rattle.archive_payloads.specs.Choosing.{IsKeptWith}
use Rattle.archive_index.specs.Shown.{numbered}
use Rattle.archive_core.proofs.NamedLaws.{digest_shown}
use Rattle.archive_core.specs.Basis.{StoringBasis}
use Rattle.archive_core.specs.Holdings.{Holdings, IsArchive, contents_of}
use Rattle.archive_core.specs.Looking.{OnlyLooks}
use Rattle.archive_pieces.specs.NextPieces.{Takes}
use Rattle.archive_pieces.specs.PieceFaults.{is_take_fault, store_fault_as}
use Rattle.archive_pieces.specs.PieceOriginals.{FindsOriginal}
use Rattle.archive_pieces.specs.PieceParts.{HasNoParts, IsNoPiece, IsReadAs, book_by, room_by}
use Rattle.archive_pieces.specs.PieceReady.{IsPastBounds, IsWithinBounds, MayHold, RefersSo, end_by, end_in}
use Rattle.archive_core.specs.Stores.{Admits}
use Rattle.archive_taking.specs.TakingPieces.{HasPut, IsUnput, IsUntouched, PieceLeaves, Puts, ShowDigest, TakesPiece}
use Rattle.archive_core.specs.Texts.{texts_room}
use Rattle.archive_core.specs.Told.{told_of, told_on}
use Rattle.archive_taking.specs.steps.Taking.{FindsWithin, disk_failed, parts_as, took, Remains}
use Rattle.archive_core.proofs.ReadLaws.{looks_itself}
use Rattle.archive_pieces.specs.declared.fault.PieceFault.{PieceFault}
use Rattle.archive_pieces.specs.declared.fault.PieceFault.TheVariants as pieces
use Rattle.archive_pieces.proofs.NextParts.{no_piece}
use Rattle.archive_pieces.proofs.PieceTakingLaws.{lost_is_none, may_hold, past_is_none, same_end, some_piece, takes_by}

abbrev failed : PieceFault → Result ℕ PieceFault
failed fault = Err fault

-- the last volume ends where it ended
ends_by : {D : Type 0} (d : Ghosts D) (was mid : Holdings D) → OnlyLooks d was mid → last_len mid.journal ≡ last_len was.journal
ends_by d was mid looks = ap (λ (e : Extent). e.end) looks.extent

pub remains_by : {D : Type 0} (d : Ghosts D) (was mid : Holdings D) → OnlyLooks d was mid → Remains d was mid
remains_by {D} d was mid looks =
    (ap (λ (h : Holdings D). contents_of h) looks.others, looks.extent, looks.bytes, looks.unwritten)

pub no_parts : {D : Type 0} (d : Ghosts D) → DiskLaws d → (was : Holdings D) (bytes : List ℕ) → length (captures was.book) < was.limits.captures
    → (IsTrue was.told → HasNoParts was.book bytes) → TakesPiece d was was bytes (failed pieces.NotAPiece)
no_parts d laws was bytes not_full none = record {
  leaves = (not_full, looks_itself d laws was, (λ told. no_piece was.book bytes (none told)));
  faults = refl;
}

-- what a `?` hands out is want of memory
pub memory_exit : {D : Type 0} (d : Ghosts D) → DiskLaws d → (was : Holdings D) (bytes : List ℕ) (result : Result ℕ PieceFault)
    → IsErrAnd result (λ fault. fault ≡ pieces.Memory) → TakesPiece d was was bytes result
memory_exit d laws was bytes (Ok number) fault = absurd fault
memory_exit d laws was bytes (Err other) fault =
    subst (λ (f : PieceFault). TakesPiece d was was bytes (failed f)) (sym fault)
    (record { leaves = remains_by d was was (looks_itself d laws was); faults = refl })

-- where no bound is passed, what is answered is what was found
pub finds_within : (told : Bool) (book : Book) (group : Group) (end : ℕ) → IsWithinBounds group end → (result : Result (Option ℕ) PieceFault)
    → FindsOriginal told book group result → FindsWithin told book group end result
finds_within told book group end within (Ok first) finds = (within, finds)
finds_within told book group end within (Err fault) finds = inr finds

-- what was found is shown with the digest that is kept of it
shown_with : {D : Type 0} (d : Ghosts D) (held : Holdings D) → IsArchive d held → (digest : List ℕ) (same : Option ℕ)
    → IfSome same (IsKeptWith held.spots digest) → ShowDigest (numbered held.index) digest same
shown_with d held is digest None kept = tt
shown_with d held is digest (Some number) kept = digest_shown d held number is digest (λ spot here. sym (kept spot here))

pub found_shown : {D : Type 0} (d : Ghosts D) (held : Holdings D) → IsArchive d held → (digest : List ℕ) (result : Result (Option ℕ) PieceFault)
    → IfOk result (λ found. IfSome found (IsKeptWith held.spots digest)) → IfOk result (ShowDigest (numbered held.index) digest)
found_shown d held is digest (Ok same) kept = shown_with d held is digest same kept
found_shown d held is digest (Err fault) kept = tt

-- what passes a bound is no piece
past_none : {D : Type 0} (d : Ghosts D) → StoringBasis → (was : Holdings D) → IsArchive d was → (bytes : List ℕ) (begins : Option ℕ) (at : ℕ)
    (group : Group) → IsReadAs was.book bytes begins at group → IsPastBounds group (end_by begins at (last_len was.journal)) → IsTrue was.told
    → IsNoPiece was.book bytes
past_none {D} d basis was is bytes begins at group read past told =
    let step : IsInStep d was.journal = is.holds.in_step (is.holds.tells told) in
    let may : MayHold was.book begins = may_hold was.book read.front begins read.is_front in
    past_is_none was.book (is.holds.sound told).namespace_is bytes begins at group read basis.volumes basis.groups (texts d was.journal)
    (is.holds.texts_are told) (last_len was.journal)
    (λ none.
    let some : 0 < length was.book.volumes = subst (λ (b : Option ℕ). MayHold was.book b) none may in
    ap (λ (n : ℕ). length (get_or (texts d was.journal) (n - 1) [])) (texts_count d was.journal step)
    ∙ last_long d was.journal step (omega (arith, some, is.measured.count)))
    past

-- ---- a call that writes behind one that looks

on_err : {T E : Type 0} {A B : Type 0} (result : Result T E) → (A → B) → OnErr result A → OnErr result B
on_err (Ok value) go on = tt
on_err (Err error) go on = go on

module _ {D : Type 0} (d : Ghosts D) (laws : DiskLaws d) (was mid is : Holdings D) (looks : OnlyLooks d was mid) where
  told_mid : mid.told ≡ was.told
  told_mid = ap (λ (h : Holdings D). h.told) looks.others

  quiet : LeavesNoMore (crash_of (muted was.told d) (disk_of was.journal)) (crash_of (muted was.told d) (disk_of mid.journal))
  quiet =
      subst (λ (told : Bool). LeavesNoMore (crash_of (muted was.told d) (disk_of was.journal)) (crash_of (muted told d) (disk_of mid.journal)))
      told_mid looks.unwritten.crash

  earlier_mid : IsEarlier (crash_of (muted was.told d) (disk_of mid.journal))
  earlier_mid = opens_earlier (muted was.told d) (laws_muted d was.told laws) (disk_of mid.journal)

  writes_on : (room after now : Book) (result : Result ℕ PieceFault)
      → Writes (muted was.told d) (disk_of mid.journal) (disk_of is.journal) (books_as was.book room after now) result
      → Writes (muted was.told d) (disk_of was.journal) (disk_of is.journal) (books_as was.book room after now) result
  writes_on room after now result w = record {
    later = omega (arith, quiet.later, w.later);
    moves = λ ids t x le o. ⊎_elim
        (λ then. inl (no_more (quiet.moves t x le then)))
        (λ on. inr on)
        (w.moves ids t x (omega (arith, le, quiet.later)) o);
    only = w.only;
    refused = λ ids. on_err result
        (λ by. ⊎_elim
        (λ kept. inl (
          kept.0,
          keeps_behind (crash_of (muted was.told d) (disk_of was.journal)) (crash_of (muted was.told d) (disk_of mid.journal))
              (crash_of (muted was.told d) (disk_of is.journal)) was.book earlier_mid quiet kept.1,
        ))
        (λ state. inr state)
        by)
        (w.refused ids);
    covered = λ t le all. w.covered t (omega (arith, le, quiet.later)) (quiet.covered t le all);
    kept = λ files has. quiet.kept files (w.kept files has);
    just = w.just;
  }

  abbrev looked : Holdings D
  looked = record was { journal = mid.journal }

  -- the texts with room, by those that were read before
  room_same : (begins : Option ℕ) → IsTrue d.tells → texts_room d looked begins ≡ texts_room d was begins
  room_same None tells = texts_rest d was.journal mid.journal (looks.bytes tells) looks.extent
  room_same (Some born) tells =
      ap (λ (all : List (List ℕ)). all ++ info_text was.book.namespace (length was.book.volumes) born ∷ [])
      (texts_rest d was.journal mid.journal (looks.bytes tells) looks.extent)

  texts_on : (begins : Option ℕ) (text : List ℕ) (result : Result ℕ PieceFault) → IsTrue d.tells
      → WritesTexts d mid.journal is.journal (texts_as (texts_room d looked begins) (with_more (texts_room d looked begins) text)) result
      → WritesTexts d was.journal is.journal (texts_as (texts_room d was begins) (with_more (texts_room d was begins) text)) result
  texts_on begins text result tells wrote =
      texts_since d was.journal mid.journal is.journal (texts_room d was begins) (with_more (texts_room d was begins) text) result (looks.bytes tells)
      (texts_rest d was.journal mid.journal (looks.bytes tells) looks.extent)
      (subst (λ (room : List (List ℕ)). WritesTexts d mid.journal is.journal (texts_as room (with_more room text)) result) (room_same begins tells) wrote)

  module _ (text : List ℕ) (group : Group) (first begins : Option ℕ) where
    pub put_on : (number : ℕ) → HasPut d mid is (parts_as text group first begins) number → HasPut d was is (parts_as text group first begins) number
    put_on number given =
        let put : HasPut d (record was { journal = mid.journal }) is (parts_as text group first begins) number
        = subst (λ (h : Holdings D). HasPut d h is (parts_as text group first begins) number) looks.others given in
        record {
          number_is = put.number_is;
          book = put.book;
          group_is = put.group_is;
          sound = put.sound;
          shown = put.shown;
          others = put.others;
          ends = subst (λ (n : ℕ). last_len is.journal ≡ end_in was.book n begins + length text) (ends_by d was mid looks) put.ends;
          writes = writes_on (room_by was.book begins) is.book is.book (took number) put.writes;
          bytes = λ tells. texts_on begins text (took number) tells (put.bytes tells);
          checkpoints = λ tells. put.checkpoints tells ∙ ap (λ (image : Image). cdxj_files image) (looks.bytes tells).read;
        }

    pub unput_on : IsUnput d mid is (parts_as text group first begins) → IsUnput d was is (parts_as text group first begins)
    unput_on given =
        let put : IsUnput d (record was { journal = mid.journal }) is (parts_as text group first begins)
        = subst (λ (h : Holdings D). IsUnput d h is (parts_as text group first begins)) looks.others given in
        record {
          left = put.left;
          group_is = put.group_is;
          sound = put.sound;
          others = put.others;
          writes = writes_on (room_by was.book begins) (book_by was.book begins group first) is.book disk_failed put.writes;
          bytes = λ tells. texts_on begins text disk_failed tells (put.bytes tells);
          checkpoints = λ tells. put.checkpoints tells ∙ ap (λ (image : Image). cdxj_files image) (looks.bytes tells).read;
        }

-- ---- once the disk was read

module _ {D : Type 0} (d : Ghosts D) (was mid : Holdings D) (looks : OnlyLooks d was mid) where
  pub same_book : mid.book ≡ was.book
  same_book = ap (λ (h : Holdings D). h.book) looks.others

  same_told : mid.told ≡ was.told
  same_told = ap (λ (h : Holdings D). h.told) looks.others

  pub not_full_on : length (captures was.book) < was.limits.captures → length (captures mid.book) < mid.limits.captures
  not_full_on not_full = subst (λ (h : Holdings D). length (captures h.book) < h.limits.captures) (sym looks.others) not_full

  module _ (bytes : List ℕ) (begins : Option ℕ) (at : ℕ) (group : Group) (read : IsReadAs was.book bytes begins at group)
      (not_full : length (captures was.book) < was.limits.captures) where
    -- ---- a fault was met, or it refers to no capture

    met : (sound : IsTrue was.told → IsSound was.book) (fault : PieceFault) → FindsOriginal mid.told mid.book group (Err fault)
        → CountsIf (is_take_fault (failed fault)) (d.faults (disk_of was.journal)) (d.faults (disk_of mid.journal))
        → TakesPiece d was mid bytes (failed fault)
    met sound (pieces.Full count limit) finds counts = absurd finds
    met sound pieces.NotAPiece finds counts = record {
      leaves = (
        not_full,
        looks,
        λ told. lost_is_none was.book (sound told).namespace_is bytes begins at group read
            (subst (λ (b : Book). RefersToNone b group) same_book (finds (subst (λ (b : Bool). IsTrue b) (sym same_told) told))),
      );
      faults = counts;
    }
    met sound pieces.DiskFault finds counts = record { leaves = (not_full, inl looks); faults = counts }
    met sound (pieces.Damaged number kept found) finds counts = record {
      leaves = (
        not_full,
        looks,
        subst (λ (b : Book). number < length (captures b)) same_book finds.0,
        subst (λ (b : Bool). IsDamaged b kept found) same_told finds.1,
      );
      faults = counts;
    }
    met sound pieces.Memory finds counts = record { leaves = remains_by d was mid looks; faults = counts }

    fault_of : (fault : PieceFault) → is_take_fault {T = Option ℕ} (Err fault) ≡ is_take_fault (failed fault)
    fault_of (pieces.Full count limit) = refl
    fault_of pieces.NotAPiece = refl
    fault_of pieces.DiskFault = refl
    fault_of (pieces.Damaged number kept found) = refl
    fault_of pieces.Memory = refl

    pub fault_exit : StoringBasis → IsArchive d was → (fault : PieceFault) (answer : Result ℕ PieceFault) → IsErrAnd answer (λ other. other ≡ fault)
        → FindsWithin mid.told mid.book group (end_by begins at (last_len was.journal)) (Err fault)
        → CountsIf (is_take_fault {T = Option ℕ} (Err fault)) (d.faults (disk_of was.journal)) (d.faults (disk_of mid.journal))
        → TakesPiece d was mid bytes answer
    fault_exit basis archive fault (Ok number) is finds counts = absurd is
    fault_exit basis archive fault (Err other) is finds counts =
        let counted : CountsIf (is_take_fault (failed fault)) (d.faults (disk_of was.journal)) (d.faults (disk_of mid.journal))
        = subst (λ (b : Bool). CountsIf b (d.faults (disk_of was.journal)) (d.faults (disk_of mid.journal))) (fault_of fault) counts in
        subst (λ (f : PieceFault). TakesPiece d was mid bytes (failed f)) (sym is)
        (⊎_elim
        (λ (past : (fault ≡ pieces.NotAPiece) × IsPastBounds group (end_by begins at (last_len was.journal))).
        subst (λ (f : PieceFault). TakesPiece d was mid bytes (failed f)) (sym past.0)
        (record {
          leaves = (not_full, looks, past_none d basis was archive bytes begins at group read past.1);
          faults = subst (λ (f : PieceFault). CountsIf (is_take_fault (failed f)) (d.faults (disk_of was.journal)) (d.faults (disk_of mid.journal))) past.0 counted;
        }))
        (λ (lost : FindsOriginal mid.told mid.book group (Err fault)). met archive.holds.sound fault lost counted)
        finds)

    -- ---- what is put

    dropped : (xs ys : List ℕ) → drop (length xs) (xs ++ ys) ≡ ys
    dropped [] ys = refl
    dropped (x ∷ xs) ys = dropped xs ys

    pub text_same : (text : List ℕ) → text ≡ drop at bytes → text ≡ read.text
    text_same text cut = cut ∙ (λ i. drop (read.at_is i) (read.composed i)) ∙ dropped read.front read.text

    pub group_on : (text : List ℕ) → text ≡ drop at bytes → IsGroup mid.book.namespace (length (captures mid.book)) text group
    group_on text cut =
        subst (λ (b : Book). IsGroup b.namespace (length (captures b)) text group) (sym same_book)
        (subst (λ (l : List ℕ). IsGroup was.book.namespace (length (captures was.book)) l group) (sym (text_same text cut)) read.is)

    pub may_on : MayHold mid.book begins
    may_on = subst (λ (b : Book). MayHold b begins) (sym same_book) (may_hold was.book read.front begins read.is_front)

    pub bounds_on : IsWithinBounds group (end_by begins at (last_len was.journal)) → IsWithinBounds group (end_in mid.book (last_len mid.journal) begins)
    bounds_on within =
        subst (λ (b : Book). IsWithinBounds group (end_in b (last_len mid.journal) begins)) (sym same_book)
        (subst (λ (n : ℕ). IsWithinBounds group (end_in was.book n begins)) (sym (ends_by d was mid looks))
        (subst (λ (n : ℕ). IsWithinBounds group n) (same_end was.book read.front begins at (last_len was.journal) read.is_front read.at_is) within))

    module _ (laws : DiskLaws d) (is : Holdings D) (first : Option ℕ) (finds : RefersSo mid.told mid.book group first)
        (shown : ShowDigest (numbered was.index) group.digest first) (text : List ℕ) (text_is : text ≡ read.text) where
      refers : RefersSo was.told was.book group first
      refers = subst (λ (h : Holdings D). RefersSo h.told h.book group first) looks.others finds

      takes_so : IsTrue was.told → (IsTrue mid.told → IsSound (book_by mid.book begins group first))
          → (IsTrue mid.told → IsGroupText (book_by mid.book begins group first) (length (captures mid.book)) text)
          → Takes was.book bytes (book_by was.book begins group first)
      takes_so told sound group_is =
          let told_mid : IsTrue mid.told = subst (λ (b : Bool). IsTrue b) (sym same_told) told in
          takes_by was.book bytes begins at group read first
          (subst (λ (b : Book). IsSound (book_by b begins group first)) same_book (sound told_mid))
          (subst (λ (l : List ℕ). IsGroupText (book_by was.book begins group first) (length (captures was.book)) l) text_is
          (subst (λ (b : Book). IsGroupText (book_by b begins group first) (length (captures b)) text) same_book (group_is told_mid)))

      -- all is as it was
      untouched_remains : IsUntouched mid is → Remains d was is
      untouched_remains same =
          let told_same : told_of d mid ≡ told_of d is = λ i. told_on d (disk_of (sym same.journal i)) (sym same.contents i) in (
            same.contents ∙ ap (λ (h : Holdings D). contents_of h) looks.others,
            ap (λ (j : Journal D). extent_of j) same.journal ∙ looks.extent,
            λ tells. subst (λ (j : Journal D). Rests d (disk_of was.journal) (disk_of j)) (sym same.journal) (looks.bytes tells),
            subst (λ t. WritesNothing true (told_of d was) t) told_same looks.unwritten,
          )

      leaves_by : (result : Result ℕ PieceFault) → Puts d mid is (parts_as text group first begins) result → PieceLeaves d was is bytes result
      leaves_by (Ok number) put = (
        not_full,
        record {
          begins = begins;
          at = at;
          group = group;
          first = first;
          read = read;
          refers = refers;
          as_shown = shown;
          put = put_on d laws was mid is looks read.text group first begins number
              (subst (λ (l : List ℕ). HasPut d mid is (parts_as l group first begins) number) text_is put);
          some = subst (λ (n : ℕ). IsSomePiece is.book n bytes) (ap (λ (b : Book). length (captures b)) (sym same_book) ∙ sym put.number_is)
              (subst (λ (b : Book). IsSomePiece b (length (captures was.book)) bytes)
              (ap (λ (b : Book). book_by b begins group first) (sym same_book) ∙ sym put.book)
              (some_piece was.book bytes begins at group read first));
          takes = λ told. subst (λ (b : Book). Takes was.book bytes b)
              (ap (λ (b : Book). book_by b begins group first) (sym same_book) ∙ sym put.book)
              (takes_so told (λ so. subst (λ (b : Book). IsSound b) put.book (put.sound so))
              (λ so. subst (λ (b : Book). IsGroupText b (length (captures mid.book)) text) put.book (put.group_is so)));
        },
      )
      leaves_by (Err (pieces.Full count limit)) put = absurd put
      leaves_by (Err pieces.NotAPiece) put = absurd put
      leaves_by (Err pieces.DiskFault) put = (
        not_full,
        inr (record {
          begins = begins;
          at = at;
          group = group;
          first = first;
          read = read;
          refers = refers;
          as_shown = shown;
          unput = unput_on d laws was mid is looks read.text group first begins
              (subst (λ (l : List ℕ). IsUnput d mid is (parts_as l group first begins)) text_is put);
          takes = λ told. takes_so told put.sound put.group_is;
        }),
      )
      leaves_by (Err (pieces.Damaged number kept found)) put = absurd put
      leaves_by (Err pieces.Memory) put = untouched_remains put

      pub taken_by : (result : Result ℕ PieceFault) → Puts d mid is (parts_as text group first begins) result
          → d.faults (disk_of mid.journal) ≡ d.faults (disk_of was.journal)
          → CountsIf (is_take_fault result) (d.faults (disk_of mid.journal)) (d.faults (disk_of is.journal)) → TakesPiece d was is bytes result
      taken_by result put steady counts = record {
        leaves = leaves_by result put;
        faults = subst (λ (n : ℕ). CountsIf (is_take_fault result) n (d.faults (disk_of is.journal))) steady counts;
      }

-- it is full
pub full_exit : {D : Type 0} (d : Ghosts D) (was : Holdings D) (bytes : List ℕ) (fault : StoreFault)
    → Admits {T = ⊤} (contents_of was) (Err fault) → TakesPiece d was was bytes (failed (store_fault_as fault))
full_exit d was bytes (stores.Full count limit) is = record { leaves = (is.0, is.1, is.2, refl); faults = refl }
full_exit d was bytes stores.DiskFault is = absurd is
full_exit d was bytes (stores.Damaged number kept found) is = absurd is
full_exit d was bytes stores.Memory is = absurd is
