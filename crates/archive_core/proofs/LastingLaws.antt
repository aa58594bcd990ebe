-- What an archive stored stands through each call, from each store on.
use Rattle.std.proofs.Common.{◌≡◌, ◌⊎◌, ℕ, ◌-◌, ◌^◌, ◌<◌, ◌≤◌, Bool, true, false, IsTrue, List, [], ◌∷◌, length, Option, Some, None, Result, Ok, Err, if◌then◌else◌, refl, sym, ap, subst, ◌∙◌, inl, inr, ⊎_elim, arith}
use Rattle.std.specs.Prelude.{slice_get}
use Rattle.sha1.specs.Sha1.{sha1}
use Rattle.capture.specs.Captures.{captures}
use Rattle.capture.specs.declared.book.Book.{Book}
use Rattle.capture.specs.declared.captured.Stored.{Stored}
use Rattle.capture.specs.declared.captured.Taken.{Taken}
use Rattle.disk_model.specs.Image.{Image}
use Rattle.disk_model.specs.Moments.{AddsOnly}
use Rattle.disk_model.specs.declared.disk.Disk.{Ghosts}
use Rattle.warc_journal.specs.Extents.{texts_in, warc_files}
use Rattle.warc_journal.specs.Journals.{IsLeft, Rests, disk_of, extent_of, texts}
use Rattle.warc_journal.specs.Laws.{just_are_held}
use Rattle.warc_journal.specs.Texts.{Hold, HoldEither, with_more}
use Rattle.warc_journal.specs.declared.extent.Extent.{Extent}
use Rattle.warc_journal.specs.declared.journal.Journal.{Journal}
use Rattle.warc_text.specs.Records.{group_text, info_text}
use Rattle.warc_text.specs.References.{reference_of}
use Rattle.warc_text.specs.declared.same_of.SameOf.{SameOf}
use Rattle.checkpoint.specs.Faults.{CountsDisk}
use Rattle.checkpoint.specs.declared.fault.CheckpointFault.{CheckpointFault}
use Rattle.checkpoint.specs.declared.fault.CheckpointFault.TheVariants as checkpoints
use Rattle.archive_shelf.proofs.CallLaws.{counted}
use Rattle.archive_shelf.proofs.StoringLaws.{captures_stay}
use Rattle.archive_shelf.specs.Answers.{CountsIf, is_store_fault}
use Rattle.archive_shelf.specs.Comparing.{RefersByDigest}
use Rattle.archive_shelf.specs.Storing.{as_stored, with_capture, with_volume}
use Rattle.archive_shelf.specs.declared.fault.StoreFault.{StoreFault}
use Rattle.archive_shelf.specs.declared.fault.StoreFault.TheVariants as stores
use Rattle.archive_shelf.specs.declared.receipt.Receipt.{Receipt}
use Rattle.archive_settling.specs.Settling.{reach}
use Rattle.archive_settling.specs.Supplying.{HasSupplied, shelved_as}
use Rattle.archive_volumes.proofs.ChangeLaws.{DiskLaws}
use Rattle.archive_volumes.proofs.KeepLaws.{texts_go_more}
use Rattle.archive_volumes.proofs.VolumeLaws.{texts_rest}
use Rattle.archive_volumes.specs.Grouping.{IsGroupFor, TellsSame}
use Rattle.archive_volumes.specs.Written.{HoldOneOf}
use Rattle.archive_core.specs.Holdings.{Holdings}
use Rattle.archive_core.specs.Lasting.{EachHasMore, EachLasts, GainsMore, HasCaptureMore, HasMore, IsNear, IsNearOne, KeepsStored, last_stood, with_info}
use Rattle.archive_core.specs.Looking.{OnlyLooks}
use Rattle.archive_core.specs.Settling.{SettlesOn}
use Rattle.archive_core.specs.Stood.{BeginWith, KeepsStood, Lasts, Stood}
use Rattle.archive_core.specs.Stores.{BeginsAlone, FillsVolumes, LeavesVolumes, StaysFilled, Stores, texts_where}
use Rattle.archive_core.specs.Texts.{texts_begun}
use Rattle.archive_core.proofs.StoodLaws.{begin_both, begin_held, begin_itself, begin_on, lasts_by}
use Rattle.archive_core.proofs.TextLaws.{texts_go_on}

-- ---- what stood, and one more

info_begins : (was : Stood) (begun : Bool) (born : ℕ) → BeginWith was.finished (with_info was begun born)
info_begins was true born =
    begin_on was.finished (with_info was true born) (texts_go_on was.finished (info_text was.book.namespace (length was.book.volumes) born))
info_begins was false born = begin_itself was.finished

more_begins : (was is : Stood) → HasMore was is → BeginWith was.finished is.finished
more_begins was is (inl more) =
    let room : List (List ℕ) = with_info was more.begun more.taken.date in
    subst (BeginWith was.finished) (sym more.texts_are)
    (begin_both was.finished room (with_more room more.group) (info_begins was more.begun more.taken.date)
    (begin_on room (with_more room more.group) (texts_go_more room None more.group)))
more_begins was is (inr more) = subst (BeginWith was.finished) (sym more.texts_are) (info_begins was true more.born)

has_more : (was is : Stood) → GainsMore was is → HasMore was is
has_more was is (inl stored) = inl stored.more
has_more was is (inr volume) = inr volume

near_begins : (now : Stood) (image : Image) → IsNear now image → BeginWith now.finished (warc_files image)
near_begins now image (inl held) = begin_held now.finished (warc_files image) held
near_begins now image (inr next) =
    begin_both now.finished next.0.finished (warc_files image) (more_begins now next.0 next.1) (begin_held next.0.finished (warc_files image) next.2)

-- an image with the same files of volumes
near_by : (now : Stood) (image other : Image) → warc_files image ≡ warc_files other → IsNear now other → IsNear now image
near_by now image other same (inl held) = inl (subst (Hold now.finished) (sym same) held)
near_by now image other same (inr next) = inr (next.0, next.1, subst (Hold next.0.finished) (sym same) next.2)

-- ---- faults

pub counts_later : (result : Result ℕ CheckpointFault) (before now : ℕ) → CountsDisk before now result → before ≤ now
counts_later (Ok n) before now same = omega (arith, same)
counts_later (Err checkpoints.DiskFault) before now counts = counts.0
counts_later (Err checkpoints.Memory) before now same = omega (arith, same)

-- ---- all that stood since

abbrev EachBegins : Stood → List Stood → List (List ℕ) → Type 0
EachBegins stood [] files = BeginWith stood.finished files
EachBegins stood (last ∷ earlier) files = BeginWith last.finished files × EachBegins stood earlier files

each_begins : (stood : Stood) (since : List Stood) → EachHasMore stood since → (files : List (List ℕ)) → BeginWith (last_stood stood since).finished files
    → EachBegins stood since files
each_begins stood [] each files begins = begins
each_begins stood (last ∷ earlier) each files begins = (
  begins,
  each_begins stood earlier each.2 files
      (begin_both (last_stood stood earlier).finished last.finished files (more_begins (last_stood stood earlier) last (has_more (last_stood stood earlier) last each.1)) begins),
)

first_begins : (stood : Stood) (since : List Stood) (files : List (List ℕ)) → EachBegins stood since files → BeginWith stood.finished files
first_begins stood [] files begins = begins
first_begins stood (last ∷ earlier) files begins = first_begins stood earlier files begins.1

last_near : (stood : Stood) (since : List Stood) (image : Image) → IsNear (last_stood stood since) image → IsNearOne stood since image
last_near stood [] image near = near
last_near stood (last ∷ earlier) image near = inl near

-- what stands by now in the volumes of a book with which a journal goes on
abbrev pub standing_of : {D : Type 0} → Ghosts D → Book → Journal D → Stood
standing_of d book journal = record { book = book; finished = texts d journal; moment = d.moment (disk_of journal); faults = d.faults (disk_of journal) }

-- in those of an archive
abbrev pub standing : {D : Type 0} → Ghosts D → Holdings D → Stood
standing d held = standing_of d held.book held.journal

module _ {D : Type 0} (d : Ghosts D) (laws : DiskLaws d) (stood : Stood) where
  last_later : (since : List Stood) (disk : D) → EachLasts d stood since disk → (last_stood stood since).moment ≤ d.moment disk
  last_later [] disk lasts = lasts.later
  last_later (last ∷ earlier) disk lasts = lasts.0.later

  pub first_lasts : (since : List Stood) (disk : D) → EachLasts d stood since disk → Lasts d stood disk
  first_lasts [] disk lasts = lasts
  first_lasts (last ∷ earlier) disk lasts = first_lasts earlier disk lasts.1

  module _ (old new : D) (P : Image → Type 0) (run : AddsOnly d.moment d.images_since old new P) where
    each_lasts : (since : List Stood) → EachLasts d stood since old → ((image : Image) → P image → EachBegins stood since (warc_files image))
        → EachLasts d stood since new
    each_lasts [] lasts gives = lasts_by d laws stood old new P lasts run gives
    each_lasts (last ∷ earlier) lasts gives = (
      lasts_by d laws last old new P lasts.0 run (λ image has. (gives image has).0),
      each_lasts earlier lasts.1 (λ image has. (gives image has).1),
    )

    now_was : (image : Image) → d.images new image → d.images old image ⊎ P image
    now_was image now = ⊎_elim
        (λ (was : d.images_since old (d.moment old) image). inl (laws.now_only old image was))
        (λ has. inr has)
        (run.adds (d.moment old) image (omega arith) (laws.now_counts new (d.moment old) image run.later now))

  -- ---- an archive that keeps it

  -- what stood finished at first stands still
  pub stands_of : (held : Holdings D) → KeepsStored d stood held → KeepsStood d stood held.journal
  stands_of held keeps =
      let stands = keeps.stands in
      let last : Stood = last_stood stood stands.since in
      record {
        lasts = first_lasts stands.since (disk_of held.journal) stands.lasts;
        begins = subst (BeginWith stood.finished) keeps.texts_are
            (first_begins stood stands.since last.finished (each_begins stood stands.since stands.each last.finished (begin_itself last.finished)));
      }

  module _ (was is : Holdings D) (keeps : KeepsStored d stood was) (P : Image → Type 0)
      (run : AddsOnly d.moment d.images_since (disk_of was.journal) (disk_of is.journal) P)
      (counts : d.faults (disk_of was.journal) ≤ d.faults (disk_of is.journal)) where
    abbrev last : Stood
    last = last_stood stood keeps.stands.since

    -- the disk met no fault since
    abbrev IsFaultless : D → Type 0
    IsFaultless disk = (d.faults disk ≡ stood.faults) × (stood.faults < 2 ^ 64 - 1)

    faultless_before : IsFaultless (disk_of is.journal) → IsFaultless (disk_of was.journal)
    faultless_before none = (omega (arith, none.0, counts, keeps.stands.counted), none.1)

    -- a call that leaves book and texts
    keeps_still : ((image : Image) → P image → IsNear last image)
        → (IsFaultless (disk_of is.journal) → (image : Image) → P image → Hold last.finished (warc_files image))
        → is.book ≡ was.book → texts d is.journal ≡ texts d was.journal → KeepsStored d stood is
    keeps_still gives just same_book same_texts =
        let stands = keeps.stands in
        record {
          stands = record {
            since = stands.since;
            each = stands.each;
            book_is = stands.book_is ∙ sym same_book;
            lasts = each_lasts (disk_of was.journal) (disk_of is.journal) P run stands.since stands.lasts
                (λ image has. each_begins stood stands.since stands.each (warc_files image) (near_begins last image (gives image has)));
            left = λ image left. ⊎_elim
                (λ (was_left : d.images_since (disk_of was.journal) stood.moment image). stands.left image was_left)
                (λ has. last_near stood stands.since image (gives image has))
                (run.adds stood.moment image (first_lasts stands.since (disk_of was.journal) stands.lasts).later left);
            near = λ image now. ⊎_elim
                (λ (before : d.images (disk_of was.journal) image). stands.near image before)
                (λ has. gives image has)
                (now_was (disk_of was.journal) (disk_of is.journal) P run image now);
            counted = omega (arith, stands.counted, counts);
            just = λ same few image now.
                let before = faultless_before (same, few) in ⊎_elim
                (λ (was_now : d.images (disk_of was.journal) image). stands.just before.0 before.1 image was_now)
                (λ has. just (same, few) image has)
                (now_was (disk_of was.journal) (disk_of is.journal) P run image now);
          };
          texts_are = keeps.texts_are ∙ sym same_texts;
        }

    -- a call behind which one more stands
    keeps_more : GainsMore last (standing d is) → ((image : Image) → P image → IsNear last image)
        → ((image : Image) → d.images (disk_of is.journal) image → IsNear (standing d is) image)
        → (IsFaultless (disk_of is.journal) → (image : Image) → d.images (disk_of is.journal) image → Hold (texts d is.journal) (warc_files image))
        → KeepsStored d stood is
    keeps_more more gives nears just =
        let stands = keeps.stands in
        record {
          stands = record {
            since = standing d is ∷ stands.since;
            each = (omega (arith, last_later stands.since (disk_of was.journal) stands.lasts, run.later), more, stands.each);
            book_is = refl;
            lasts = (
              record {
                later = omega arith;
                images = λ image left. near_begins (standing d is) image (nears image (laws.now_only (disk_of is.journal) image left));
              },
              each_lasts (disk_of was.journal) (disk_of is.journal) P run stands.since stands.lasts
                  (λ image has. each_begins stood stands.since stands.each (warc_files image) (near_begins last image (gives image has))),
            );
            left = λ image left. inr (⊎_elim
                (λ (was_left : d.images_since (disk_of was.journal) stood.moment image). stands.left image was_left)
                (λ has. last_near stood stands.since image (gives image has))
                (run.adds stood.moment image (first_lasts stands.since (disk_of was.journal) stands.lasts).later left));
            near = nears;
            counted = omega (arith, stands.counted, counts);
            just = λ same few image now. just (same, few) image now;
          };
          texts_are = refl;
        }

  -- ---- calls that only read

  stored_rests : (was is : Holdings D) → KeepsStored d stood was → d.faults (disk_of was.journal) ≤ d.faults (disk_of is.journal)
      → Rests d (disk_of was.journal) (disk_of is.journal) → extent_of is.journal ≡ extent_of was.journal → is.book ≡ was.book → KeepsStored d stood is
  stored_rests was is keeps counts rests extent same =
      keeps_still was is keeps (λ image. ⊥) rests.leaves counts (λ image none. absurd none) (λ faultless image none. absurd none) same
      (texts_rest d was.journal is.journal rests extent)

  pub stored_looks : (was is : Holdings D) → IsTrue d.tells → OnlyLooks d was is → (fault : Bool)
      → CountsIf fault (d.faults (disk_of was.journal)) (d.faults (disk_of is.journal)) → KeepsStored d stood was → KeepsStored d stood is
  stored_looks was is tells looks fault counts keeps =
      stored_rests was is keeps (counted fault (d.faults (disk_of was.journal)) (d.faults (disk_of is.journal)) counts) (looks.bytes tells) looks.extent
      (ap (λ (held : Holdings D). held.book) looks.others)

  -- ---- checkpoints are written

  pub stored_settled : (was is : Holdings D) (result : Result ℕ CheckpointFault) → IsTrue d.tells → SettlesOn d was is result → KeepsStored d stood was
      → KeepsStored d stood is
  stored_settled was is result tells settles keeps =
      let left = settles.leaves tells in
      let same : texts d is.journal ≡ texts d was.journal =
      ap (λ (e : Extent). texts_in e (warc_files (d.reading (disk_of is.journal)))) settles.extent ∙ ap (texts_in (extent_of was.journal)) left.warc in
      let P = HasSupplied (shelved_as was.told was.book was.spots) (reach is.settled result) (d.reading (disk_of was.journal)) (d.images (disk_of was.journal)) in
      let counts = counts_later result (d.faults (disk_of was.journal)) (d.faults (disk_of is.journal)) settles.faults in
      keeps_still was is keeps P left.leaves counts
      (λ image has. near_by (last_stood stood keeps.stands.since) image has.0 has.2.warc (keeps.stands.near has.0 has.1))
      (λ faultless image has.
      let before = faultless_before was is keeps P left.leaves counts faultless in
      subst (Hold (last_stood stood keeps.stands.since).finished) (sym has.2.warc) (keeps.stands.just before.0 before.1 has.0 has.1))
      (ap (λ (held : Holdings D). held.book) settles.others) same

-- ---- a group in the book with room

module _ (book : Book) (born : ℕ) where
  none_more : captures book ≡ captures (with_volume book born)
  none_more = sym (captures_stay book.volumes born)

  tells_in_room : (same : Option ℕ) (other : Option SameOf) → TellsSame book same other → TellsSame (with_volume book born) same other
  tells_in_room None other tells = tells
  tells_in_room (Some first) other tells =
      (tells.0, subst (λ (all : List Stored). slice_get all first ≡ Some tells.0) none_more tells.1, tells.2)

  group_in_room : (taken : Taken) (payload : List ℕ) (same : Option ℕ) (group : List ℕ) → IsGroupFor book taken payload same group
      → IsGroupFor (with_volume book born) taken payload same group
  group_in_room taken payload same group of = record {
    other = of.other;
    tells = tells_in_room same of.other of.tells;
    composed = of.composed
        ∙ ap (λ (all : List Stored). group_text book.namespace (length all) taken (sha1 payload) (reference_of book.namespace of.other)) none_more;
  }

-- ---- a store

module _ {D : Type 0} (d : Ghosts D) (laws : DiskLaws d) (stood : Stood) (was is : Holdings D) (taken : Taken) (tells : IsTrue d.tells)
    (keeps : KeepsStored d stood was) (result : Result Receipt StoreFault) (stores_so : Stores d was is taken result) where
  abbrev before : Stood
  before = last_stood stood keeps.stands.since

  -- it is what the archive had
  abbrev had : Stood
  had = record { book = was.book; finished = texts d was.journal; moment = before.moment; faults = before.faults }

  had_before : had ≡ before
  had_before =
      let book : was.book ≡ before.book = sym keeps.stands.book_is in
      let finished : texts d was.journal ≡ before.finished = sym keeps.texts_are in
      λ i. record { book = book i; finished = finished i; moment = before.moment; faults = before.faults }

  counts : d.faults (disk_of was.journal) ≤ d.faults (disk_of is.journal)
  counts = counted (is_store_fault result) (d.faults (disk_of was.journal)) (d.faults (disk_of is.journal)) stores_so.told.faults

  -- the disk met a fault, if that is the answer
  none_failed : (d.faults (disk_of is.journal) ≡ stood.faults) × (stood.faults < 2 ^ 64 - 1) → is_store_fault result ≡ true → ⊥
  none_failed faultless failed =
      let rose = subst (λ (fault : Bool). CountsIf fault (d.faults (disk_of was.journal)) (d.faults (disk_of is.journal))) failed stores_so.told.faults in
      omega (arith, rose.1, keeps.stands.counted, faultless.0, faultless.1)

  stored_left : LeavesVolumes d was is → KeepsStored d stood is
  stored_left left = stored_rests d laws stood was is keeps counts (left.0 tells) left.1 left.2

  module _ (same : Option ℕ) (f : FillsVolumes d was is taken same result) where
    abbrev room : List (List ℕ)
    room = texts_where d was f.begun taken.date

    abbrev Adds : Image → Type 0
    Adds = IsLeft (d.images (disk_of was.journal)) (HoldOneOf (texts d was.journal) room (with_more room f.group))

    abbrev filled : Stood
    filled = record {
      book = with_capture (if f.begun then with_volume was.book taken.date else was.book) (as_stored taken same);
      finished = with_more room f.group;
      moment = before.moment;
      faults = before.faults;
    }

    fills_more : (next : Stood) → next.book ≡ filled.book → next.finished ≡ filled.finished → HasCaptureMore had next
    fills_more next book texts_are = record {
      taken = taken;
      same = same;
      payload = f.payload;
      has = f.has;
      group = f.group;
      of = f.of;
      begun = f.begun;
      book = book;
      texts_are = texts_are;
    }

    room_near : (begun : Bool) (image : Image) → Hold (texts_where d was begun taken.date) (warc_files image) → IsNear had image
    room_near true image held = inr (
      record { book = with_volume was.book taken.date; finished = texts_begun d was taken.date; moment = before.moment; faults = before.faults },
      inr (record { born = taken.date; book = refl; texts_are = refl }),
      held,
    )
    room_near false image held = inl held

    adds_near : (image : Image) → Adds image → IsNear before image
    adds_near image left = subst (λ (s : Stood). IsNear s image) had_before (⊎_elim
        (λ (held : Hold (texts d was.journal) (warc_files image)). inl held)
        (λ more. ⊎_elim
        (λ (held : Hold room (warc_files image)). room_near f.begun image held)
        (λ (held : Hold (with_more room f.group) (warc_files image)). inr (filled, inl (fills_more filled refl refl), held))
        more)
        left.described)

    -- refused, book and texts stay
    still_stored : is_store_fault result ≡ true → StaysFilled d was is → KeepsStored d stood is
    still_stored failed stays =
        keeps_still d laws stood was is keeps Adds (f.bytes tells).leaves counts adds_near (λ faultless image has. absurd (none_failed faultless failed)) stays.0
        stays.1

    -- or a volume was begun
    alone_near : (alone : BeginsAlone d was is taken.date f.group) (image : Image)
        → HoldEither (texts_begun d was taken.date) (with_more (texts_begun d was taken.date) f.group) (warc_files image)
        → IsNear (standing d is) image
    alone_near alone image (inl held) = inl (subst (λ (all : List (List ℕ)). Hold all (warc_files image)) (sym alone.texts_are) held)
    alone_near alone image (inr held) = inr (
      record { book = with_capture is.book (as_stored taken same); finished = with_more (texts d is.journal) f.group; moment = before.moment; faults = before.faults },
      inl (record {
        taken = taken;
        same = same;
        payload = f.payload;
        has = f.has;
        group = f.group;
        of = subst (λ (b : Book). IsGroupFor b taken f.payload same f.group) (sym alone.book)
            (group_in_room was.book taken.date taken f.payload same f.group f.of);
        begun = false;
        book = refl;
        texts_are = refl;
      }),
      subst (λ (all : List (List ℕ)). Hold (with_more all f.group) (warc_files image)) (sym alone.texts_are) held,
    )

    begun_stored : is_store_fault result ≡ true → BeginsAlone d was is taken.date f.group → KeepsStored d stood is
    begun_stored failed alone =
        keeps_more d laws stood was is keeps Adds (f.bytes tells).leaves counts
        (subst (λ (s : Stood). GainsMore s (standing d is)) had_before (inr (record { born = taken.date; book = alone.book; texts_are = alone.texts_are })))
        adds_near (λ image now. alone_near alone image (alone.images image now)) (λ faultless image now. absurd (none_failed faultless failed))

-- by what it answered
module _ {D : Type 0} (d : Ghosts D) (laws : DiskLaws d) (stood : Stood) (was is : Holdings D) (taken : Taken) (tells : IsTrue d.tells)
    (keeps : KeepsStored d stood was) where
  done_stored : (receipt : Receipt) → Stores d was is taken (Ok receipt) → KeepsStored d stood is
  unfolding fills_more
  done_stored receipt stores_so =
      let f = stores_so.fills in
      let leaves = stores_so.told.leaves in
      let same : Option ℕ = receipt.same_as in
      let wrote = f.bytes tells in
      let after : List (List ℕ) = with_more (texts_where d was f.begun taken.date) f.group in
      let held : (image : Image) → d.images (disk_of is.journal) image → Hold (texts d is.journal) (warc_files image) =
      λ image now. subst (λ (all : List (List ℕ)). Hold all (warc_files image)) (sym wrote.added)
      (just_are_held after (warc_files image) (wrote.only image now).described) in
      keeps_more d laws stood was is keeps (Adds d laws stood was is taken tells keeps (Ok receipt) stores_so same f) wrote.leaves
      (counts d laws stood was is taken tells keeps (Ok receipt) stores_so)
      (subst (λ (s : Stood). GainsMore s (standing d is)) (had_before d laws stood was is taken tells keeps (Ok receipt) stores_so) (inl (record {
        more = fills_more d laws stood was is taken tells keeps (Ok receipt) stores_so same f (standing d is) f.book wrote.added;
        by_digest = subst (λ (book : Book). RefersByDigest book taken same) leaves.led leaves.by_digest;
      })))
      (adds_near d laws stood was is taken tells keeps (Ok receipt) stores_so same f) (λ image now. inl (held image now)) (λ faultless. held)

  pub stored_behind : (result : Result Receipt StoreFault) → Stores d was is taken result → KeepsStored d stood is
  stored_behind (Ok receipt) s = done_stored receipt s
  stored_behind (Err (stores.Full count limit)) s = stored_left d laws stood was is taken tells keeps (Err (stores.Full count limit)) s s.fills
  stored_behind (Err stores.DiskFault) s = ⊎_elim
      (λ (left : LeavesVolumes d was is). stored_left d laws stood was is taken tells keeps (Err stores.DiskFault) s left)
      (λ (put : (same : Option ℕ) × FillsVolumes d was is taken same (Err stores.DiskFault)). ⊎_elim
      (λ (stays : StaysFilled d was is). still_stored d laws stood was is taken tells keeps (Err stores.DiskFault) s put.0 put.1 refl stays)
      (λ (alone : (put.1.begun ≡ true) × BeginsAlone d was is taken.date put.1.group).
      begun_stored d laws stood was is taken tells keeps (Err stores.DiskFault) s put.0 put.1 refl alone.1)
      (put.1.left tells))
      s.fills
  stored_behind (Err (stores.Damaged number digest found)) s =
      stored_left d laws stood was is taken tells keeps (Err (stores.Damaged number digest found)) s s.fills
  stored_behind (Err stores.Memory) s = stored_left d laws stood was is taken tells keeps (Err stores.Memory) s s.fills
