-- What was read to its end is what is opened.
use Rattle.std.proofs.Common.{◌≡◌, ◌≢◌, ℕ, zero, suc, ◌+◌, ◌^◌, ◌<◌, ◌≤◌, IsTrue, List, [], length, refl, sym, ap, subst, ◌∙◌, ⊎_elim, arith, length-append}
use Rattle.std.specs.Prelude.{IfOk, Option, Some, None, Result, Ok, Err, slice_index_or, IfErr, IsErrAnd}
use Rattle.std.proofs.lemmas.Bool.{cases_lt}
use Rattle.std.proofs.lemmas.Option.{get_or_from_slice_get, same_Some}
use Rattle.sha1.specs.Sha1.{sha1}
use Rattle.capture.proofs.PayloadLaws.{captures_have_one}
use Rattle.capture.specs.Captures.{IsPayloadOf}
use Rattle.capture.specs.declared.book.Book.{Book}
use Rattle.capture.specs.declared.book.Volume.{Volume}
use Rattle.capture.specs.declared.captured.Stored.{Stored}
use Rattle.index_entry.specs.Facts.{Facts}
use Rattle.index_entry.specs.OfBook.{AreEntries, IsEntryOf}
use Rattle.disk_model.specs.Crash.{Leaves}
use Rattle.disk_model.specs.Image.{Image}
use Rattle.disk_model.proofs.MomentLaws.{none_added}
use Rattle.disk_model.specs.declared.disk.Disk.{Ghosts}
use Rattle.volume_scan.specs.Scannings.{disk_of, position_of}
use Rattle.volume_scan.specs.declared.scanning.Scanning.{Scanning}
use Rattle.warc_journal.specs.Extents.{texts_in, warc_files}
use Rattle.warc_journal.specs.Journals.{IsInStep, Rests, disk_of as disk_of_journal, extent_of, last_len, texts as texts_of, volumes}
use Rattle.warc_journal.specs.Texts.{Hold}
use Rattle.warc_journal.specs.declared.extent.Extent.{Extent}
use Rattle.warc_journal.specs.declared.journal.Journal.{Journal}
use Rattle.warc_text.specs.Books.{AreVolumeTexts, joined}
use Rattle.warc_text.specs.Records.{info_text}
use Rattle.archive_shelf.proofs.ShortTexts.{short_info}
use Rattle.archive_shelf.proofs.StoringSoundness.{few_volumes}
use Rattle.archive_shelf.specs.declared.fault.ReopenFault.{ReopenFault}
use Rattle.archive_shelf.specs.declared.fault.ReopenFault.TheVariants as faults
use Rattle.warc_text.specs.StandsFor.{StandsFor}
use Rattle.archive_opening.proofs.FollowingLaws.{rests_on}
use Rattle.archive_gathering.proofs.KnownLaws.{none_made}
use Rattle.archive_gathering.proofs.RefusalLaws.{none_joined}
use Rattle.archive_gathering.specs.Gathering.{IsGathered, IsIn, IsSteady}
use Rattle.archive_volumes.specs.Entries.{AreNamed, IsNamedAs}
use Rattle.archive_opening.specs.Opening.{IsDamageIn, IsOpened, IsOtherIn, IsReadRefusal, IsOutside}
use Rattle.archive_gathering.specs.Refusing.{IsCause, IsOther}
use Rattle.archive_opening.specs.Following.{HasAll}
use Rattle.archive_volumes.specs.Held.{book_of}
use Rattle.archive_gathering.specs.Reading.{IsRead}
use Rattle.archive_volumes.proofs.SpotLaws.{within_of}
use Rattle.archive_volumes.specs.Spots.{ArePlaced, AreSpotsOf, AreWithin, IsPlaced, IsSpotOf}
use Rattle.archive_volumes.specs.Volumes.{IsMeasured}
use Rattle.archive_gathering.specs.declared.gathered.Gathered.{Gathered}
use Rattle.archive_opening.specs.declared.opening.Opened.{Opened}
use Rattle.archive_volumes.specs.declared.spot.Spot.{Spot}

-- an entry of a book tells what is kept of its capture
named_as : (texts : List (List ℕ)) (book : Book) (entry : Facts) (spot : Spot) → IsEntryOf book entry.number entry → IsSpotOf book entry.number spot
    → IsPlaced texts book entry.number spot → IsNamedAs spot entry
named_as texts book entry spot of is placed =
    let same : of.group.stored ≡ is.stored = same_Some of.group.stored is.stored (sym of.group.placed ∙ is.placed) in
    let has : IsPayloadOf book entry.number of.group.payload =
    record { stored = of.group.stored; placed = of.group.placed; by_kept = of.group.payload_is } in
    record {
      uri = of.uri_is ∙ ap (λ (s : Stored). s.uri) same ∙ sym is.uri;
      date = of.date_is ∙ ap (λ (s : Stored). s.date) same ∙ sym is.date;
      digest = of.digest_is ∙ ap sha1 (captures_have_one book entry.number of.group.payload placed.payload has placed.has) ∙ sym placed.digest;
    }

named_all : (texts : List (List ℕ)) (book : Book) (spots : List Spot) (entries : List Facts) → AreSpotsOf book spots → ArePlaced texts book spots
    → AreEntries book entries → AreNamed spots entries
named_all texts book spots entries are placed of entry has spot at =
    named_as texts book entry spot (of.of_book.each entry has) (are.each entry.number spot at) (placed.each entry.number spot at)

-- nothing was done on a disk
pub rests_itself : {D : Type 0} (d : Ghosts D) (disk other : D) → other ≡ disk → Rests d disk other
rests_itself d disk other same = subst (Rests d disk) (sym same) (record {
  read = refl;
  crash = λ image left. left;
  leaves = none_added d.moment d.images_since disk (λ image. ⊥);
})

module _ {D : Type 0} (d : Ghosts D) (s : Scanning D) (g : Gathered) (all : HasAll d s g) (journal : Journal D)
    (disk_is : disk_of_journal journal ≡ disk_of s) (extent_is : extent_of journal ≡ (position_of s).extent) where
  texts_same : IsTrue d.tells → texts_of d journal ≡ all.follows.texts
  texts_same told = (λ i. texts_in (extent_is i) (warc_files (d.reading (disk_is i)))) ∙ all.follows.read told

  module _ (book : Book) (read : IsRead None book all.follows.texts) where
    count_is : volumes journal ≡ length book.volumes
    count_is = ap (λ (e : Extent). e.volumes) extent_is ∙ all.follows.volumes ∙ read.are.count

    end_is : (k : ℕ) → k + 1 ≡ length all.follows.texts → last_len journal ≡ length (slice_index_or all.follows.texts k [])
    end_is k last = ap (λ (e : Extent). e.end) extent_is ∙ all.follows.ends k last

    ends_by : (n : ℕ) → n ≡ length all.follows.texts → last_len journal < 2 ^ 62
    ends_by zero e = omega (arith, ap (λ (x : Extent). x.end) extent_is, all.follows.none (sym e))
    ends_by (suc k) e =
        let last : k + 1 ≡ length all.follows.texts = omega (arith, e) in
        omega (arith, end_is k last, read.sound.short_texts k (slice_index_or all.follows.texts k []) (read.are.each k (omega (arith, last))))

    pub measured : IsMeasured journal book
    measured = record {
      count = count_is;
      filled = read.sound.sound.filled;
      ends = ends_by (length all.follows.texts) refl;
      begins = λ k volume last at empty.
          let here : k + 1 ≡ length all.follows.texts = omega (arith, last, read.are.count) in
          let text = read.are.each k (omega (arith, here)) in
          let same : text.volume ≡ volume = sym (get_or_from_slice_get book.volumes k text.volume volume text.placed) ∙ get_or_from_slice_get book.volumes k volume volume at in
          let none : length text.groups ≡ 0 = text.count ∙ ap (λ (v : Volume). length v.captures) same ∙ ap length empty in
          let long = ap length text.composed ∙ length-append (info_text book.namespace k text.volume.born) (joined text.groups) in
          omega (
            arith,
            end_is k here,
            long,
            ap length (none_joined text.groups none),
            short_info book.namespace k text.volume.born (omega (arith, last, few_volumes book read.sound, read.sound.sound.few)),
          );
    }

  -- where there are volumes their book has some
  pub some_volumes : volumes journal ≢ 0 → 0 < length (book_of g.held).volumes
  some_volumes some = ⊎_elim
      (λ (less : 0 < length (book_of g.held).volumes). less)
      (λ (none : length (book_of g.held).volumes ≤ 0). absurd (some (omega (arith, none, count_is (book_of g.held) all.follows.gathered.read))))
      (cases_lt 0 (length (book_of g.held).volumes))

  pub opened_by : (asked : Option (List ℕ)) (other : Gathered) → IsGathered None other all.follows.texts → IsSteady other → IsIn asked (book_of other.held)
      → (IsTrue d.tells → IsInStep d journal)
      → (IsTrue d.tells → Leaves (d.images (disk_of s)) (λ image. Hold (texts_of d journal) (warc_files image)))
      → IsOpened d (disk_of s) asked (record { journal = journal; gathered = other })
  opened_by asked other gathered steady in_it in_step left = record {
    usable = record {
      measured = measured (book_of other.held) gathered.read;
      steady = steady;
      spots = gathered.spots_are;
      in_step = in_step;
      left = λ told. subst (λ (x : D). Leaves (d.images x) (λ image. Hold (texts_of d journal) (warc_files image))) (sym disk_is) (left told);
      within = λ told. subst (λ (t : List (List ℕ)). AreWithin t other.spots.items) (sym (texts_same told))
          (within_of all.follows.texts (book_of other.held) other.spots.items gathered.placed);
      tells = λ told. told;
      sound = λ told. gathered.read.sound;
      texts_are = λ told. subst (AreVolumeTexts (book_of other.held)) (sym (texts_same told)) gathered.read.are;
      placed = λ told. subst (λ (t : List (List ℕ)). ArePlaced t (book_of other.held) other.spots.items) (sym (texts_same told)) gathered.placed;
      made = λ untold. none_made (book_of other.held) other.spots.items gathered.all_read;
    };
    sound = gathered.read.sound;
    entries = gathered.entries_are;
    named = named_all all.follows.texts (book_of other.held) other.spots.items other.entries.items gathered.spots_are gathered.placed gathered.entries_are;
    all_read = gathered.all_read;
    stands = λ told. record { texts = all.follows.texts; are = gathered.read.are; held = all.held told };
    in_namespace = in_it;
    rests = λ told. rests_itself d (disk_of s) (disk_of_journal journal) disk_is;
    faults = ap d.faults disk_is;
  }

-- ---- from the disk that was given

pub opened_on : {D : Type 0} (d : Ghosts D) (disk mid : D) (asked : Option (List ℕ)) (opened : Opened D) → (IsTrue d.tells → Rests d disk mid)
    → d.faults mid ≡ d.faults disk → IsOpened d mid asked opened → IsOpened d disk asked opened
opened_on d disk mid asked opened rests steady_count is = record {
  usable = is.usable;
  sound = is.sound;
  entries = is.entries;
  named = is.named;
  all_read = is.all_read;
  stands = λ told. subst (λ (i : Image). StandsFor (warc_files i) (book_of opened.gathered.held)) (rests told).read (is.stands told);
  in_namespace = is.in_namespace;
  rests = λ told. rests_on d disk mid (disk_of_journal opened.journal) (rests told) (is.rests told);
  faults = is.faults ∙ steady_count;
}

pub opened_from : {D E : Type 0} (d : Ghosts D) (disk mid : D) (asked : Option (List ℕ)) (result : Result (Opened D) E) → (IsTrue d.tells → Rests d disk mid)
    → d.faults mid ≡ d.faults disk → IfOk result (IsOpened d mid asked) → IfOk result (IsOpened d disk asked)
opened_from d disk mid asked (Ok opened) rests steady_count is = opened_on d disk mid asked opened rests steady_count is
opened_from d disk mid asked (Err refused) rests steady_count is = tt

-- a refusal of reading
pub other_by : (files : List (List ℕ)) (asked : Option (List ℕ)) (fault : ReopenFault) → IsReadRefusal files fault → IsOtherIn files asked fault
other_by files asked (faults.Damaged kind file place) refused = tt
other_by files asked (faults.OtherNamespace other) refused = absurd refused
other_by files asked faults.DiskFault refused = tt
other_by files asked faults.Memory refused = tt

pub damage_from : (files : List (List ℕ)) (fault : ReopenFault) → IsReadRefusal files fault → IsDamageIn files fault
damage_from files (faults.Damaged kind file place) refused = refused
damage_from files (faults.OtherNamespace other) refused = absurd refused
damage_from files faults.DiskFault refused = tt
damage_from files faults.Memory refused = tt

-- a cause of reading is one whatever is asked for
pub cause_from : (asked : Option (List ℕ)) (fault : ReopenFault) → IsCause None fault → IsCause asked fault
cause_from asked (faults.Damaged kind file place) cause = cause
cause_from asked (faults.OtherNamespace other) cause = absurd cause
cause_from asked faults.DiskFault cause = tt
cause_from asked faults.Memory cause = tt

-- another namespace than that of the book
pub cause_other : (book : Book) (asked : Option (List ℕ)) (fault : ReopenFault) → IsOther book asked fault → IsCause asked fault
cause_other book asked (faults.Damaged kind file place) other = absurd other
cause_other book None (faults.OtherNamespace other) is = absurd is
cause_other book (Some namespace) (faults.OtherNamespace other) is = is.1
cause_other book asked faults.DiskFault other = absurd other
cause_other book asked faults.Memory other = absurd other

-- one that isn't in the files
pub cause_outside : (asked : Option (List ℕ)) (fault : ReopenFault) → IsOutside fault → IsCause asked fault
cause_outside asked (faults.Damaged kind file place) outside = absurd outside
cause_outside asked (faults.OtherNamespace other) outside = absurd outside
cause_outside asked faults.DiskFault outside = tt
cause_outside asked faults.Memory outside = tt

-- ---- where a fault is handed on

-- by a `?`
pub exit_by : {T : Type 0} (P : ReopenFault → Type 0) (fault : ReopenFault) (r : Result T ReopenFault) → IsErrAnd r (λ other. other ≡ fault) → P fault → IfErr r P
exit_by P fault (Ok value) is holds = absurd is
exit_by P fault (Err other) is holds = subst P (sym is) holds

-- beside the disk, of which it tells
pub refused_on : {D : Type 0} (d : Ghosts D) (disk mid : D) (P : Image → ReopenFault → Type 0) (result : Result (Opened D) (ReopenFault × D))
    → (IsTrue d.tells → Rests d disk mid) → IfErr result (λ refused. IsTrue d.tells → P (d.reading mid) refused.0)
    → IfErr result (λ refused. IsTrue d.tells → P (d.reading disk) refused.0)
refused_on d disk mid P (Ok opened) rests is = tt
refused_on d disk mid P (Err refused) rests is = λ tells. subst (λ (i : Image). P i refused.0) (rests tells).read (is tells)
