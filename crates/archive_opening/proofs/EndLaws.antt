-- What was gathered by checkpoints is what is opened.
use Rattle.std.proofs.Common.{◌≡◌, ◌≢◌, ℕ, zero, suc, ◌^◌, ◌<◌, IsTrue, IsFalse, List, [], ◌∷◌, length, refl, sym, ap, subst, ◌∙◌, inl, inr, arith}
use Rattle.std.specs.Prelude.{IfErr, IfNone, IfOk, IfSome, is_some, Option, Some, None, Result, Ok, Err, slice_get}
use Rattle.std.proofs.lemmas.Bool.{false≢true}
use Rattle.std.proofs.lemmas.Option.{slice_get_within}
use Rattle.capture.specs.Captures.{captures}
use Rattle.archive_volumes.specs.declared.spot.Spot.{Spot}
use Rattle.archive_gathering.proofs.BeginLaws.{no_texts}
use Rattle.archive_gathering.proofs.StartLaws.{no_captures, none_left}
use Rattle.capture.specs.declared.book.Book.{Book}
use Rattle.capture.specs.declared.book.Volume.{Volume}
use Rattle.index_entry.specs.OfBook.{AreEntries}
use Rattle.disk_model.specs.Crash.{Leaves}
use Rattle.disk_model.specs.Image.{Image}
use Rattle.disk_model.specs.declared.disk.Disk.{Ghosts}
use Rattle.volume_scan.specs.Scannings.{IsInPlace, disk_of, files_in, position_of, texts as texts_read}
use Rattle.volume_scan.specs.declared.scanning.Scanning.{Scanning}
use Rattle.warc_journal.specs.Extents.{texts_in, warc_files}
use Rattle.warc_journal.specs.Journals.{IsInStep, Rests, disk_of as disk_of_journal, extent_of, last_len, texts as texts_of, volumes}
use Rattle.warc_journal.specs.Texts.{Hold}
use Rattle.warc_journal.specs.declared.extent.Extent.{Extent}
use Rattle.warc_journal.specs.declared.journal.Journal.{Journal}
use Rattle.warc_text.specs.Books.{AreVolumeTexts}
use Rattle.warc_text.specs.Sound.{IsSound}
use Rattle.warc_text.specs.StandsFor.{FilesStandForNoVolume, FilesStandForOneBook, StandsFor}
use Rattle.archive_shelf.specs.Openings.{SameBook}
use Rattle.archive_shelf.specs.declared.fault.ReopenFault.{ReopenFault}
use Rattle.archive_shelf.specs.declared.fault.ReopenFault.TheVariants as faults
use Rattle.archive_volumes.specs.Held.{book_of}
use Rattle.archive_volumes.specs.Spots.{AreHeldWhole, ArePlaced, AreSpotsOf, AreWithin}
use Rattle.archive_volumes.specs.Volumes.{IsMeasured}
use Rattle.archive_opening.proofs.FollowingLaws.{rests_on}
use Rattle.archive_opening.proofs.OpenedLaws.{rests_itself}
use Rattle.archive_opening.proofs.TellLaws.{length_texts}
use Rattle.archive_gathering.specs.Gathering.{IsGathered, IsIn, IsSteady}
use Rattle.archive_opening.specs.Opening.{IsOtherIn, IsOutside}
use Rattle.archive_gathering.specs.Refusing.{IsOther}
use Rattle.archive_opening.specs.Telling.{AreCheckpointsSynced, AreReadOrTold, HasAllOf, IsAskedFor, IsOpenedBy, IsTold}
use Rattle.archive_gathering.specs.Shapes.{IsMadeUp}
use Rattle.archive_gathering.specs.declared.gathered.Gathered.{Gathered}
use Rattle.archive_opening.specs.declared.opening.Opened.{Opened}

module _ {D : Type 0} (d : Ghosts D) (known : Option Book) (s : Scanning D) (g : Gathered) (all : HasAllOf d known s g) (in_place : IsInPlace d s)
    (journal : Journal D) (disk_is : disk_of_journal journal ≡ disk_of s) (extent_is : extent_of journal ≡ (position_of s).extent) where
  abbrev book : Book
  book = book_of g.held

  texts_same : IsTrue d.tells → texts_of d journal ≡ texts_read d s
  texts_same tells = λ i. texts_in (extent_is i) (warc_files (d.reading (disk_is i)))

  measured : last_len journal < 2 ^ 62 → IsMeasured journal book
  measured short = record {
    count = ap (λ (e : Extent). e.volumes) extent_is ∙ all.goes.volumes;
    filled = all.goes.filled;
    ends = short;
    begins = λ k volume last at empty. omega (arith, ap (λ (e : Extent). e.end) extent_is, all.goes.begins k volume last at empty);
  }

  pub some_volumes_told : volumes journal ≢ 0 → 0 < length book.volumes
  some_volumes_told some = by (length book.volumes) refl
    where
      by : (n : ℕ) → length book.volumes ≡ n → 0 < length book.volumes
      by zero e = absurd (some (ap (λ (x : Extent). x.volumes) extent_is ∙ all.goes.volumes ∙ e))
      by (suc n) e = omega (arith, e)

  stands_for : (b : Book) → IsTold d b s g → StandsFor (files_in d s) book
  stands_for b told = record { texts = texts_read d s; are = told.gathered.read.are; held = all.held told.tells }

  same_book : FilesStandForOneBook → FilesStandForNoVolume → (b : Book) → IsTold d b s g → 0 < length book.volumes → SameBook book b
  same_book one none b told some =
      by (length b.volumes) refl
    where
      by : (n : ℕ) → length b.volumes ≡ n → SameBook book b
      by zero e = absurd (omega (arith, some, none (files_in d s) b book told.settled.stands.for (stands_for b told) e))
      by (suc n) e = inl (sym (one (files_in d s) b book told.settled.stands.sound told.gathered.read.sound told.settled.ids told.settled.stands.for (stands_for b told)
          (omega (arith, e))))

  module _ (steady : IsSteady g) (short : last_len journal < 2 ^ 62) (in_step : IsTrue d.tells → IsInStep d journal)
      (left : IsTrue d.tells → Leaves (d.images (disk_of s)) (λ image. Hold (texts_of d journal) (warc_files image))) where
    spots_by : (o : Option Book) → IfNone o (IsMadeUp g) → IfSome o (λ b. IsTold d b s g) → AreSpotsOf book g.spots.items
    spots_by None made told = made.spots
    spots_by (Some b) made told = told.gathered.spots_are

    tells_by : (o : Option Book) → IfSome o (λ b. IsTold d b s g) → IsTrue (is_some o) → IsTrue d.tells
    tells_by None told is = absurd (false≢true is)
    tells_by (Some b) told is = told.tells

    sound_by : (o : Option Book) → IfSome o (λ b. IsTold d b s g) → IsTrue (is_some o) → IsSound book
    sound_by None told is = absurd (false≢true is)
    sound_by (Some b) told is = told.gathered.read.sound

    are_by : (o : Option Book) → IfSome o (λ b. IsTold d b s g) → IsTrue (is_some o) → AreVolumeTexts book (texts_of d journal)
    are_by None told is = absurd (false≢true is)
    are_by (Some b) told is = subst (AreVolumeTexts book) (sym (texts_same told.tells)) told.gathered.read.are

    placed_by : (o : Option Book) → IfSome o (λ b. IsTold d b s g) → IsTrue (is_some o) → ArePlaced (texts_of d journal) book g.spots.items
    placed_by None told is = absurd (false≢true is)
    placed_by (Some b) told is = subst (λ (t : List (List ℕ)). ArePlaced t book g.spots.items) (sym (texts_same told.tells)) told.gathered.placed

    made_by : (o : Option Book) → IfNone o (IsMadeUp g) → IsFalse (is_some o) → AreHeldWhole book g.spots.items
    made_by None made is = made.made
    made_by (Some b) made is = absurd (false≢true (sym is))

    entries_by : (o : Option Book) → IfSome o (λ b. IsTold d b s g) → IfSome o (λ _. AreEntries book g.entries.items)
    entries_by None told = tt
    entries_by (Some b) told = told.gathered.entries_are

    same_by : FilesStandForOneBook → FilesStandForNoVolume → 0 < length book.volumes → (o : Option Book) → IfSome o (λ b. IsTold d b s g) → IfSome o (λ b. SameBook book b)
    same_by one none some None told = tt
    same_by one none some (Some b) told = same_book one none b told some

    pub opened_told : FilesStandForOneBook → FilesStandForNoVolume → 0 < length book.volumes → (asked : Option (List ℕ)) → IsIn asked book
        → IsOpenedBy d (disk_of s) asked known (record { journal = journal; gathered = g })
    opened_told one none some asked in_it = record {
      usable = record {
        measured = measured short;
        steady = steady;
        spots = spots_by known all.goes.made all.goes.told;
        in_step = in_step;
        left = λ tells. subst (λ (x : D). Leaves (d.images x) (λ image. Hold (texts_of d journal) (warc_files image))) (sym disk_is) (left tells);
        within = λ tells. subst (λ (t : List (List ℕ)). AreWithin t g.spots.items) (sym (texts_same tells)) (all.goes.within tells);
        tells = tells_by known all.goes.told;
        sound = sound_by known all.goes.told;
        texts_are = are_by known all.goes.told;
        placed = placed_by known all.goes.told;
        made = made_by known all.goes.made;
      };
      known_is = same_by one none some known all.goes.told;
      entries = entries_by known all.goes.told;
      numbered = all.goes.numbered;
      requested = all.goes.requested;
      lined = all.goes.lined;
      in_namespace = in_it;
      rests = λ tells. rests_itself d (disk_of s) (disk_of_journal journal) disk_is;
      faults = ap d.faults disk_is;
    }

  -- ---- refusals

  -- where a book is known, its namespace isn't another one than the one that is asked for
  pub other_isnt_known : FilesStandForOneBook → FilesStandForNoVolume → volumes journal ≢ 0 → (asked : Option (List ℕ)) → IfSome known (IsAskedFor asked)
      → (fault : ReopenFault) → IsOther book asked fault → IfSome known (λ _. IsOutside fault)
  other_isnt_known one none some asked for fault other = by known all.goes.told for
    where
      no_other : (a : Option (List ℕ)) → ((n : List ℕ) → a ≡ Some n → book.namespace ≡ n) → (f : ReopenFault) → IsOther book a f → ⊥
      no_other a same (faults.Damaged kind file place) is = is
      no_other None same (faults.OtherNamespace o) is = is
      no_other (Some n) same (faults.OtherNamespace o) is = is.1 (sym is.0 ∙ same n refl)
      no_other a same faults.DiskFault is = is
      no_other a same faults.Memory is = is

      in_it : (b : Book) → IsTold d b s g → IsAskedFor asked b → (n : List ℕ) → asked ≡ Some n → book.namespace ≡ n
      in_it b told asks n is = named (same_book one none b told (some_volumes_told some)) ∙ asks n is
        where
          named : SameBook book b → book.namespace ≡ b.namespace
          named (inl same) = ap (λ (x : Book). x.namespace) same
          named (inr nothing) = absurd (omega (arith, some_volumes_told some, ap length nothing.0))

      by : (o : Option Book) → IfSome o (λ b. IsTold d b s g) → IfSome o (IsAskedFor asked) → IfSome o (λ _. IsOutside fault)
      by None told asks = tt
      by (Some b) told asks = absurd (no_other asked (in_it b told asks) fault other)

  -- ---- a disk without volumes

  no_volumes : (vs : List Volume) → length vs ≡ 0 → vs ≡ []
  no_volumes [] e = refl
  no_volumes (v ∷ vs) e = absurd (omega (arith, e))

  module _ (fresh : Gathered) (fresh_steady : IsSteady fresh) (gathered : (k : Option Book) → IsGathered k fresh []) (nothing : volumes journal ≡ 0)
      (in_step : IsTrue d.tells → IsInStep d journal)
      (left : IsTrue d.tells → Leaves (d.images (disk_of s)) (λ image. Hold (texts_of d journal) (warc_files image))) where
    abbrev empty : Book
    empty = book_of fresh.held

    abbrev own : IsGathered None fresh []
    own = gathered None

    none_there : length empty.volumes ≡ 0
    none_there = sym own.read.are.count

    no_extent : (position_of s).extent.volumes ≡ 0
    no_extent = sym (ap (λ (e : Extent). e.volumes) extent_is) ∙ nothing

    no_texts_read : IsTrue d.tells → texts_read d s ≡ []
    no_texts_read tells = no_texts (texts_read d s) (sym (length_texts (position_of s).extent (files_in d s) (in_place.stands tells).lies.enough ∙ no_extent))

    texts_none : IsTrue d.tells → texts_of d journal ≡ []
    texts_none tells = texts_same tells ∙ no_texts_read tells

    no_spot : (number : ℕ) (spot : Spot) → slice_get fresh.spots.items number ≡ Some spot → ⊥
    no_spot number spot at =
        omega (arith, slice_get_within fresh.spots.items number spot at, own.spots_are.count, ap length (no_captures empty none_there))

    told_tells : (o : Option Book) → IfSome o (λ b. IsTold d b s g) → IsTrue (is_some o) → IsTrue d.tells
    told_tells None told is = absurd (false≢true is)
    told_tells (Some b) told is = told.tells

    known_by : FilesStandForNoVolume → (o : Option Book) → IfSome o (λ b. IsTold d b s g) → IfSome o (λ b. SameBook empty b)
    known_by none None told = tt
    known_by none (Some b) told =
        let stands : StandsFor (files_in d s) empty = record {
          texts = [];
          are = own.read.are;
          held = subst (λ (t : List (List ℕ)). Hold t (files_in d s)) (no_texts_read told.tells) (all.held told.tells);
        } in
        inr (no_volumes empty.volumes none_there, no_volumes b.volumes (none (files_in d s) empty b stands told.settled.stands.for none_there))

    entries_too : (o : Option Book) → IfSome o (λ _. AreEntries empty fresh.entries.items)
    entries_too None = tt
    entries_too (Some b) = own.entries_are

    pub opened_empty : FilesStandForNoVolume → (asked : Option (List ℕ)) → IsIn asked empty
        → IsOpenedBy d (disk_of s) asked known (record { journal = journal; gathered = fresh })
    opened_empty none asked in_it = record {
      usable = record {
        measured = record {
          count = nothing ∙ sym none_there;
          filled = λ k volume at less. absurd (omega (arith, less, none_there));
          ends = omega (arith, ap (λ (e : Extent). e.end) extent_is, all.goes.none no_extent);
          begins = λ k volume last at is_empty. absurd (omega (arith, last, none_there));
        };
        steady = fresh_steady;
        spots = own.spots_are;
        in_step = in_step;
        left = λ tells. subst (λ (x : D). Leaves (d.images x) (λ image. Hold (texts_of d journal) (warc_files image))) (sym disk_is) (left tells);
        within = λ tells. record { each = λ number spot at. absurd (no_spot number spot at) };
        tells = told_tells known all.goes.told;
        sound = λ is. own.read.sound;
        texts_are = λ is. subst (AreVolumeTexts empty) (sym (texts_none (told_tells known all.goes.told is))) own.read.are;
        placed = λ is. subst (λ (t : List (List ℕ)). ArePlaced t empty fresh.spots.items) (sym (texts_none (told_tells known all.goes.told is))) own.placed;
        made = λ is. record { each = λ number spot at told. absurd (no_spot number spot at) };
      };
      known_is = known_by none known all.goes.told;
      entries = entries_too known;
      numbered = record {
        in_order = own.entries_are.in_order;
        below = λ e has.
            let of = own.entries_are.of_book.each e has in
            slice_get_within (captures empty) e.number of.group.stored of.group.placed;
        named = λ e has spot at. absurd (no_spot e.number spot at);
      };
      requested = record { each = λ number spot at. absurd (no_spot number spot at) };
      lined = λ tells. subst (AreReadOrTold (d.reading (disk_of s)))
          (sym (none_left fresh.spots.items (omega (arith, own.spots_are.count, ap length (no_captures empty none_there))))) (λ k x less. absurd (omega (arith, less)));
      in_namespace = in_it;
      rests = λ tells. rests_itself d (disk_of s) (disk_of_journal journal) disk_is;
      faults = ap d.faults disk_is;
    }

-- ---- from the disk that was given

pub opened_by_on : {D E : Type 0} (d : Ghosts D) (disk mid : D) (asked : Option (List ℕ)) (known : Option Book) (result : Result (Opened D) E)
    → (IsTrue d.tells → Rests d disk mid) → d.faults mid ≡ d.faults disk → IfOk result (IsOpenedBy d mid asked known) → IfOk result (IsOpenedBy d disk asked known)
opened_by_on d disk mid asked known (Ok opened) rests steady_count is = record {
  usable = is.usable;
  known_is = is.known_is;
  entries = is.entries;
  numbered = is.numbered;
  requested = is.requested;
  lined = λ tells. subst (λ (i : Image). AreReadOrTold i opened.gathered.spots.items) (rests tells).read (is.lined tells);
  in_namespace = is.in_namespace;
  rests = λ tells. rests_on d disk mid (disk_of_journal opened.journal) (rests tells) (is.rests tells);
  faults = is.faults ∙ steady_count;
}
opened_by_on d disk mid asked known (Err refused) rests steady_count is = tt

-- the checkpoints are synced still
pub synced_by : {D E : Type 0} (d : Ghosts D) (disk first mid : D) (asked : Option (List ℕ)) (known : Option Book) (result : Result (Opened D) E)
    → (IsTrue d.tells → AreCheckpointsSynced (d.reading disk) (d.images first)) → (IsTrue d.tells → Rests d first mid)
    → IfOk result (IsOpenedBy d mid asked known)
    → IfOk result (λ opened. IsTrue d.tells → AreCheckpointsSynced (d.reading disk) (d.images (disk_of_journal opened.journal)))
synced_by d disk first mid asked known (Ok opened) synced rests is = λ tells image left.
    synced tells image ((rests tells).crash image ((is.rests tells).crash image left))
synced_by d disk first mid asked known (Err refused) synced rests is = tt

-- a refusal, as it is told of the disk that was given
pub given_back_by : {D : Type 0} (d : Ghosts D) (disk mid : D) (result : Result (Opened D) (ReopenFault × D)) → (IsTrue d.tells → Rests d disk mid)
    → IfErr result (λ refused. refused.1 ≡ mid) → IfErr result (λ refused. IsTrue d.tells → Rests d disk refused.1)
given_back_by d disk mid (Ok opened) rests same = tt
given_back_by d disk mid (Err refused) rests same = λ tells. subst (Rests d disk) (sym same) (rests tells)

pub other_in : {D : Type 0} (d : Ghosts D) (files : List (List ℕ)) (asked : Option (List ℕ)) (result : Result (Opened D) (ReopenFault × D)) → IsTrue d.tells
    → IfErr result (λ refused. IsTrue d.tells → IsOtherIn files asked refused.0) → IfErr result (λ refused. IsOtherIn files asked refused.0)
other_in d files asked (Ok opened) tells other = tt
other_in d files asked (Err refused) tells other = other tells
