-- What is opened by checkpoints, where its book is named or nothing is known.
use Rattle.std.proofs.Common.{◌≡◌, ℕ, Bool, IsTrue, List, length, Option, Some, None, Result, Ok, Err, refl, sym, ap, subst, ◌∙◌, inl, inr, ⊎_elim, arith}
use Rattle.std.specs.Prelude.{IfErr, IfOk, IfSome, is_some, slice_get, true, false}
use Rattle.std.proofs.lemmas.Bool.{false≢true}
use Rattle.capture.specs.declared.book.Book.{Book}
use Rattle.capture.specs.declared.limits.Limits.{Limits}
use Rattle.index_entry.specs.OfBook.{AreEntries}
use Rattle.disk_model.specs.declared.disk.Disk.{Ghosts}
use Rattle.warc_journal.specs.Extents.{warc_files}
use Rattle.warc_journal.specs.Journals.{Rests, disk_of}
use Rattle.warc_journal.specs.declared.journal.Journal.{Journal}
use Rattle.warc_text.specs.StandsFor.{StandsFor}
use Rattle.archive_shelf.specs.Comparing.{HasRequest}
use Rattle.archive_shelf.specs.Openings.{SameBook}
use Rattle.archive_shelf.specs.declared.depth.Depth.{Depth}
use Rattle.archive_shelf.specs.declared.depth.Depth.TheVariants as depths
use Rattle.archive_shelf.specs.declared.fault.ReopenFault.{ReopenFault}
use Rattle.archive_volumes.proofs.ChangeLaws.{DiskLaws, quiet_by}
use Rattle.archive_opening.specs.Opening.{IsDamageIn, IsOpened, IsOtherIn, IsOutside, IsUsable}
use Rattle.archive_gathering.specs.Refusing.{CountsFault, IsCause}
use Rattle.archive_volumes.specs.Held.{book_of}
use Rattle.archive_volumes.specs.Spots.{is_told_form}
use Rattle.capture.specs.declared.book.Volume.{Volume}
use Rattle.checkpoint.specs.Checkpoints.{IsCheckpoint}
use Rattle.std.proofs.lemmas.List.Elements.{All-contains}
use Rattle.archive_volumes.specs.declared.spot.Spot.{Spot}
use Rattle.archive_core.specs.Holdings.{Holdings}
use Rattle.archive_opening.specs.Counting.{HasCountsOf}
use Rattle.archive_opening.specs.Refusing.{IsBorneOut}
use Rattle.archive_settling.specs.Finished.{HasCheckpoint}
use Rattle.archive_reopening.specs.Reopening.{IsNotOpened, IsReopened}
use Rattle.archive_reopening.specs.Making.{AreFinishedAsTold, IsMadeOf}
use Rattle.archive_reopening.specs.Known.{HasCheckpointsOfKnown, IsNotOpenedAt, IsNotOpenedKnown, IsReopenedAt, IsReopenedKnown, MayBeKnown, by_checkpoints, opening_of, told_at}
use Rattle.archive_opening.specs.declared.opening.Opened.{Opened}
use Rattle.archive_opening.specs.Telling.{AreCheckpointsSynced, AreReadOrTold, IsKnownRefusal, IsOfLine, IsOpenedBy, IsReadWhole, MayBeSettled, known_to}
use Rattle.archive_settling.proofs.FinishedLaws.{has_finished, same_checkpoint, same_checkpoints_of}
use Rattle.archive_reopening.proofs.ReopenLaws.{IsBasis, as_read, known_as, not_opened}

-- ---- by checkpoints

-- what is known of a disk is told just where a book is named and the disk tells
told_is : (tells : Bool) (known : Option Book) → is_some (known_to tells known) ≡ told_at depths.Checkpoints tells known
told_is true None = refl
told_is true (Some book) = refl
told_is false None = refl
told_is false (Some book) = refl

-- what holds of a book that is known to the disk holds of the one that is named, where that is told
of_known : (tells : Bool) (known : Option Book) (P : Book → Type 0) → IfSome (known_to tells known) P → IsTrue (told_at depths.Checkpoints tells known)
    → IfSome known P
of_known tells None P has so = tt
of_known true (Some book) P has so = has
of_known false (Some book) P has so = absurd (false≢true so)

-- and whatever holds of each
whatever : (tells : Bool) (known : Option Book) (P : Type 0) → IfSome (known_to tells known) (λ book. P) → IsTrue (told_at depths.Checkpoints tells known) → P
whatever tells None P has so = absurd (false≢true so)
whatever true (Some book) P has so = has
whatever false (Some book) P has so = absurd (false≢true so)

-- the files that stand for a book stand for one that is the same
stands_too : (files : List (List ℕ)) (a b : Book) → SameBook a b → StandsFor files b → StandsFor files a
stands_too files a b (inl same) for = subst (StandsFor files) (sym same) for
stands_too files a b (inr none) for = record {
  texts = for.texts;
  are = record {
    count = for.are.count ∙ ap length none.1 ∙ sym (ap length none.0);
    each = λ k less. absurd (omega (arith, less, for.are.count, ap length none.1));
  };
  held = for.held;
}

-- a book for which a read is settled may be known
pub may_be_known : {D : Type 0} (d : Ghosts D) (disk : D) (asked : Option (List ℕ)) (known : Option Book) → MayBeSettled d disk asked known
    → MayBeKnown d disk asked known
may_be_known d disk asked None may = tt
may_be_known d disk asked (Some book) may = λ so.
    let it = may so in
    record { stands = it.0.stands; ids = it.0.ids; asked_for = it.1 }

-- a known book may be one for which it is settled
pub may_be_settled : {D : Type 0} (d : Ghosts D) (disk : D) (asked : Option (List ℕ)) (known : Option Book) → MayBeKnown d disk asked known
    → HasCheckpointsOfKnown d disk known → MayBeSettled d disk asked known
may_be_settled d disk asked None may has = tt
may_be_settled d disk asked (Some book) may has = λ so.
    let it = may so in
    (record { stands = it.stands; ids = it.ids; checkpoints = has so }, it.asked_for)

module _ {D : Type 0} (d : Ghosts D) (laws : DiskLaws d) (disk : D) (asked : Option (List ℕ)) (limits : Limits) (known : Option Book)
    (may : MayBeSettled d disk asked known) where
  module _ (opened : Opened D) (is : IsOpenedBy d disk asked (known_to d.tells known) opened) where
    pub usable_told : IsUsable d (told_at depths.Checkpoints d.tells known) opened
    usable_told = subst (λ (t : Bool). IsUsable d t opened) (told_is d.tells known) is.usable

    pub entries_told : IsTrue (told_at depths.Checkpoints d.tells known) → AreEntries (book_of opened.gathered.held) opened.gathered.entries.items
    entries_told = whatever d.tells known (AreEntries (book_of opened.gathered.held) opened.gathered.entries.items) is.entries

    same_told : IsTrue (told_at depths.Checkpoints d.tells known) → IfSome known (λ book. SameBook (book_of opened.gathered.held) book)
    same_told = of_known d.tells known (λ book. SameBook (book_of opened.gathered.held) book) is.known_is

    -- a line tells of a capture only in the finished checkpoint of its volume, which each image has
    pub finished_told : (IsTrue d.tells → AreCheckpointsSynced (d.reading disk) (d.images (disk_of opened.journal)))
        → IsTrue (told_at depths.Checkpoints d.tells known) → AreFinishedAsTold d opened
    finished_told synced so spot one told image left = by known may (same_told so) so
      where
        tells : IsTrue d.tells
        tells = usable_told.tells so

        line : IsOfLine (d.reading disk) spot
        line = All-contains (λ (s : Spot). is_told_form s.form ≡ true → IsOfLine (d.reading disk) s) opened.gathered.spots.items spot (is.lined tells) one told

        by : (k : Option Book) → MayBeSettled d disk asked k → IfSome k (λ book. SameBook (book_of opened.gathered.held) book)
            → IsTrue (told_at depths.Checkpoints d.tells k) → HasCheckpoint (book_of opened.gathered.held) spot.volume image
        by None settled same told_so = absurd (false≢true told_so)
        by (Some book) settled same told_so =
            let of = same_checkpoints_of image (d.reading disk) book (synced tells image left) (settled tells).0.checkpoints in
            let finished = subst (λ (bytes : List ℕ). IsCheckpoint spot.volume line.lines bytes)
            (sym (same_checkpoint image (d.reading disk) (synced tells image left) spot.volume)) line.finished in ⊎_elim
            (λ is_it. subst (λ (b : Book). HasCheckpoint b spot.volume image) (sym is_it) (has_finished book spot.volume line.lines image of finished))
            (λ none. absurd (omega (arith, (of.each spot.volume line.lines finished).0, ap (λ (v : List Volume). length v) none.1)))
            same

    stands_told : (k : Option Book) → MayBeSettled d disk asked k → IfSome k (λ book. SameBook (book_of opened.gathered.held) book)
        → IsTrue (told_at depths.Checkpoints d.tells k) → StandsFor (warc_files (d.reading disk)) (book_of opened.gathered.held)
    stands_told None settled same so = absurd (false≢true so)
    stands_told (Some book) settled same so =
        stands_too (warc_files (d.reading disk)) (book_of opened.gathered.held) book same (settled so).0.stands.for

    pub basis_told : IsBasis d disk asked (told_at depths.Checkpoints d.tells known) opened
    basis_told = record {
      usable = usable_told;
      stands = λ so. stands_told known may (same_told so) so;
      entries = entries_told;
      in_namespace = is.in_namespace;
      rests = is.rests;
      faults = is.faults;
    }

    pub reopened_told : (IsTrue d.tells → IsReadWhole (d.reading disk) → IsOpened d disk asked opened)
        → (IsTrue d.tells → AreCheckpointsSynced (d.reading disk) (d.images (disk_of opened.journal)))
        → (IsTrue d.tells → HasCountsOf (d.reading disk) (book_of opened.gathered.held)) → (result : Result (Holdings D) (ReopenFault × D))
        → IfOk result (IsMadeOf opened limits (told_at depths.Checkpoints d.tells known))
        → IfOk result (IsReopenedKnown d (by_checkpoints disk asked known) limits)
    reopened_told read synced counts (Ok held) made =
        known_as d laws disk asked limits (told_at depths.Checkpoints d.tells known) opened basis_told held made depths.Checkpoints known refl
        (λ so. subst (λ (b : Book). IfSome known (λ book. SameBook b book)) (sym made.book_is) (same_told so))
        (λ at. record {
          requested = λ number spot at read_it. subst (λ (b : Book). HasRequest b number) (sym made.book_is)
              (is.requested.each number spot (subst (λ (spots : List Spot). slice_get spots number ≡ Some spot) made.spots_are at) read_it);
          read = λ so. subst (AreReadOrTold (d.reading disk)) (sym made.spots_are) (is.lined so);
          counts = λ so. subst (HasCountsOf (d.reading disk)) (sym made.book_is) (counts so);
          synced = λ so. subst (λ (j : Journal D). AreCheckpointsSynced (d.reading disk) (d.images (disk_of j))) (sym made.journal_is) (synced so);
        })
        (λ so whole. as_read d laws disk asked limits (told_at depths.Checkpoints d.tells known) opened (read so whole) held made)
    reopened_told read synced counts (Err refused) made = tt

  pub refused_told : (refused : ReopenFault × D) → IsKnownRefusal (known_to d.tells known) refused.0 → IsCause asked refused.0
      → (IsTrue d.tells → IsReadWhole (d.reading disk) → IsDamageIn (warc_files (d.reading disk)) refused.0)
      → (IsTrue d.tells → IsReadWhole (d.reading disk) → IsOtherIn (warc_files (d.reading disk)) asked refused.0)
      → (IsTrue d.tells → IsBorneOut (d.reading disk) refused.0)
      → (IsTrue d.tells → Rests d disk refused.1) → CountsFault (d.faults disk) (d.faults refused.1) refused.0
      → IsNotOpenedKnown d disk asked known refused
  refused_told refused outside cause damage other borne_out rests count = record {
    cause = cause;
    complete = by known outside;
    unsettled = λ so read. not_opened d laws disk asked limits refused cause (λ _. damage so read) (λ _. other so read) rests count;
    borne_out = λ so. inr (borne_out so);
    rests = rests;
    quiet = quiet_by d laws disk refused.1 rests;
    faults = count;
  }
    where
      by : (k : Option Book) → IfSome (known_to d.tells k) (λ _. IsOutside refused.0) → IfSome k (λ book. IsTrue d.tells → IsOutside refused.0)
      by None has = tt
      by (Some book) has = λ so. of_known d.tells (Some book) (λ _. IsOutside refused.0) has so

-- ---- by a depth, where nothing is known

pub opened_at : {D : Type 0} (d : Ghosts D) (disk : D) (asked : Option (List ℕ)) (limits : Limits) (depth : Depth)
    (result : Result (Holdings D) (ReopenFault × D)) → IfOk result (IsReopenedKnown d (opening_of disk depth asked None) limits)
    → (depth ≡ depths.Whole → IfOk result (IsReopened d disk asked limits)) → IfOk result (IsReopenedAt depth d disk asked limits)
opened_at d disk asked limits depths.Whole result known whole = whole refl
opened_at d disk asked limits depths.Checkpoints result known whole = known

pub refused_at : {D : Type 0} (d : Ghosts D) (disk : D) (asked : Option (List ℕ)) (depth : Depth) (result : Result (Holdings D) (ReopenFault × D))
    → IfErr result (IsNotOpenedKnown d disk asked None) → (depth ≡ depths.Whole → IfErr result (IsNotOpened d disk asked))
    → IfErr result (IsNotOpenedAt depth d disk asked)
refused_at d disk asked depths.Whole result known whole = whole refl
refused_at d disk asked depths.Checkpoints result known whole = known
