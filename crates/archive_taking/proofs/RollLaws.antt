-- An archive that gained a volume, and one whose captures stay.
use Rattle.std.proofs.Common.{◌≡◌, ℕ, Bool, true, false, not, nat_eq, if◌then◌else◌, IsTrue, List, [], ◌∷◌, ◌++◌, length, Result, Ok, Err, refl, sym, ap, subst, ◌∙◌, inl, append-nil, arith}
use Rattle.std.specs.Prelude.{IsErrAnd, count_by, ⊤}
use Rattle.capture.specs.Captures.{captures}
use Rattle.capture.specs.Faults.{CountsFaults}
use Rattle.capture.specs.Growth.{Grows}
use Rattle.capture.specs.declared.book.Book.{Book}
use Rattle.capture.specs.declared.book.Volume.{Volume}
use Rattle.capture.specs.declared.captured.Stored.{Stored}
use Rattle.disk_model.proofs.MomentLaws.{none_added}
use Rattle.disk_model.specs.declared.disk.Disk.{Ghosts}
use Rattle.warc_journal.specs.Extents.{cdxj_files}
use Rattle.warc_journal.specs.Journals.{Changes, IsLeft, disk_of, last_len, texts}
use Rattle.warc_journal.specs.Texts.{HoldEither}
use Rattle.warc_journal.specs.declared.journal.Journal.{Journal}
use Rattle.warc_text.specs.Records.{info_text}
use Rattle.archive_shelf.specs.Openings.{KeepsCheckpoints}
use Rattle.archive_shelf.specs.Entering.{EntriesStayAll}
use Rattle.archive_shelf.proofs.StoringLaws.{captures_stay, volume_grows}
use Rattle.archive_shelf.specs.Storing.{is_revisit, new_volume, rolled_in, with_volume}
use Rattle.archive_shelf.specs.declared.fault.RollFault.{RollFault}
use Rattle.archive_shelf.specs.declared.fault.RollFault.TheVariants as rolls
use Rattle.archive_volumes.specs.Held.{is_filled}
use Rattle.archive_settling.proofs.FinishedLaws.{first_stay, sealed_later}
use Rattle.archive_core.specs.Holdings.{Holdings, IsArchive}
use Rattle.archive_taking.specs.Rolling.{MayBeRefused, Rolls, WritesNoVolume}
use Rattle.archive_core.specs.Texts.{texts_begun}
use Rattle.archive_core.proofs.TextLaws.{texts_go_on, texts_stay}
use Rattle.archive_volumes.specs.Volumes.{HoldsBook, IsMeasured, Makes, crash_of, muted}
use Rattle.archive_volumes.proofs.SpotLaws.{GoOn, made_stay, placed_stay, spots_stay, within_stay}
use Rattle.archive_volumes.proofs.WrittenLaws.{change_done, change_refused}

-- ---- the volumes

pub rolled_none : (volumes : List Volume) (now : ℕ) → is_filled volumes ≡ false → rolled_in volumes now ≡ volumes
rolled_none [] now empty = refl
rolled_none (last ∷ []) now empty = by (nat_eq (length last.captures) 0) empty
  where
    by : (b : Bool) → not b ≡ false → (if b then last ∷ [] else last ∷ new_volume now ∷ []) ≡ last ∷ []
    by true e = refl
    by false e = cc
rolled_none (first ∷ next ∷ others) now empty = ap (λ (l : List Volume). first ∷ l) (rolled_none (next ∷ others) now empty)

pub rolled_one : (volumes : List Volume) (now : ℕ) → is_filled volumes ≡ true → rolled_in volumes now ≡ volumes ++ new_volume now ∷ []
rolled_one [] now filled = cc
rolled_one (last ∷ []) now filled = by (nat_eq (length last.captures) 0) filled
  where
    by : (b : Bool) → not b ≡ true → (if b then last ∷ [] else last ∷ new_volume now ∷ []) ≡ last ∷ new_volume now ∷ []
    by true e = cc
    by false e = refl
rolled_one (first ∷ next ∷ others) now filled = ap (λ (l : List Volume). first ∷ l) (rolled_one (next ∷ others) now filled)

-- ---- the archive

-- an archive stays one where its volumes go on and no capture is gained
pub stays_archive : {D : Type 0} (d : Ghosts D) → EntriesStayAll → (was : Holdings D) (journal : Journal D) (book : Book)
    → IsArchive d was → HoldsBook d was.told journal book → IsMeasured journal book → captures book ≡ captures was.book → Grows was.book book
    → KeepsCheckpoints (crash_of (muted was.told d) (disk_of was.journal)) (crash_of (muted was.told d) (disk_of journal))
    → (IsTrue d.tells → GoOn (texts d was.journal) (texts d journal))
    → IsArchive d (record was { journal = journal; book = book })
stays_archive d entries_stay was journal book is holds measured same grows kept on = record {
  holds = holds;
  measured = measured;
  counted = record {
    few = omega (arith, is.counted.few, ap length same);
    revisits = is.counted.revisits ∙ sym (ap (λ (all : List Stored). count_by (λ (stored : Stored). is_revisit stored.kept) all) same);
    found = omega (arith, is.counted.found, ap length same);
    below = λ entry has. omega (arith, is.counted.below entry has, ap length same);
    limits = is.counted.limits;
    sealed = sealed_later was.book book was.settled grows is.counted.sealed;
  };
  spots = spots_stay was.book book same grows was.spots is.spots;
  table = is.table;
  indexed = is.indexed;
  named = is.named;
  within = λ tells. within_stay (texts d was.journal) (texts d journal) (on tells) was.spots (is.within tells);
  placed = λ told. placed_stay (texts d was.journal) (texts d journal) (on (is.holds.tells told)) was.book book []
      (same ∙ sym (append-nil (captures was.book))) grows was.spots (is.placed told);
  made = λ untold. made_stay was.book book [] (same ∙ sym (append-nil (captures was.book))) grows was.spots (is.made untold);
  known = λ told. entries_stay was.book book was.index grows same (is.known told);
  settled = first_stay d was.told (disk_of was.journal) (disk_of journal) was.book book was.settled grows is.counted.sealed kept is.settled;
}

-- ---- a roll

unwritten_full : {X : Type 0} (filled : Bool) → filled ≡ true → WritesNoVolume {T = ⊤} filled (Ok tt) → X
unwritten_full true e none = absurd none
unwritten_full false e none = cc

unwritten_fault : {X : Type 0} (filled : Bool) → filled ≡ true → WritesNoVolume {T = ⊤} filled (Err rolls.DiskFault) → X
unwritten_fault true e none = absurd none
unwritten_fault false e none = cc

may_be_refused : {T : Type 0} (result : Result T RollFault) (filled : Bool) → filled ≡ true → MayBeRefused filled result
may_be_refused result true e = tt
may_be_refused result false e = cc

not_refused : (filled : Bool) → MayBeRefused {T = ⊤} filled (Ok tt)
not_refused true = tt
not_refused false = refl

not_filled : {X : Type 0} (filled : Bool) → filled ≡ false → IsTrue filled → X
not_filled true e is = cc
not_filled false e is = cc

module _ {D : Type 0} (d : Ghosts D) (was : Holdings D) (now : ℕ) where
  -- nothing is begun
  pub rolls_none : is_filled was.book.volumes ≡ false → Rolls {T = ⊤} d was was now (Ok tt)
  rolls_none empty = record {
    book = sym (ap (λ (volumes : List Volume). record was.book { volumes = volumes }) (rolled_none was.book.volumes now empty));
    others = refl;
    ends = sym (ap (λ (b : Bool). if b then length (info_text was.book.namespace (length was.book.volumes) now) else last_len was.journal) empty);
    faults = refl;
    makes = λ filled. not_filled (is_filled was.book.volumes) empty filled;
    bytes = λ tells filled. not_filled (is_filled was.book.volumes) empty filled;
    checkpoints = λ told. refl;
    unwritten = λ none. refl;
    refused = not_refused (is_filled was.book.volumes);
  }

  -- nor is there memory for it
  pub rolls_memory : is_filled was.book.volumes ≡ true → Rolls {T = ⊤} d was was now (Err rolls.Memory)
  rolls_memory filled = record {
    book = refl;
    others = refl;
    ends = refl;
    faults = refl;
    makes = λ full. record {
      later = omega arith;
      moves = λ ids t x le o. inl o;
      only = λ ids. tt;
      refused = λ ids. inl (λ x o. inl o);
      covered = λ t le all. all;
      kept = λ files has. has;
      just = tt;
    };
    bytes = λ tells full. record {
      leaves = none_added d.moment d.images_since (disk_of was.journal)
          (IsLeft (d.images (disk_of was.journal)) (HoldEither (texts d was.journal) (texts_begun d was now)));
      added = tt;
      only = tt;
      stays = refl;
      refused = inl (λ image left. inl left);
      others = refl;
    };
    checkpoints = λ told. refl;
    unwritten = λ none. refl;
    refused = may_be_refused (Err rolls.Memory) (is_filled was.book.volumes) filled;
  }

  module _ (journal : Journal D) (book : Book) (filled : is_filled was.book.volumes ≡ true)
      (others : IsTrue d.tells → cdxj_files (d.reading (disk_of journal)) ≡ cdxj_files (d.reading (disk_of was.journal))) where
    -- a volume was begun
    pub rolls_ok : {T E : Type 0} (value : T) → book ≡ with_volume was.book now
        → Makes {T = T} {E = E} (muted was.told d) (disk_of was.journal) (disk_of journal) was.book (with_volume was.book now) (Ok value)
        → CountsFaults {T = T} {E = E} (d.faults (disk_of was.journal)) (d.faults (disk_of journal)) (Ok value)
        → last_len journal ≡ length (info_text was.book.namespace (length was.book.volumes) now)
        → (IsTrue d.tells → Changes {T = T} {E = E} d was.journal journal (texts_begun d was now) (Ok value))
        → Rolls {T = ⊤} d was (record was { journal = journal; book = book }) now (Ok tt)
    rolls_ok value with_it made counts ends changed = record {
      book = with_it ∙ sym (ap (λ (volumes : List Volume). record was.book { volumes = volumes }) (rolled_one was.book.volumes now filled));
      others = refl;
      ends = ends
          ∙ sym (ap (λ (b : Bool). if b then length (info_text was.book.namespace (length was.book.volumes) now) else last_len was.journal) filled);
      faults = counts.steady;
      makes = λ full. record { later = made.later; moves = made.moves; only = made.only; refused = made.refused; covered = made.covered; kept = made.kept; just = made.just };
      bytes = λ tells full. change_done d was.journal journal (texts_begun d was now) value tt (changed tells);
      checkpoints = others;
      unwritten = unwritten_full (is_filled was.book.volumes) filled;
      refused = not_refused (is_filled was.book.volumes);
    }

    -- the disk refused it
    pub rolls_err : {T E : Type 0} (fault : E) → book ≡ was.book
        → Makes {T = T} {E = E} (muted was.told d) (disk_of was.journal) (disk_of journal) was.book (with_volume was.book now) (Err fault)
        → CountsFaults {T = T} {E = E} (d.faults (disk_of was.journal)) (d.faults (disk_of journal)) (Err fault)
        → last_len journal ≡ last_len was.journal
        → (IsTrue d.tells → Changes {T = T} {E = E} d was.journal journal (texts_begun d was now) (Err fault))
        → Rolls {T = ⊤} d was (record was { journal = journal; book = book }) now (Err rolls.DiskFault)
    rolls_err fault same made counts ends changed = record {
      book = same;
      others = refl;
      ends = ends;
      faults = (counts.later, counts.rose);
      makes = λ full. record { later = made.later; moves = made.moves; only = made.only; refused = made.refused; covered = made.covered; kept = made.kept; just = tt };
      bytes = λ tells full. change_refused d was.journal journal (texts_begun d was now) fault (Err rolls.DiskFault) refl (changed tells);
      checkpoints = others;
      unwritten = unwritten_fault (is_filled was.book.volumes) filled;
      refused = may_be_refused (Err rolls.DiskFault) (is_filled was.book.volumes) filled;
    }

    pub begun_archive : EntriesStayAll → IsArchive d was → HoldsBook d was.told journal book → IsMeasured journal book
        → KeepsCheckpoints (crash_of (muted was.told d) (disk_of was.journal)) (crash_of (muted was.told d) (disk_of journal))
        → book ≡ with_volume was.book now → (info : List ℕ) → (IsTrue d.tells → texts d journal ≡ texts d was.journal ++ info ∷ [])
        → IsArchive d (record was { journal = journal; book = book })
    begun_archive entries_stay is holds measured kept with_it info goes_on =
        stays_archive d entries_stay was journal book is holds measured
        (ap (λ (b : Book). captures b) with_it ∙ captures_stay was.book.volumes now)
        (subst (λ (b : Book). Grows was.book b) (sym with_it) (volume_grows was.book now)) kept
        (λ told. subst (λ (after : List (List ℕ)). GoOn (texts d was.journal) after) (sym (goes_on told)) (texts_go_on (texts d was.journal) info))

    pub refused_archive : EntriesStayAll → Grows was.book was.book → IsArchive d was → HoldsBook d was.told journal book → IsMeasured journal book
        → KeepsCheckpoints (crash_of (muted was.told d) (disk_of was.journal)) (crash_of (muted was.told d) (disk_of journal))
        → book ≡ was.book → (IsTrue d.tells → texts d journal ≡ texts d was.journal)
        → IsArchive d (record was { journal = journal; book = book })
    refused_archive entries_stay itself is holds measured kept same stays =
        stays_archive d entries_stay was journal book is holds measured
        (ap (λ (b : Book). captures b) same)
        (subst (λ (b : Book). Grows was.book b) (sym same) itself) kept
        (λ told. subst (λ (after : List (List ℕ)). GoOn (texts d was.journal) after) (sym (stays told)) (texts_stay (texts d was.journal)))

-- what is said of a journal and a book is said of the same ones
pub of_the_same : {D : Type 0} (P : Journal D → Book → ℕ → Type 0) (j k : Journal D) (a b : Book) (m n : ℕ) → j ≡ k → a ≡ b → m ≡ n
    → P j a m → P k b n
of_the_same P j k a b m n same_journal same_book same_number p =
    subst (λ (x : Journal _). P x b n) same_journal (subst (λ (x : Book). P j x n) same_book (subst (λ (x : ℕ). P j a x) same_number p))

-- what a `?` hands out is this fault
pub at_fault : (P : Result ⊤ RollFault → Type 0) (fault : RollFault) (result : Result ⊤ RollFault) → IsErrAnd result (λ f. f ≡ fault)
    → P (Err fault) → P result
at_fault P fault (Ok done) is p = absurd is
at_fault P fault (Err other) is p = subst (λ (f : RollFault). P (Err f)) (sym is) p
