-- What an archive holds after a store.
use Rattle.std.proofs.Common.{◌≡◌, ◌⊎◌, ℕ, ◌+◌, ◌<◌, Bool, true, false, IsFalse, IsTrue, List, [], ◌∷◌, ◌++◌, length, sym, ap, subst, ◌∙◌, ⊎_elim, arith, length-append, if◌then◌else◌, cond}
use Rattle.std.specs.Prelude.{Contains, count_by}
use Rattle.std.proofs.lemmas.List.Sums.{sum_by-append, sum_by-cons}
use Rattle.capture.specs.Captures.{captures}
use Rattle.capture.specs.Growth.{Grows}
use Rattle.capture.specs.declared.book.Book.{Book}
use Rattle.capture.specs.declared.captured.Stored.{Stored}
use Rattle.index_entry.specs.Facts.{Facts}
use Rattle.index_entry.specs.OfBook.{AreOf}
use Rattle.index_entry.specs.Order.{with_entry}
use Rattle.index_entry.specs.Queries.{IsIndex}
use Rattle.disk_model.specs.declared.disk.Disk.{Ghosts}
use Rattle.revisit_table.specs.Table.{Table}
use Rattle.warc_journal.specs.Journals.{disk_of, texts}
use Rattle.warc_journal.specs.declared.journal.Journal.{Journal}
use Rattle.archive_shelf.proofs.EntryLaws.{contains_entry}
use Rattle.archive_shelf.specs.Openings.{KeepsCheckpoints}
use Rattle.archive_shelf.specs.Storing.{is_revisit}
use Rattle.archive_settling.proofs.FinishedLaws.{first_stay, sealed_later}
use Rattle.archive_core.specs.Holdings.{Holdings, IsArchive}
use Rattle.archive_volumes.specs.Spots.{AreHeldWhole, ArePlaced, AreSpotsOf, AreWithin, whole_from}
use Rattle.archive_volumes.specs.Volumes.{HoldsBook, IsMeasured, crash_of, muted}
use Rattle.archive_volumes.specs.declared.spot.Spot.{Spot}
use Rattle.archive_volumes.specs.Entries.{AreNamed}

one_more : (b : Bool) (n : ℕ) → n + (cond b 1 0 + 0) ≡ n + (if b then 1 else 0)
one_more true n = omega arith
one_more false n = omega arith

revisits_more : (all : List Stored) (stored : Stored)
    → count_by (λ (s : Stored). is_revisit s.kept) (all ++ stored ∷ [])
    ≡ count_by (λ (s : Stored). is_revisit s.kept) all + (if is_revisit stored.kept then 1 else 0)
revisits_more all stored =
    let count : Stored → ℕ = λ (s : Stored). cond (is_revisit s.kept) 1 0 in
    sum_by-append count all (stored ∷ [])
    ∙ ap (λ (n : ℕ). count_by (λ (s : Stored). is_revisit s.kept) all + n) (sum_by-cons count stored [])
    ∙ one_more (is_revisit stored.kept) (count_by (λ (s : Stored). is_revisit s.kept) all)

module _ {D : Type 0} (d : Ghosts D) (was : Holdings D) (is : IsArchive d was) (journal : Journal D) (now : Book) (table : Table)
    (holds : HoldsBook d was.told journal now) (measured : IsMeasured journal now) (grows : Grows was.book now)
    (left : KeepsCheckpoints (crash_of (muted was.told d) (disk_of was.journal)) (crash_of (muted was.told d) (disk_of journal))) where
  -- a book with the same captures is held: nothing was stored, but a volume may have been begun
  pub archive_left : (index : List Facts) (spots : List Spot) → captures now ≡ captures was.book → index ≡ was.index
      → table.kept ≡ whole_from 0 spots → AreSpotsOf now spots
      → (IsTrue d.tells → AreWithin (texts d journal) spots)
      → (IsTrue was.told → ArePlaced (texts d journal) now spots) → (IsFalse was.told → AreHeldWhole now spots) → (IsTrue was.told → AreOf now was.index)
      → AreNamed spots index → IsArchive d (record was { journal = journal; book = now; table = table; index = index; spots = spots })
  archive_left index spots same stays kept are within placed made known named =
      let count : length (captures now) ≡ length (captures was.book) = ap (λ (l : List Stored). length l) same in
      record {
        holds = holds;
        measured = measured;
        counted = record {
          few = omega (arith, count, is.counted.few);
          revisits = is.counted.revisits ∙ sym (ap (λ (all : List Stored). count_by (λ (s : Stored). is_revisit s.kept) all) same);
          found = omega (arith, count, is.counted.found);
          below = λ entry has. omega (arith, count, is.counted.below entry (subst (λ (l : List Facts). Contains l entry) stays has));
          limits = is.counted.limits;
          sealed = sealed_later was.book now was.settled grows is.counted.sealed;
        };
        spots = are;
        table = kept;
        indexed = subst IsIndex (sym stays) is.indexed;
        named = named;
        within = within;
        placed = placed;
        made = made;
        known = λ told. subst (λ (l : List Facts). AreOf now l) (sym stays) (known told);
        settled = first_stay d was.told (disk_of was.journal) (disk_of journal) was.book now was.settled grows is.counted.sealed left is.settled;
      }

  -- a capture more is held
  pub archive_stored : (stored : Stored) (index : List Facts) (spots : List Spot) (revisits : ℕ)
      → captures now ≡ captures was.book ++ stored ∷ [] → length (captures was.book) < was.limits.captures
      → (index ≡ was.index) ⊎ ((entry : Facts) × (entry.number ≡ length (captures was.book)) × (index ≡ with_entry entry was.index))
      → IsIndex index → revisits ≡ was.revisits + (if is_revisit stored.kept then 1 else 0)
      → table.kept ≡ whole_from 0 spots → AreSpotsOf now spots
      → (IsTrue d.tells → AreWithin (texts d journal) spots)
      → (IsTrue was.told → ArePlaced (texts d journal) now spots) → (IsFalse was.told → AreHeldWhole now spots) → (IsTrue was.told → AreOf now index)
      → AreNamed spots index → IsArchive d (record was { journal = journal; book = now; table = table; index = index; spots = spots; revisits = revisits })
  archive_stored stored index spots revisits gains not_full entered indexed more kept are within placed made known named =
      let count : length (captures now) ≡ length (captures was.book) + 1 =
      ap (λ (l : List Stored). length l) gains ∙ length-append (captures was.book) (stored ∷ []) in
      record {
        holds = holds;
        measured = measured;
        counted = record {
          few = omega (arith, count, not_full, is.counted.limits.captures);
          revisits = more
              ∙ ap (λ (n : ℕ). n + (if is_revisit stored.kept then 1 else 0)) is.counted.revisits
              ∙ sym (revisits_more (captures was.book) stored)
              ∙ sym (ap (λ (all : List Stored). count_by (λ (s : Stored). is_revisit s.kept) all) gains);
          found = omega (arith, count, is.counted.found);
          below = λ entry has. ⊎_elim
              (λ (same : index ≡ was.index).
              omega (arith, count, is.counted.below entry (subst (λ (l : List Facts). Contains l entry) same has)))
              (λ new. ⊎_elim
              (λ (e : new.0 ≡ entry). omega (arith, count, ap (λ (f : Facts). f.number) e, new.1))
              (λ before. omega (arith, count, is.counted.below entry before))
              (contains_entry new.0 was.index entry (subst (λ (l : List Facts). Contains l entry) new.2 has)))
              entered;
          limits = is.counted.limits;
          sealed = sealed_later was.book now was.settled grows is.counted.sealed;
        };
        spots = are;
        table = kept;
        indexed = indexed;
        named = named;
        within = within;
        placed = placed;
        made = made;
        known = known;
        settled = first_stay d was.told (disk_of was.journal) (disk_of journal) was.book now was.settled grows is.counted.sealed left is.settled;
      }
