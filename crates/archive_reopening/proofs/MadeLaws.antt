-- What was opened makes an archive.
use Rattle.std.proofs.Common.{◌≡◌, ℕ, suc, ◌+◌, ◌-◌, ◌<◌, ◌≤◌, Bool, IsFalse, IsTrue, List, [], ◌∷◌, length, Some, refl, sym, ap, subst, ◌∙◌, cond, arith}
use Rattle.std.specs.Prelude.{Contains, count_by, slice_get, true, false}
use Rattle.std.specs.List.Sorted.{IsPermutation, IsStrictlySortedBy}
use Rattle.std.proofs.lemmas.List.Sorted.{Contains-permutation, IsPermutation-sym}
use Rattle.std.proofs.lemmas.List.Sums.{sum_by-cons}
use Rattle.std.proofs.lemmas.List.Elements.{All-contains}
use Rattle.std.proofs.lemmas.Bool.{false≢true}
use Rattle.std.proofs.lemmas.Option.{same_Some, slice_get_within}
use Rattle.capture.specs.Captures.{captures}
use Rattle.capture.specs.declared.book.Book.{Book}
use Rattle.capture.specs.declared.captured.Kept.{Kept}
use Rattle.capture.specs.declared.captured.Kept.TheVariants as keeps
use Rattle.capture.specs.declared.captured.Stored.{Stored}
use Rattle.capture.specs.declared.limits.Limits.{Limits}
use Rattle.index_entry.specs.Facts.{Facts}
use Rattle.index_entry.specs.OfBook.{AreEntries, AreOf, by_number}
use Rattle.index_entry.specs.Queries.{IsIndex}
use Rattle.disk_model.specs.Crash.{Leaves}
use Rattle.disk_model.specs.declared.disk.Disk.{Ghosts}
use Rattle.revisit_table.specs.Table.{Table}
use Rattle.warc_journal.specs.Journals.{disk_of, texts}
use Rattle.warc_journal.specs.declared.journal.Journal.{Journal}
use Rattle.archive_shelf.specs.Storing.{is_revisit}
use Rattle.archive_core.proofs.ArchiveLaws.{entries_shown}
use Rattle.archive_gathering.specs.Gathering.{AreAllRead, GroupWasRead, IsInStepWith}
use Rattle.archive_volumes.specs.Entries.{AreNamed}
use Rattle.archive_opening.specs.Opening.{IsUsable}
use Rattle.archive_payloads.proofs.ChooseLaws.{there_is}
use Rattle.archive_volumes.specs.Held.{book_of}
use Rattle.archive_settling.specs.Finished.{AreLinedTo, FirstAreFinished, HasCheckpoint}
use Rattle.archive_core.specs.Holdings.{AreLimits, IsArchive}
use Rattle.archive_index.specs.Shown.{numbered}
use Rattle.archive_volumes.specs.Spots.{AreHeldWhole, ArePlaced, AreSpotsOf, AreWithin, form_of, is_same_form}
use Rattle.archive_volumes.specs.Volumes.{HoldsBook, IsMeasured}
use Rattle.archive_opening.specs.declared.opening.Opened.{Opened}
use Rattle.archive_volumes.specs.declared.spot.Spot.{Spot}
use Rattle.archive_gathering.specs.Shapes.{AreNumbered}
use Rattle.archive_reopening.specs.Making.{AreFinishedAsTold, NamesCapture}
use Rattle.archive_index.proofs.ShownLaws.{shown_from}
use Rattle.archive_gathering.specs.declared.gathered.Gathered.{Gathered}

-- ---- how many refer to an earlier one

abbrev pub same_spot : Spot → Bool
same_spot spot = is_same_form spot.form

abbrev refers : Stored → Bool
refers stored = is_revisit stored.kept

same_kept : (kept : Kept) → is_same_form (form_of kept) ≡ is_revisit kept
same_kept (keeps.Wire wire) = refl
same_kept (keeps.Same first) = refl
same_kept (keeps.Cut wire) = refl

-- each spot is of the capture at its place
abbrev pub AreForms : List Spot → List Stored → Type 0
AreForms spots all = (k : ℕ) (spot : Spot) → slice_get spots k ≡ Some spot
    → (stored : Stored) × (slice_get all k ≡ Some stored) × (is_same_form spot.form ≡ is_same_form (form_of stored.kept))

counted : (spots : List Spot) (all : List Stored) → length spots ≡ length all → AreForms spots all
    → count_by same_spot spots ≡ count_by refers all
counted [] [] same are = refl
counted [] (stored ∷ others) same are = absurd (omega (arith, same))
counted (spot ∷ spots) [] same are = absurd (omega (arith, same))
counted (spot ∷ spots) (stored ∷ others) same are =
    let at = are 0 spot refl in
    let is : at.0 ≡ stored = sym (same_Some stored at.0 at.1) in
    let first : same_spot spot ≡ refers stored = at.2 ∙ same_kept at.0.kept ∙ ap (λ (s : Stored). is_revisit s.kept) is in
    let rest = counted spots others (omega (arith, same)) (λ k other placed. are (suc k) other placed) in
    sum_by-cons (λ (s : Spot). cond (same_spot s) 1 0) spot spots
    ∙ ap (λ (b : Bool). cond b 1 0 + count_by same_spot spots) first
    ∙ ap (λ (n : ℕ). cond (refers stored) 1 0 + n) rest
    ∙ sym (sum_by-cons (λ (s : Stored). cond (refers s) 1 0) stored others)

revisits_are : (book : Book) (spots : List Spot) → AreSpotsOf book spots → count_by same_spot spots ≡ count_by refers (captures book)
revisits_are book spots are =
    counted spots (captures book) are.count (λ k spot at. let is = are.each k spot at in (is.stored, is.placed, is.revisit))

-- ---- the index

-- entries in another order are those of the same book
of_sorted : (book : Book) (entries index : List Facts) → AreOf book entries → IsPermutation entries index → AreOf book index
of_sorted book entries index are same =
    let back : (entry : Facts) → Contains index entry → Contains entries entry =
    λ entry has. Contains-permutation index entries entry (IsPermutation-sym entries index same) has in
    record {
      each = λ entry has. are.each entry (back entry has);
      found = λ entry stored has. are.found entry stored (back entry has);
      all = λ number stored placed by_date.
          let one = are.all number stored placed by_date in
          (one.0, Contains-permutation entries index one.0 same one.1, one.2);
    }

-- ---- the checkpoints

-- those of the first volumes of which lines told are finished
pub first_told : {D : Type 0} (d : Ghosts D) (opened : Opened D) (journal : Journal D) (book : Book) (spots : List Spot) (n : ℕ) → journal ≡ opened.journal
    → book ≡ book_of opened.gathered.held → spots ≡ opened.gathered.spots.items → AreFinishedAsTold d opened → AreLinedTo spots n
    → Leaves (d.images (disk_of journal)) (FirstAreFinished book n)
first_told d opened journal book spots n ej eb es finished lined image left k less =
    let of = lined k less in
    subst (λ (v : ℕ). HasCheckpoint book v image) of.volume_is
    (subst (λ (b : Book). HasCheckpoint b of.spot.volume image) (sym eb)
    (finished of.spot (subst (λ (l : List Spot). Contains l of.spot) es of.one) of.told image
    (subst (λ (j : Journal _). d.images (disk_of j) image) ej left)))

-- where each capture's group was read, no line told of any
pub none_lined : {D : Type 0} (d : Ghosts D) (opened : Opened D) → AreAllRead opened.gathered.spots.items → AreFinishedAsTold d opened
none_lined d opened read spot one told =
    absurd (false≢true (sym (All-contains GroupWasRead opened.gathered.spots.items spot read one) ∙ told))

-- ---- the archive

-- the entries are in order of their numbers, which are those of captures, and tell what is kept of those
abbrev pub HaveNumbers : Book → List Spot → List Facts → Type 0
HaveNumbers book spots entries =
    IsStrictlySortedBy by_number entries × ((entry : Facts) → Contains entries entry → entry.number < length (captures book))
    × AreNamed spots entries

-- the entries of a book are such, where they tell what is kept of its captures
pub numbered_of : (gathered : Gathered) → AreEntries (book_of gathered.held) gathered.entries.items → AreNamed gathered.spots.items gathered.entries.items
    → AreNumbered gathered
numbered_of gathered are named = record {
  in_order = are.in_order;
  below = λ entry has.
      let of = are.of_book.each entry has in
      slice_get_within (captures (book_of gathered.held)) entry.number of.group.stored of.group.placed;
  named = named;
}

-- entries of a book, as they are taken out
pub entries_as : (book other : Book) (entries others : List Facts) → other ≡ book → others ≡ entries → AreEntries book entries → AreEntries other others
entries_as book other entries others eb es are = subst (λ (b : Book). AreEntries b others) (sym eb) (subst (AreEntries book) (sym es) are)

-- what is kept of a book
abbrev pub AreParts : {D : Type 0} → Ghosts D → Bool → Journal D → Book → List Spot → List (List ℕ × ℕ) → List ℕ → List Facts → Type 0
AreParts d told journal book spots kept lengths entries =
    IsInStepWith book spots kept lengths × AreSpotsOf book spots × HaveNumbers book spots entries × (IsTrue told → AreEntries book entries)
    × (IsTrue d.tells → AreWithin (texts d journal) spots)
    × (IsTrue told → ArePlaced (texts d journal) book spots) × (IsFalse told → AreHeldWhole book spots)

-- the parts of what was opened, as they are taken out
pub parts_of : {D : Type 0} (d : Ghosts D) (told : Bool) (opened : Opened D) → IsUsable d told opened → AreNumbered opened.gathered
    → (IsTrue told → AreEntries (book_of opened.gathered.held) opened.gathered.entries.items)
    → (journal : Journal D) (book : Book) (spots : List Spot) (kept : List (List ℕ × ℕ)) (entries : List Facts)
    → journal ≡ opened.journal → book ≡ book_of opened.gathered.held → spots ≡ opened.gathered.spots.items → kept ≡ opened.gathered.table.kept
    → entries ≡ opened.gathered.entries.items → AreParts d told journal book spots kept opened.gathered.lengths.items entries
parts_of d told opened is numbers entries_are journal book spots kept entries ej eb es et ee =
    let g = opened.gathered in
    let ls = g.lengths.items in
    subst (λ (x : Journal _). AreParts d told x book spots kept ls entries) (sym ej)
    (subst (λ (x : Book). AreParts d told opened.journal x spots kept ls entries) (sym eb)
    (subst (λ (x : List Spot). AreParts d told opened.journal (book_of g.held) x kept ls entries) (sym es)
    (subst (λ (x : List (List ℕ × ℕ)). AreParts d told opened.journal (book_of g.held) g.spots.items x ls entries) (sym et)
    (subst (λ (x : List Facts). AreParts d told opened.journal (book_of g.held) g.spots.items g.table.kept ls x) (sym ee)
    (is.steady, is.spots, (numbers.in_order, numbers.below, numbers.named), entries_are, is.within, is.placed, is.made)))))

module _ {D : Type 0} (d : Ghosts D) (told : Bool) (journal : Journal D) (book : Book) (spots : List Spot) (table : Table) (lengths : List ℕ)
    (entries index : List Facts) (parts : AreParts d told journal book spots table.kept lengths entries) (same : IsPermutation entries index) (is : IsIndex index) where
  pub shown_sorted : AreEntries book entries → AreEntries book (numbered index)
  shown_sorted are = entries_shown book index is (of_sorted book entries index are.of_book same)

  gathered_too : (entry : Facts) → Contains index entry → Contains entries entry
  gathered_too entry has = Contains-permutation index entries entry (IsPermutation-sym entries index same) has

  below_by : (entry : Facts) → Contains index entry → entry.number < length (captures book)
  below_by entry has = parts.2.1 entry (gathered_too entry has)

  pub named_by : (entry : Facts) → Contains (numbered index) entry → NamesCapture book entry
  named_by entry shown =
      let has = gathered_too entry (shown_from index entry shown) in
      let at = there_is spots entry.number (omega (arith, parts.2.1 entry has, parts.1.count)) in
      let is = parts.1.each entry.number at.0 at.1 in
      let named = parts.2.2 entry has at.0 at.1 in
      (is.stored, is.placed, named.uri ∙ is.uri, named.date ∙ is.date)

  pub made_archive : (limits : Limits) (found revisits settled : ℕ) → HoldsBook d told journal book → IsMeasured journal book
      → AreLimits limits → found ≡ length spots → revisits ≡ count_by same_spot spots → settled ≤ length book.volumes - 1
      → (IsTrue told → Leaves (d.images (disk_of journal)) (FirstAreFinished book settled))
      → IsArchive d (record {
        journal = journal;
        book = book;
        index = index;
        table = table;
        spots = spots;
        limits = limits;
        found = found;
        revisits = revisits;
        settled = settled;
        told = told;
      })
  made_archive limits found revisits settled holds measured are_limits found_is revisits_is sealed first = record {
    holds = holds;
    measured = measured;
    counted = record {
      few = omega (arith, parts.0.few, parts.0.count);
      revisits = revisits_is ∙ revisits_are book spots parts.1;
      found = omega (arith, found_is, parts.0.count);
      below = below_by;
      limits = are_limits;
      sealed = sealed;
    };
    spots = parts.1;
    table = parts.0.table_is;
    indexed = is;
    named = λ entry has. parts.2.2 entry (gathered_too entry has);
    within = parts.4;
    placed = parts.5;
    made = parts.6;
    known = λ so. of_sorted book entries index (parts.3 so).of_book same;
    settled = first;
  }
