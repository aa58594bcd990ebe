-- What a call of a pass leaves, as of one of many shelves over an archive.
use Rattle.std.proofs.Common.{◌≡◌, ℕ, ◌+◌, Bool, true, false, IsTrue, if◌then◌else◌, List, [], ◌∷◌, ◌++◌, length, Result, Ok, Err, refl, sym, ap, subst, ◌∙◌, inl, eq-eqb, arith}
use mathlib.Core.Bool.{true≢false}
use Rattle.std.specs.Prelude.{Option}
use Rattle.std.proofs.lemmas.List.{append-nil}
use Rattle.capture.specs.Captures.{captures}
use Rattle.capture.specs.Growth.{Grows}
use Rattle.capture.specs.declared.book.Book.{Book}
use Rattle.capture.specs.declared.captured.Stored as captured
use Rattle.capture.specs.declared.captured.Taken.{Taken}
use Rattle.capture.proofs.GrowthLaws.{grows_from_itself, growth_goes_on}
use Rattle.warc_text.specs.Sound.{IsSound}
use Rattle.archive_shelf.specs.Answers.{CountsIf, is_store_fault}
use Rattle.archive_shelf.specs.Contents.{Begins, Stays}
use Rattle.archive_shelf.specs.Told.{ReadsOn, ShowsItsBook, WritesNothing}
use Rattle.archive_shelf.specs.declared.fault.StoreFault.{StoreFault}
use Rattle.archive_shelf.specs.declared.fault.StoreFault.TheVariants as stores
use Rattle.archive_shelf.specs.declared.receipt.Receipt.{Receipt}
use Rattle.archive_shelf.proofs.StoringLaws.{captures_stay}
use Rattle.history_lock.specs.Known.{IsSamePass, Known}
use Rattle.history_lock.specs.Seen.{All, Shows, Turn}
use Rattle.index_snapshot.specs.Edges.{Edge}
use Rattle.vault_lists.specs.Items.{shown_in}
use Rattle.vault_lists.specs.declared.item.Item.{Item}
use Rattle.vault.specs.Company.{Passing, contents_at, told_at}
use Rattle.vault_turns.specs.History.{IsBegun, after_kind, book_after, by_of, given_faults, is_told, opened_book, sure_in, told_book, told_limits}
use Rattle.vault_turns.specs.Own.{count_faults, fault_by, is_among, number_by, own_behind, own_captures, own_entries, own_faults}
use Rattle.vault_turns.specs.Turns.{AddsFaultAlone, BeginsAtMost, CommitAnswers, IsStoring}
use Rattle.vault_turns.specs.declared.noted.Kind.{Kind}
use Rattle.vault_turns.specs.declared.noted.Kind.TheVariants.{Opened, Began, Stored, Failed}
use Rattle.vault_turns.specs.declared.noted.Noted.{Noted}
use Rattle.vault_turns.proofs.FaultLaws.{count_append, none_stored, one_if}
use Rattle.vault_turns.proofs.HistoryLaws.{begun_append, given_stays, limits_append, sure_stays, told_grows, told_stays}
use Rattle.vault.proofs.OwnLaws.{none_own, own_append}
use Rattle.vault_turns.proofs.PublishLaws.{fault_added}
use Rattle.vault.proofs.SharingLaws.{among_one, behind_append, none_behind}

-- ---- how a history goes on

-- Of the entries under these numbers these captures are new, and so many faults; the book has grown, and all else is the same.
pub record Leaves (numbers : List ℕ) (was is : List Noted) (stored : List ℕ) (faults : ℕ) : Type 0 where
  pub grows : Grows (told_book was) (told_book is)
  pub told : is_told is ≡ is_told was
  pub limits : told_limits is ≡ told_limits was
  pub given : given_faults is ≡ given_faults was
  pub sure : sure_in is ≡ sure_in was
  pub mine : own_captures numbers is ≡ own_captures numbers was ++ stored
  pub met : own_faults numbers is ≡ own_faults numbers was + faults

-- the capture that was stored
abbrev pub number_if : Result Receipt StoreFault → List ℕ
number_if (Ok receipt) = receipt.number ∷ []
number_if (Err fault) = []

captures_joined : (numbers : List ℕ) (xs ys : List Noted) → IsBegun xs
    → own_captures numbers (xs ++ ys) ≡ own_captures numbers xs ++ own_behind numbers (told_book xs) ys
captures_joined numbers [] ys begun = absurd begun
captures_joined numbers (x ∷ xs) ys begun = behind_append numbers (opened_book x.kind) xs ys

leaves_on : (numbers : List ℕ) (xs ys : List Noted) (stored : List ℕ) (faults : ℕ) → IsBegun xs → own_behind numbers (told_book xs) ys ≡ stored
    → count_faults (own_entries numbers ys) ≡ faults → Leaves numbers xs (xs ++ ys) stored faults
leaves_on numbers xs ys stored faults begun stored_is faults_are = record {
  grows = told_grows grows_from_itself growth_goes_on xs ys begun;
  told = told_stays xs ys begun;
  limits = limits_append xs ys begun;
  given = given_stays xs ys begun;
  sure = sure_stays xs ys begun;
  mine = captures_joined numbers xs ys begun ∙ ap (λ (l : List ℕ). own_captures numbers xs ++ l) stored_is;
  met = ap (λ (l : List Noted). count_faults l) (own_append numbers xs ys) ∙ (count_append (own_entries numbers xs) (own_entries numbers ys)
      ∙ ap (λ (n : ℕ). own_faults numbers xs + n) faults_are);
}

pub leaves_itself : (numbers : List ℕ) (xs : List Noted) → IsBegun xs → Leaves numbers xs xs [] 0
leaves_itself numbers xs begun =
    subst (λ (l : List Noted). Leaves numbers xs l [] 0) (append-nil xs) (leaves_on numbers xs [] [] 0 begun refl refl)

leaves_shown : (passes : ℕ) (numbers : List ℕ) (seen found : List Noted) → IsBegun seen → Shows by_of passes numbers seen found
    → Leaves numbers seen found [] 0
leaves_shown passes numbers seen found begun shows =
    subst (λ (l : List Noted). Leaves numbers seen l [] 0) (sym shows.is_seen_and_more)
    (leaves_on numbers seen shows.more [] 0 begun (none_behind passes numbers (told_book seen) shows.more shows.of_others)
    (ap (λ (l : List Noted). count_faults l) (none_own passes numbers shows.more shows.of_others)))

pub leaves_both : (numbers : List ℕ) (a b c : List Noted) (stored : List ℕ) (faults : ℕ) → Leaves numbers a b [] 0 → Leaves numbers b c stored faults
    → Leaves numbers a c stored faults
leaves_both numbers a b c stored faults first second = record {
  grows = growth_goes_on (told_book a) (told_book b) (told_book c) first.grows second.grows;
  told = second.told ∙ first.told;
  limits = second.limits ∙ first.limits;
  given = second.given ∙ first.given;
  sure = second.sure ∙ first.sure;
  mine = second.mine ∙ ap (λ (l : List ℕ). l ++ stored) (first.mine ∙ append-nil (own_captures numbers a));
  met = let one = first.met in let two = second.met in omega (arith, one, two);
}

-- ---- one entry

module _ (numbers : List ℕ) (number : ℕ) (among : is_among numbers number ≡ true) where
  behind_one : (book : Book) (x : Noted) → x.by ≡ number → own_behind numbers book (x ∷ []) ≡ number_by (length (captures book)) x.kind
  behind_one book x by =
      ap (λ (b : Bool). (if b then number_by (length (captures book)) x.kind else []) ++ []) (ap (λ (n : ℕ). is_among numbers n) by ∙ among)
      ∙ append-nil (number_by (length (captures book)) x.kind)

  faults_one : (x : Noted) → x.by ≡ number → count_faults (own_entries numbers (x ∷ [])) ≡ fault_by x.kind
  faults_one x by =
      let whole : count_faults (x ∷ []) ≡ fault_by x.kind = let e : fault_by x.kind + 0 ≡ fault_by x.kind = omega arith in e in
      ap (λ (b : Bool). count_faults (if b then x ∷ [] else [])) (ap (λ (n : ℕ). is_among numbers n) by ∙ among) ∙ whole

  last_by : (begun : List Noted) (last : Noted) → All (λ (n : Noted). n.by ≡ number) (begun ++ last ∷ []) → last.by ≡ number
  last_by [] last of_pass = of_pass.0
  last_by (x ∷ begun) last of_pass = last_by begun last of_pass.1

  -- ---- perhaps a volume

  none_if : (b : Bool) (none : List ℕ) → none ≡ [] → (if b then none else []) ++ [] ≡ []
  none_if true none is = ap (λ (l : List ℕ). l ++ []) is
  none_if false none is = refl

  begun_none : (book : Book) (at : ℕ) (begun : List Noted) → BeginsAtMost at begun → own_behind numbers book begun ≡ []
  begun_none book at [] begins = refl
  begun_none book at (x ∷ []) begins =
      ap (λ (k : Kind). (if is_among numbers x.by then number_by (length (captures book)) k else []) ++ []) begins ∙ none_if (is_among numbers x.by) (number_by (length (captures book)) (Began at)) refl
  begun_none book at (x ∷ y ∷ others) begins = absurd begins

  begun_count : (book : Book) (at : ℕ) (begun : List Noted) → BeginsAtMost at begun → length (captures (book_after book begun)) ≡ length (captures book)
  begun_count book at [] begins = refl
  begun_count book at (x ∷ []) begins =
      ap (λ (k : Kind). length (captures (after_kind book k))) begins ∙ ap (λ (l : List captured.Stored). length l) (captures_stay book.volumes at)
  begun_count book at (x ∷ y ∷ others) begins = absurd begins

  no_fault_if : (x : Noted) (b : Bool) → fault_by x.kind ≡ 0 → count_faults (if b then x ∷ [] else []) ≡ 0
  no_fault_if x true none = omega (arith, none)
  no_fault_if x false none = refl

  begun_faults : (at : ℕ) (begun : List Noted) → BeginsAtMost at begun → count_faults (own_entries numbers begun) ≡ 0
  begun_faults at [] begins = refl
  begun_faults at (x ∷ []) begins = no_fault_if x (is_among numbers x.by) (ap (λ (k : Kind). fault_by k) begins)
  begun_faults at (x ∷ y ∷ others) begins = absurd begins

  -- perhaps a volume, and one entry of this pass behind it
  one_behind : (book : Book) (at : ℕ) (begun : List Noted) (last : Noted) → BeginsAtMost at begun → last.by ≡ number
      → own_behind numbers book (begun ++ last ∷ []) ≡ number_by (length (captures book)) last.kind
  one_behind book at begun last begins by =
      behind_append numbers book begun (last ∷ [])
      ∙ (ap (λ (l : List ℕ). l ++ own_behind numbers (book_after book begun) (last ∷ [])) (begun_none book at begun begins)
      ∙ (behind_one (book_after book begun) last by ∙ ap (λ (n : ℕ). number_by n last.kind) (begun_count book at begun begins)))

  one_fault : (at : ℕ) (begun : List Noted) (last : Noted) → BeginsAtMost at begun → last.by ≡ number
      → count_faults (own_entries numbers (begun ++ last ∷ [])) ≡ fault_by last.kind
  one_fault at begun last begins by =
      ap (λ (l : List Noted). count_faults l) (own_append numbers begun (last ∷ []))
      ∙ (count_append (own_entries numbers begun) (own_entries numbers (last ∷ []))
      ∙ (let none = begun_faults at begun begins in let one = faults_one last by in omega (arith, none, one)))

  -- ---- what a turn adds

  abbrev OfPass : List Noted → Type 0
  OfPass added = All (λ (n : Noted). n.by ≡ number) added

  nothing_on : (found added : List Noted) → IsBegun found → added ≡ [] → Leaves numbers found (found ++ added) [] 0
  nothing_on found added begun none =
      leaves_on numbers found added [] 0 begun (ap (λ (l : List Noted). own_behind numbers (told_book found) l) none)
      (ap (λ (l : List Noted). count_faults (own_entries numbers l)) none)

  pub read_leaves : (found : List Noted) (failed : Bool) (added : List Noted) → IsBegun found → OfPass added → AddsFaultAlone failed added
      → Leaves numbers found (found ++ added) [] (one_if failed)
  read_leaves found true (x ∷ []) begun of_pass fails =
      leaves_on numbers found (x ∷ []) [] 1 begun
      (behind_one (told_book found) x of_pass.0 ∙ ap (λ (k : Kind). number_by (length (captures (told_book found))) k) fails)
      (faults_one x of_pass.0 ∙ ap (λ (k : Kind). fault_by k) fails)
  read_leaves found true [] begun of_pass fails = absurd fails
  read_leaves found true (x ∷ y ∷ others) begun of_pass fails = absurd fails
  read_leaves found false added begun of_pass none = nothing_on found added begun none

  stored_number : (taken : Taken) (same : Option ℕ) (n : ℕ) (kind : Kind) → IsStoring taken same kind → number_by n kind ≡ n ∷ []
  stored_number taken same n (Stored kept as_same) storing = refl
  stored_number taken same n (Opened held limits told list faults sure) storing = absurd storing
  stored_number taken same n (Began at) storing = absurd storing
  stored_number taken same n Failed storing = absurd storing

  pub commit_leaves : (tells : Bool) (taken : Taken) (found added : List Noted) (result : Result Receipt StoreFault) → IsBegun found → OfPass added
      → CommitAnswers tells taken found added result → Leaves numbers found (found ++ added) (number_if result) (one_if (is_store_fault result))
  commit_leaves tells taken found added (Ok receipt) begun of_pass done =
      let book = told_book found in
      let last = done.adds.stored in
      let by = last_by done.adds.begun last (subst (λ (l : List Noted). OfPass l) done.adds.all of_pass) in
      leaves_on numbers found added (receipt.number ∷ []) 0 begun
      (ap (λ (l : List Noted). own_behind numbers book l) done.adds.all
      ∙ (one_behind book taken.date done.adds.begun last done.adds.begins by
      ∙ (stored_number taken receipt.same_as (length (captures book)) last.kind done.adds.stores ∙ ap (λ (n : ℕ). n ∷ []) (sym done.number))))
      (ap (λ (l : List Noted). count_faults (own_entries numbers l)) done.adds.all
      ∙ (one_fault taken.date done.adds.begun last done.adds.begins by ∙ none_stored taken receipt.same_as last.kind done.adds.stores))
  commit_leaves tells taken found added (Err (stores.Full count limit)) begun of_pass done = nothing_on found added begun done.0
  commit_leaves tells taken found added (Err stores.DiskFault) begun of_pass done =
      let book = told_book found in
      let last = done.adds.failed in
      let by = last_by done.adds.begun last (subst (λ (l : List Noted). OfPass l) done.adds.all of_pass) in
      leaves_on numbers found added [] 1 begun
      (ap (λ (l : List Noted). own_behind numbers book l) done.adds.all
      ∙ (one_behind book taken.date done.adds.begun last done.adds.begins by ∙ ap (λ (k : Kind). number_by (length (captures book)) k) done.adds.fails))
      (ap (λ (l : List Noted). count_faults (own_entries numbers l)) done.adds.all
      ∙ (one_fault taken.date done.adds.begun last done.adds.begins by ∙ ap (λ (k : Kind). fault_by k) done.adds.fails))
  commit_leaves tells taken found added (Err (stores.Damaged at kept digest)) begun of_pass done = nothing_on found added begun done.0
  commit_leaves tells taken found added (Err stores.Memory) begun of_pass done = nothing_on found added begun done

-- ---- a turn

pub among_self : (pass : Known Noted) → pass.numbers ≡ pass.number ∷ [] → is_among pass.numbers pass.number ≡ true
among_self pass alone =
    ap (λ (ns : List ℕ). is_among ns pass.number) alone ∙ among_one pass.number pass.number true (eq-eqb pass.number pass.number refl)

module _ (was : Known Noted) (after : List Noted) (does : List Noted → List Noted → Type 0) (begun : IsBegun was.seen)
    (turn : Turn by_of was after does) where
  pub found_leaves : Leaves was.numbers was.seen turn.found [] 0
  found_leaves = leaves_shown was.passes was.numbers was.seen turn.found begun turn.shows

  pub found_begun : IsBegun turn.found
  found_begun = subst IsBegun (sym turn.shows.is_seen_and_more) (begun_append was.seen turn.shows.more begun)

  pub turn_leaves : (stored : List ℕ) (faults : ℕ) → Leaves was.numbers turn.found (turn.found ++ turn.adds.added) stored faults
      → Leaves was.numbers was.seen after stored faults
  turn_leaves stored faults leaves =
      subst (λ (l : List Noted). Leaves was.numbers was.seen l stored faults) (sym turn.adds.is_before_and_added)
      (leaves_both was.numbers was.seen turn.found (turn.found ++ turn.adds.added) stored faults found_leaves leaves)

-- ---- as a shelf

counts_if : (failed : Bool) (before now : ℕ) → now ≡ before + one_if failed → CountsIf failed before now
counts_if true before now is = (omega (arith, is), omega (arith, is))
counts_if false before now is = omega (arith, is)

nothing_written : (was is : Passing) → WritesNothing false (told_at was) (told_at is)
nothing_written was is = record {
  reading = λ alone told. refl;
  crash = record { later = omega arith; moves = λ t x le opened. inl opened; covered = λ t le all. all; kept = λ files has. has };
}

pub shows_book : (is : Passing) → (IsTrue (is_told is.known.seen) → IsSound (told_book is.known.seen)) → ShowsItsBook false (told_at is)
shows_book is sound = record {
  consistent = record { sound = sound; shown = λ alone told. absurd (true≢false (sym alone)) };
  next = λ ids x opened. absurd opened;
}

module _ (was is : Passing) (same : IsSamePass was.known is.known) (shown : is.shown ≡ was.shown) where
  pub shown_same : Begins (shown_in was.shown.items) (shown_in is.shown.items)
  shown_same = record {
    rest = [];
    joined = ap (λ (e : Edge Item). shown_in e.items) shown ∙ sym (append-nil (shown_in was.shown.items));
  }

  pub stays : (faults : ℕ) → Leaves was.known.numbers was.known.seen is.known.seen [] faults → Stays false (contents_at was) (contents_at is)
  stays faults leaves =
      let mine : own_captures is.known.numbers is.known.seen ≡ own_captures was.known.numbers was.known.seen
      = ap (λ (ns : List ℕ). own_captures ns is.known.seen) same.2 ∙ (leaves.mine ∙ append-nil (own_captures was.known.numbers was.known.seen)) in
      record {
        seen = leaves.grows;
        shown = shown_same;
        others = λ i. record {
          tells = leaves.told i;
          seen = told_book is.known.seen;
          shown = shown_in is.shown.items;
          mine = same.1 i ∷ mine i;
          limits = leaves.limits i;
        };
      }

  pub counts : (stored : List ℕ) (failed : Bool) → Leaves was.known.numbers was.known.seen is.known.seen stored (one_if failed)
      → CountsIf failed (own_faults was.known.numbers was.known.seen) (own_faults is.known.numbers is.known.seen)
  counts stored failed leaves =
      counts_if failed (own_faults was.known.numbers was.known.seen) (own_faults is.known.numbers is.known.seen)
      (ap (λ (ns : List ℕ). own_faults ns is.known.seen) same.2 ∙ leaves.met)

  pub reads_on : (failed : Bool) → Leaves was.known.numbers was.known.seen is.known.seen [] (one_if failed) → ReadsOn false failed (told_at was) (told_at is)
  reads_on failed leaves = record {
    stays = stays (one_if failed) leaves;
    faults = counts [] failed leaves;
    unwritten = nothing_written was is;
  }

-- a turn that reads, of a pass with one number
module _ (was : Known Noted) (after : List Noted) (does : List Noted → List Noted → Type 0) (begun : IsBegun was.seen) (alone : was.numbers ≡ was.number ∷ [])
    (turn : Turn by_of was after does) (failed : Bool) (fault : (found added : List Noted) → does found added → AddsFaultAlone failed added) where
  pub read_turn : Leaves was.numbers was.seen after [] (one_if failed)
  read_turn =
      turn_leaves was after does begun turn [] (one_if failed)
      (read_leaves was.numbers was.number (among_self was alone) turn.found failed turn.adds.added (found_begun was after does begun turn) turn.adds.of_pass
      (fault turn.found turn.adds.added turn.adds.done))

  pub read_book : told_book after ≡ told_book turn.found
  read_book =
      ap told_book turn.adds.is_before_and_added
      ∙ fault_added turn.found (found_begun was after does begun turn) failed turn.adds.added (fault turn.found turn.adds.added turn.adds.done)
