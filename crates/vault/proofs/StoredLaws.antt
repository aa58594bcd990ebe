-- What a store of a pass leaves, as of one of many shelves.
use Rattle.std.proofs.Common.{◌≡◌, ◌⊎◌, ℕ, ◌<◌, ◌≤◌, Bool, false, IsTrue, List, [], ◌∷◌, ◌++◌, length, Result, Ok, Err, refl, sym, ap, subst, ◌∙◌, inl, inr, arith}
use mathlib.Core.Bool.{true≢false}
use Rattle.std.specs.Prelude.{IfOk, OnOk}
use Rattle.capture.specs.Captures.{captures}
use Rattle.capture.specs.declared.book.Book.{Book}
use Rattle.capture.specs.declared.captured.Taken.{Taken}
use Rattle.capture.specs.declared.limits.Limits.{Limits}
use Rattle.warc_text.specs.Sound.{IsSound}
use Rattle.archive_shelf.specs.Answers.{HasVolumeAlone, IsByRule, StoreLeaves, is_store_fault}
use Rattle.archive_shelf.specs.Comparing.{RefersAsShown}
use Rattle.archive_shelf.specs.Storing.{Gains, as_stored}
use Rattle.archive_shelf.specs.Told.{HoldsJust, StoreMayLeave, StoresOn}
use Rattle.archive_shelf.specs.declared.fault.StoreFault.{StoreFault}
use Rattle.archive_shelf.specs.declared.fault.StoreFault.TheVariants as stores
use Rattle.archive_shelf.specs.declared.looked.Looked.{Looked}
use Rattle.archive_shelf.specs.declared.receipt.Receipt.{Receipt}
use Rattle.archive_core.specs.Looking.{Looks}
use Rattle.archive_payloads.specs.Choosing.{is_look_fault}
use Rattle.index_entry.specs.Facts.{Facts}
use Rattle.history_lock.specs.Known.{IsSamePass, Known}
use Rattle.history_lock.specs.Seen.{Turn}
use Rattle.vault_lists.specs.Items.{shown_in}
use Rattle.vault.specs.Company.{Passing, contents_at, told_at}
use Rattle.vault_turns.specs.History.{IsBegun, by_of, is_told, told_book, told_in, told_limits}
use Rattle.vault_turns.specs.Own.{own_captures}
use Rattle.vault_turns.specs.Turns.{CommitAnswers, StoresBy}
use Rattle.vault_turns.specs.declared.noted.Noted.{Noted}
use Rattle.vault_turns.proofs.FaultLaws.{one_if}
use Rattle.vault_turns.proofs.HistoryLaws.{turn_begun}
use Rattle.vault_turns.proofs.PublishLaws.{nothing_added}
use Rattle.vault.proofs.ShelfLaws.{Leaves, among_self, commit_leaves, counts, found_begun, found_leaves, leaves_both, leaves_itself, number_if, read_book, read_turn, shown_same, stays}

-- ---- what was found, and what was added

-- a fault of the first turn is one of the store
same_fault : (fault : StoreFault) → is_look_fault {T = Looked} (Err fault) ≡ is_store_fault (Err fault)
same_fault (stores.Full count limit) = refl
same_fault stores.DiskFault = refl
same_fault (stores.Damaged at kept digest) = refl
same_fault stores.Memory = refl

module _ (taken : Taken) (was is : Passing) (same : IsSamePass was.known is.known) (shown : is.shown ≡ was.shown) (begun : IsBegun was.known.seen)
    (alone : was.known.numbers ≡ was.known.number ∷ []) where
  abbrev Left : Result Receipt StoreFault → Type 0
  Left result = Leaves was.known.numbers was.known.seen is.known.seen (number_if result) (one_if (is_store_fault result))

  -- it was refused in the turn that looks
  refused : (payload : List ℕ) (fault : StoreFault) (found : List Noted) → told_book is.known.seen ≡ told_book found
      → told_limits found ≡ told_limits was.known.seen → Left (Err fault) → Looks (told_in (is_told was.known.seen) found) payload (Err fault)
      → StoreLeaves false taken (contents_at was) (contents_at is) (Err fault)
  refused payload (stores.Full count limit) found book limits leaves looks = (
    stays was is same shown 0 leaves,
    subst (λ (l : Limits). l.captures ≤ length (captures (told_book is.known.seen))) limits
        (subst (λ (b : Book). (told_limits found).captures ≤ length (captures b)) (sym book) looks.0),
    looks.1 ∙ ap (λ (b : Book). length (captures b)) (sym book),
    looks.2 ∙ ap (λ (l : Limits). l.captures) limits,
  )
  refused payload stores.DiskFault found book limits leaves looks =
      let all = stays was is same shown 1 leaves in (
        told_book is.known.seen,
        all.seen,
        subst (λ (l : Limits). length (captures (told_book is.known.seen)) < l.captures) limits
            (subst (λ (b : Book). length (captures b) < (told_limits found).captures) (sym book) looks),
        inl refl,
        all.shown,
        all.others,
      )
  refused payload (stores.Damaged at kept digest) found book limits leaves looks = (
    stays was is same shown 0 leaves,
    subst (λ (l : Limits). length (captures (told_book is.known.seen)) < l.captures) limits
        (subst (λ (b : Book). length (captures b) < (told_limits found).captures) (sym book) looks.0),
    subst (λ (b : Book). at < length (captures b)) (sym book) looks.1,
    looks.2,
  )
  refused payload stores.Memory found book limits leaves looks = stays was is same shown 0 leaves

  -- the second turn answered
  module _ (found added : List Noted) (base : Leaves was.known.numbers was.known.seen found [] 0) (joined : is.known.seen ≡ found ++ added) where
    limits_there : told_limits found ≡ told_limits was.known.seen
    limits_there = base.limits

    book_there : told_book is.known.seen ≡ told_book (found ++ added)
    book_there = ap told_book joined

    committed : (result : Result Receipt StoreFault) → Left result → CommitAnswers (is_told was.known.seen) taken found added result
        → IfOk result (λ receipt. RefersAsShown (shown_in is.shown.items) taken receipt.same_as) → StoreLeaves false taken (contents_at was) (contents_at is) result
    committed (Ok receipt) leaves done as_shown =
        let mine : own_captures is.known.numbers is.known.seen ≡ own_captures was.known.numbers was.known.seen ++ receipt.number ∷ []
        = ap (λ (ns : List ℕ). own_captures ns is.known.seen) same.2 ∙ leaves.mine in
        record {
          found = told_book found;
          led = base.grows;
          not_full = subst (λ (l : Limits). length (captures (told_book found)) < l.captures) limits_there done.not_full;
          number = done.number;
          refers = done.refers;
          by_digest = done.by_digest;
          as_shown = as_shown;
          gained = subst (λ (b : Book). Gains (told_book found) (as_stored taken receipt.same_as) b) (sym book_there) done.gained;
          by_rule = λ t. subst (λ (b : Book). IsByRule (told_limits was.known.seen).volume_bytes (told_book found) taken receipt b) (sym book_there)
              (subst (λ (l : Limits). IsByRule l.volume_bytes (told_book found) taken receipt (told_book (found ++ added))) limits_there (done.by_rule t));
          shown = shown_same was is same shown;
          others = λ i. record {
            tells = leaves.told i;
            seen = told_book is.known.seen;
            shown = shown_in is.shown.items;
            mine = same.1 i ∷ mine i;
            limits = leaves.limits i;
          };
        }
    committed (Err (stores.Full count limit)) leaves done as_shown =
        let book : told_book is.known.seen ≡ told_book found = book_there ∙ nothing_added found added done.0 in (
          stays was is same shown 0 leaves,
          subst (λ (l : Limits). l.captures ≤ length (captures (told_book is.known.seen))) limits_there
              (subst (λ (b : Book). (told_limits found).captures ≤ length (captures b)) (sym book) done.1),
          done.2 ∙ ap (λ (b : Book). length (captures b)) (sym book),
          done.3 ∙ ap (λ (l : Limits). l.captures) limits_there,
        )
    committed (Err stores.DiskFault) leaves done as_shown =
        let all = stays was is same shown 1 leaves in (
          told_book found,
          base.grows,
          subst (λ (l : Limits). length (captures (told_book found)) < l.captures) limits_there done.not_full,
          subst (λ (b : Book). (b ≡ told_book found) ⊎ HasVolumeAlone (is_told was.known.seen) (told_limits was.known.seen).volume_bytes (told_book found) taken b) (sym book_there)
              (subst (λ (l : Limits). (told_book (found ++ added) ≡ told_book found)
              ⊎ HasVolumeAlone (is_told was.known.seen) l.volume_bytes (told_book found) taken (told_book (found ++ added))) limits_there done.left),
          all.shown,
          all.others,
        )
    committed (Err (stores.Damaged at kept digest)) leaves done as_shown =
        let book : told_book is.known.seen ≡ told_book found = book_there ∙ nothing_added found added done.0 in (
          stays was is same shown 0 leaves,
          subst (λ (l : Limits). length (captures (told_book is.known.seen)) < l.captures) limits_there
              (subst (λ (b : Book). length (captures b) < (told_limits found).captures) (sym book) done.1),
          subst (λ (b : Book). at < length (captures b)) (sym book) done.2,
          done.3,
        )
    committed (Err stores.Memory) leaves done as_shown = stays was is same shown 0 leaves

-- ---- a whole store

module _ (taken : Taken) (was is : Known Noted) (begun : IsBegun was.seen) (alone : was.numbers ≡ was.number ∷ []) where
  -- what the first of two turns left
  middle_leaves : (middle : List Noted) → Turn by_of was middle (λ found added. added ≡ []) → Leaves was.numbers was.seen middle [] 0
  middle_leaves middle turn = read_turn was middle _ begun alone turn false (λ found added none. none)

  middle_begun : (middle : List Noted) → Turn by_of was middle (λ found added. added ≡ []) → IsBegun middle
  middle_begun middle turn = turn_begun was middle _ turn begun

  found_second : (middle : List Noted) (does : List Noted → List Noted → Type 0) → Turn by_of was middle (λ found added. added ≡ [])
      → (turn : Turn by_of (record was { seen = middle }) is.seen does) → Leaves was.numbers was.seen turn.found [] 0
  found_second middle does first turn =
      leaves_both was.numbers was.seen middle turn.found [] 0 (middle_leaves middle first)
      (found_leaves (record was { seen = middle }) is.seen does (middle_begun middle first) turn)

  pub store_left : (entries : List Facts) (result : Result Receipt StoreFault) → StoresBy (is_told was.seen) entries taken was is result
      → Leaves was.numbers was.seen is.seen (number_if result) (one_if (is_store_fault result))
  store_left entries result (inl none) =
      subst (λ (r : Result Receipt StoreFault). Leaves was.numbers was.seen is.seen (number_if r) (one_if (is_store_fault r))) (sym none.0)
      (subst (λ (k : Known Noted). Leaves was.numbers was.seen k.seen [] 0) (sym none.1) (leaves_itself was.numbers was.seen begun))
  store_left entries result (inr (inl early)) =
      subst (λ (r : Result Receipt StoreFault). Leaves was.numbers was.seen is.seen (number_if r) (one_if (is_store_fault r))) (sym early.1)
      (subst (λ (b : Bool). Leaves was.numbers was.seen is.seen [] (one_if b)) (same_fault early.0)
      (read_turn was is.seen _ begun alone early.2.turn (is_look_fault {T = Looked} (Err early.0)) (λ found added done. done.adds)))
  store_left entries result (inr (inr done)) =
      let turn = done.turn in
      subst (λ (l : List Noted). Leaves was.numbers was.seen l (number_if result) (one_if (is_store_fault result))) (sym turn.adds.is_before_and_added)
      (leaves_both was.numbers was.seen turn.found (turn.found ++ turn.adds.added) (number_if result) (one_if (is_store_fault result))
      (found_second done.middle _ done.looks turn)
      (commit_leaves was.numbers was.number (among_self was alone) (is_told was.seen) taken turn.found turn.adds.added result
      (found_begun (record was { seen = done.middle }) is.seen _ (middle_begun done.middle done.looks) turn) turn.adds.of_pass turn.adds.done.answers))

  -- where the disk tells what it holds, the book that is seen stays sound
  pub store_sound : (entries : List Facts) (result : Result Receipt StoreFault) → StoresBy (is_told was.seen) entries taken was is result → (IsTrue (is_told was.seen) → IsSound (told_book was.seen))
      → IsTrue (is_told was.seen) → IsSound (told_book is.seen)
  store_sound entries result (inl none) sound t = subst (λ (k : Known Noted). IsSound (told_book k.seen)) (sym none.1) (sound t)
  store_sound entries result (inr (inl early)) sound t =
      subst (λ (l : List Noted). IsSound (told_book l)) (sym early.2.turn.adds.is_before_and_added) (early.2.turn.adds.done.sound t)
  store_sound entries result (inr (inr done)) sound t =
      subst (λ (l : List Noted). IsSound (told_book l)) (sym done.turn.adds.is_before_and_added) (done.turn.adds.done.sound t)

on_any : {T E : Type 0} (r : Result T E) (P : Type 0) → P → OnOk r P
on_any (Ok x) P p = p
on_any (Err e) P p = tt

pub holds_just : (is : Passing) (result : Result Receipt StoreFault) → HoldsJust false (told_at is) result
holds_just is result = λ alone. absurd (true≢false (sym alone))

module _ (taken : Taken) (was is : Passing) (same : IsSamePass was.known is.known) (shown : is.shown ≡ was.shown) (begun : IsBegun was.known.seen)
    (alone : was.known.numbers ≡ was.known.number ∷ []) where
  leaves_by : (result : Result Receipt StoreFault) → StoresBy (is_told was.known.seen) (shown_in is.shown.items) taken was.known is.known result
      → StoreLeaves false taken (contents_at was) (contents_at is) result
  leaves_by result (inl none) =
      subst (λ (r : Result Receipt StoreFault). StoreLeaves false taken (contents_at was) (contents_at is) r) (sym none.0)
      (stays was is same shown 0
      (subst (λ (k : Known Noted). Leaves was.known.numbers was.known.seen k.seen [] 0) (sym none.1) (leaves_itself was.known.numbers was.known.seen begun)))
  leaves_by result (inr (inl early)) =
      let fault = is_look_fault {T = Looked} (Err early.0) in
      subst (λ (r : Result Receipt StoreFault). StoreLeaves false taken (contents_at was) (contents_at is) r) (sym early.1)
      (refused taken was is same shown begun alone early.2.payload early.0 early.2.turn.found
      (read_book was.known is.known.seen _ begun alone early.2.turn fault (λ found added done. done.adds))
      (found_leaves was.known is.known.seen _ begun early.2.turn).limits
      (store_left taken was.known is.known begun alone (shown_in is.shown.items) (Err early.0) (inr (inl (early.0, refl, early.2))))
      early.2.turn.adds.done.looks)
  leaves_by result (inr (inr done)) =
      committed taken was is same shown begun alone done.turn.found done.turn.adds.added (found_second taken was.known is.known begun alone done.middle _ done.looks done.turn)
      done.turn.adds.is_before_and_added result (store_left taken was.known is.known begun alone (shown_in is.shown.items) result (inr (inr done))) done.turn.adds.done.answers
      done.turn.adds.done.shown

  may_leave : (result : Result Receipt StoreFault) → StoreMayLeave false taken (told_at was) (told_at is) result
  may_leave result = record {
    later = omega arith;
    moves = λ ids t x le opened. inl opened;
    only = λ ids. on_any result _ (λ x opened. absurd opened);
    refused = λ alone. absurd (true≢false (sym alone));
    quiet = λ none t x le opened. inl opened;
    covered = λ t le all. all;
    kept = λ files has. has;
  }

  pub stores_on : (result : Result Receipt StoreFault) → StoresBy (is_told was.known.seen) (shown_in is.shown.items) taken was.known is.known result
      → StoresOn false taken (told_at was) (told_at is) result
  stores_on result stores = record {
    leaves = leaves_by result stores;
    faults = counts was is same shown (number_if result) (is_store_fault result) (store_left taken was.known is.known begun alone (shown_in is.shown.items) result stores);
    reading = λ alone. absurd (true≢false (sym alone));
    crash = may_leave result;
  }
