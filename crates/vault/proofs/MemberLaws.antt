-- Passes of a vault: as they are made, and as they stay.
use Rattle.std.proofs.Common.{◌≡◌, ℕ, zero, suc, ◌+◌, ◌<◌, ◌≤◌, Bool, false, IsTrue, if◌then◌else◌, List, [], ◌∷◌, ◌++◌, length, Result, ne_eqb, refl, sym, ap, subst, ◌∙◌, arith}
use Rattle.std.specs.Prelude.{IfSome, Option, None, Some, slice_get}
use Rattle.std.specs.List as list
use Rattle.capture.specs.declared.book.Book.{Book}
use Rattle.capture.specs.declared.limits.Limits.{Limits}
use Rattle.capture.specs.declared.captured.Brought.{Brought}
use Rattle.capture.specs.declared.captured.Taken.{Taken}
use Rattle.warc_text.specs.Sound.{IsSound}
use Rattle.archive_shelf.specs.Answers.{NamesKeeper, is_bring_fault, is_store_fault}
use Rattle.archive_shelf.specs.Digests.{GoesByDigest, PieceGoesByDigest}
use Rattle.archive_shelf.specs.Told.{CatchesUp, ReadsOn, ShowsItsBook, StoresOn}
use Rattle.archive_shelf.specs.declared.fault.BringFault.{BringFault}
use Rattle.archive_shelf.specs.declared.fault.StoreFault.{StoreFault}
use Rattle.archive_shelf.specs.declared.receipt.Receipt.{Receipt}
use Rattle.archive_shelf.proofs.EarlierShowing.{shows_earlier}
use Rattle.index_entry.specs.Facts.{Facts}
use Rattle.history_lock.specs.Known.{IsSamePass, Known, LockId}
use Rattle.history_lock.specs.Seen.{Turn}
use Rattle.vault_lists.specs.Items.{shown_in}
use Rattle.vault.specs.Company.{Passing, told_at}
use Rattle.vault_turns.specs.History.{IsBegun, IsOpening, by_of, is_told, told_book, told_limits}
use Rattle.vault.specs.Members.{AreMembers, AreNewMembers, IsMember, IsMemberAt, IsNewMember, VaultName, name_of}
use Rattle.vault_turns.specs.Listing.{HasEntries}
use Rattle.vault.specs.Orderly.{IsOrderly}
use Rattle.vault_turns.specs.Own.{count_faults, own_captures, own_faults}
use Rattle.vault.specs.Passes.{IsNew}
use Rattle.vault_turns.specs.Turns.{AddsFaultAlone, AddsNone, BringsIt, GivesIt, StoresBy}
use Rattle.vault_turns.specs.declared.noted.Noted.{Noted}
use Rattle.vault_turns.specs.declared.noted.Sure.{Sure}
use Rattle.vault_turns.proofs.FaultLaws.{one_if}
use Rattle.vault.proofs.OrderlyLaws.{fault_at_most, named_begun, new_are_orderly, reads_keep, stores_keep}
use Rattle.vault.proofs.PassLaws.{all_of}
use Rattle.vault.proofs.SharingLaws.{among_one}
use Rattle.vault.proofs.ShelfLaws.{Leaves, number_if, read_book, read_turn, reads_on, shows_book}
use Rattle.vault.proofs.StoredLaws.{store_left, store_sound, stores_on}

pub member_same : (vault : VaultName) (was is : Known Noted) → is ≡ was → IsMember vault was → IsMember vault is
member_same vault was is same member = subst (λ (p : Known Noted). IsMember vault p) (sym same) member

-- ---- as they are made

opening_book : (book : Book) (limits : Limits) (seen : List Noted) → IsOpening book limits seen → told_book seen ≡ book
opening_book book limits [] opens = absurd opens
opening_book book limits (noted ∷ []) opens = opens.1
opening_book book limits (noted ∷ next ∷ others) opens = absurd opens

opening_limits : (book : Book) (limits : Limits) (seen : List Noted) → IsOpening book limits seen → told_limits seen ≡ limits
opening_limits book limits [] opens = absurd opens
opening_limits book limits (noted ∷ []) opens = opens.2
opening_limits book limits (noted ∷ next ∷ others) opens = absurd opens

within_by : {A : Type 0} (P Q : A → Type 0) (xs : List A) (k : ℕ) → ((x : A) → k < length xs → P x → Q x) → IfSome (slice_get xs k) P → IfSome (slice_get xs k) Q
within_by P Q [] k step h = tt
within_by P Q (x ∷ xs) zero step h = step x (omega arith) h
within_by P Q (x ∷ xs) (suc k) step h = within_by P Q xs k (λ y less. step y (omega (arith, less))) h

module _ (tells : Bool) (sure : Sure) (faults : ℕ) (lock : LockId) (passes : ℕ) (book : Book) (limits : Limits) where
  abbrev pub named_so : VaultName
  named_so = record { lock = lock; passes = passes; book = book; limits = limits; tells = tells; faults = faults; sure = sure }

  new_member : (IsTrue tells → IsSound book) → (number : ℕ) → 1 ≤ number → number ≤ passes → (p : Passing) → IsNew tells sure faults lock passes number book limits p
      → IsNewMember named_so number p
  new_member sound number low high p new =
      let book_is = opening_book book limits p.known.seen new.made.opens in
      record {
        member = record {
          lock_is = ap (λ (k : Known Noted). k.lock) new.made.is;
          count = ap (λ (k : Known Noted). k.passes) new.made.is;
          alone = ap (λ (k : Known Noted). k.numbers) new.made.is ∙ ap (λ (n : ℕ). n ∷ []) (sym (ap (λ (k : Known Noted). k.number) new.made.is));
          orderly = new_are_orderly lock passes number book limits p.known low high new.made;
          limits_are = opening_limits book limits p.known.seen new.made.opens;
          told = new.told;
          given = new.given;
          sure = new.sure_is;
          sound = λ t. subst (λ (b : Book). IsSound b) (sym book_is) (sound t);
        };
        number_is = ap (λ (k : Known Noted). k.number) new.made.is;
        book_is = book_is;
        opens = new.made.opens;
        shows = new.shows;
      }

  name_is : (made : List Passing) → 0 < length made → 0 < passes → ((k : ℕ) → IfSome (slice_get made k) (IsNew tells sure faults lock passes (k + 1) book limits))
      → name_of lock made ≡ named_so
  name_is [] some many each = absurd (omega (arith, some))
  name_is (p ∷ others) some many each =
      let first : IsNew tells sure faults lock passes 1 book limits p = each zero in
      λ i. record {
        lock = lock;
        passes = ap (λ (k : Known Noted). k.passes) first.made.is i;
        book = (new_are_orderly lock passes 1 book limits p.known (omega arith) many first.made).given i;
        limits = opening_limits book limits p.known.seen first.made.opens i;
        tells = first.told i;
        faults = first.given i;
        sure = first.sure_is i;
      }

  module _ (sound : IsTrue tells → IsSound book) (many : 0 < passes) (made : List Passing) (count : length made ≡ passes)
      (each : (k : ℕ) → IfSome (slice_get made k) (IsNew tells sure faults lock passes (k + 1) book limits)) where
    pub new_name : name_of lock made ≡ named_so
    new_name = name_is made (omega (arith, many, count)) many each

    pub new_members : AreNewMembers (name_of lock made) made
    new_members = subst (λ (v : VaultName). AreNewMembers v made) (sym new_name) (record {
      count = count;
      each = λ k. within_by (IsNew tells sure faults lock passes (k + 1) book limits) (IsNewMember named_so (k + 1)) made k
          (λ p less new. new_member sound (k + 1) (omega arith) (omega (arith, less, count)) p new) (each k);
    })

member_if : (vault : VaultName) (number : ℕ) (pass : Option Passing) → IfSome pass (IsNewMember vault number) → IfSome pass (λ p. IsMember vault p.known)
member_if vault number None new = tt
member_if vault number (Some p) new = new.member

pub members_all : (vault : VaultName) (passes : List Passing) → AreNewMembers vault passes → list.All (λ (p : Passing). IsMember vault p.known) passes
members_all vault passes new =
    all_of (λ (p : Passing). IsMember vault p.known) passes (λ k. member_if vault (k + 1) (slice_get passes k) (new.each k))

-- ---- of a new one nothing is its own yet

opening_captures : (numbers : List ℕ) (book : Book) (limits : Limits) (seen : List Noted) → IsOpening book limits seen → own_captures numbers seen ≡ []
opening_captures numbers book limits [] opens = absurd opens
opening_captures numbers book limits (noted ∷ []) opens = refl
opening_captures numbers book limits (noted ∷ next ∷ others) opens = absurd opens

opening_faults : (number : ℕ) → 1 ≤ number → (book : Book) (limits : Limits) (seen : List Noted) → IsOpening book limits seen → own_faults (number ∷ []) seen ≡ 0
opening_faults number low book limits [] opens = absurd opens
opening_faults number low book limits (noted ∷ []) opens =
    let none = opens.0 in
    ap (λ (b : Bool). count_faults (if b then noted ∷ [] else []))
    (among_one number noted.by false (ne_eqb noted.by number (λ e. absurd (omega (arith, e, low, none)))))
opening_faults number low book limits (noted ∷ next ∷ others) opens = absurd opens

module _ (vault : VaultName) (number : ℕ) (pass : Passing) (new : IsNewMember vault number pass) where
  pub new_captures : own_captures pass.known.numbers pass.known.seen ≡ []
  new_captures = opening_captures pass.known.numbers vault.book vault.limits pass.known.seen new.opens

  pub new_faults : own_faults pass.known.numbers pass.known.seen ≡ 0
  new_faults =
      ap (λ (ns : List ℕ). own_faults ns pass.known.seen) new.member.alone
      ∙ opening_faults pass.known.number new.member.orderly.numbered.0 vault.book vault.limits pass.known.seen new.opens

at_if : (vault : VaultName) (number : ℕ) (pass : Option Passing) → IfSome pass (IsNewMember vault number) → IfSome pass (IsMemberAt vault number)
at_if vault number None new = tt
at_if vault number (Some p) new = record { member = new.member; number_is = new.number_is }

pub new_are_members : (vault : VaultName) (passes : List Passing) → AreNewMembers vault passes → AreMembers vault passes
new_are_members vault passes new = record { count = new.count; each = λ k. at_if vault (k + 1) (slice_get passes k) (new.each k) }

-- ---- as they stay

pub member_begun : (vault : VaultName) (pass : Known Noted) → IsMember vault pass → IsBegun pass.seen
member_begun vault pass member = named_begun pass.passes pass.seen member.orderly.named

module _ (vault : VaultName) (was is : Known Noted) (same : IsSamePass was is) (member : IsMember vault was) where
  stays_member : (stored : List ℕ) (faults : ℕ) → IsOrderly vault.book is → Leaves was.numbers was.seen is.seen stored faults
      → (IsTrue (is_told was.seen) → IsSound (told_book is.seen)) → IsMember vault is
  stays_member stored faults orderly leaves sound = record {
    lock_is = same.0 ∙ member.lock_is;
    count = same.3 ∙ member.count;
    alone = same.2 ∙ (member.alone ∙ ap (λ (n : ℕ). n ∷ []) (sym same.1));
    orderly = orderly;
    limits_are = leaves.limits ∙ member.limits_are;
    told = leaves.told ∙ member.told;
    given = leaves.given ∙ member.given;
    sure = leaves.sure ∙ member.sure;
    sound = λ t. sound (subst (λ (b : Bool). IsTrue b) (sym member.told) t);
  }

  was_sound : IsTrue (is_told was.seen) → IsSound (told_book was.seen)
  was_sound t = member.sound (subst (λ (b : Bool). IsTrue b) member.told t)

  pub member_stored : (entries : List Facts) (taken : Taken) (result : Result Receipt StoreFault) → StoresBy (is_told was.seen) entries taken was is result
      → IsMember vault is
  member_stored entries taken result stores =
      stays_member (number_if result) (one_if (is_store_fault result))
      (stores_keep vault.book (is_told was.seen) entries taken was is result same stores member.orderly)
      (store_left taken was is (member_begun vault was member) member.alone entries result stores)
      (store_sound taken was is (member_begun vault was member) member.alone entries result stores was_sound)

  pub member_read : (does : List Noted → List Noted → Type 0) (failed : Bool) → Turn by_of was is.seen does
      → ((found added : List Noted) → does found added → AddsFaultAlone failed added)
      → ((found added : List Noted) → does found added → IsTrue (is_told was.seen) → IsSound (told_book (found ++ added))) → IsMember vault is
  member_read does failed turn fault sound =
      stays_member [] (one_if failed)
      (reads_keep vault.book was is same (fault_at_most was is.seen does turn (λ found added done. (failed, fault found added done))) member.orderly)
      (read_turn was is.seen does (member_begun vault was member) member.alone turn failed fault)
      (λ t. subst (λ (l : List Noted). IsSound (told_book l)) (sym turn.adds.is_before_and_added) (sound turn.found turn.adds.added turn.adds.done t))

-- ---- as shelves

pub at_shows : (vault : VaultName) (is : Passing) → IsMember vault is.known → ShowsItsBook false (told_at is)
at_shows vault is member = shows_book is (λ t. member.sound (subst (λ (b : Bool). IsTrue b) member.told t))

module _ (vault : VaultName) (was is : Passing) (same : IsSamePass was.known is.known) (shown : is.shown ≡ was.shown) (member : IsMember vault was.known) where
  pub at_stores : (taken : Taken) (result : Result Receipt StoreFault) → StoresBy (is_told was.known.seen) (shown_in is.shown.items) taken was.known is.known result
      → StoresOn false taken (told_at was) (told_at is) result
  at_stores taken result stores = stores_on taken was is same shown (member_begun vault was.known member) member.alone result stores

  module _ (number : ℕ) (result : Result Brought BringFault)
      (turn : Turn by_of was.known is.known.seen (λ found added. BringsIt (is_told was.known.seen) (shown_in is.shown.items) number found added result)) where
    pub bring_member : IsMember vault is.known
    bring_member = member_read vault was.known is.known same member _ (is_bring_fault result) turn (λ found added done. done.adds) (λ found added done. done.sound)

    pub bring_reads : ReadsOn false (is_bring_fault result) (told_at was) (told_at is)
    bring_reads =
        reads_on was is same shown (is_bring_fault result)
        (read_turn was.known is.known.seen _ (member_begun vault was.known member) member.alone turn (is_bring_fault result) (λ found added done. done.adds))

    bring_book : told_book is.known.seen ≡ told_book turn.found
    bring_book = read_book was.known is.known.seen _ (member_begun vault was.known member) member.alone turn (is_bring_fault result) (λ found added done. done.adds)

    pub bring_names : NamesKeeper (told_book is.known.seen) number result
    bring_names = subst (λ (b : Book). NamesKeeper b number result) (sym bring_book) turn.adds.done.names

    pub bring_digests : GoesByDigest (told_book is.known.seen) number result
    bring_digests = subst (λ (b : Book). GoesByDigest b number result) (sym bring_book) turn.adds.done.digests

  module _ (number : ℕ) (result : Result (List ℕ) BringFault)
      (turn : Turn by_of was.known is.known.seen (λ found added. GivesIt (is_told was.known.seen) (shown_in is.shown.items) number found added result)) where
    pub piece_member : IsMember vault is.known
    piece_member = member_read vault was.known is.known same member _ (is_bring_fault result) turn (λ found added done. done.adds) (λ found added done. done.sound)

    pub piece_reads : ReadsOn false (is_bring_fault result) (told_at was) (told_at is)
    piece_reads =
        reads_on was is same shown (is_bring_fault result)
        (read_turn was.known is.known.seen _ (member_begun vault was.known member) member.alone turn (is_bring_fault result) (λ found added done. done.adds))

    piece_book : told_book is.known.seen ≡ told_book turn.found
    piece_book = read_book was.known is.known.seen _ (member_begun vault was.known member) member.alone turn (is_bring_fault result) (λ found added done. done.adds)

    pub piece_digests : PieceGoesByDigest (told_book is.known.seen) number result
    piece_digests = subst (λ (b : Book). PieceGoesByDigest b number result) (sym piece_book) turn.adds.done.digests

  module _ (turn : Turn by_of was.known is.known.seen (λ found added. AddsNone (is_told was.known.seen) found added)) where
    pub flush_member : IsMember vault is.known
    flush_member = member_read vault was.known is.known same member _ false turn (λ found added done. done.none) (λ found added done. done.sound)

    flush_reads : ReadsOn false false (told_at was) (told_at is)
    flush_reads =
        reads_on was is same shown false
        (read_turn was.known is.known.seen _ (member_begun vault was.known member) member.alone turn false (λ found added done. done.none))

    pub flush_catches : (IsTrue (is_told was.known.seen) → HasEntries (told_book was.known.seen)) → CatchesUp false (told_at was) (told_at is)
    flush_catches has = record {
      reads = flush_reads;
      knows = λ tells shown knows.
          let entries = has tells in
          shows_earlier (told_book was.known.seen) (told_book is.known.seen) entries.0 shown entries.1 flush_reads.stays.seen knows;
      consistent = λ before. (at_shows vault is flush_member).consistent;
    }
