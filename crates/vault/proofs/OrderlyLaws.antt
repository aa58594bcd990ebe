-- Passes are orderly from the beginning on.
use Rattle.std.proofs.Common.{◌≡◌, ◌≢◌, ◌⊎◌, ℕ, suc, ◌≤◌, Bool, true, false, List, [], ◌∷◌, ◌++◌, length, Result, Ok, Err, inl, inr, refl, sym, ap, subst, ◌∙◌, length-append, suc-ne-zero, arith}
use mathlib.Core.Bool.{true≢false}
use Rattle.capture.specs.declared.book.Book.{Book}
use Rattle.capture.specs.declared.book.Volume.{Volume}
use Rattle.capture.specs.declared.captured.Stored as stored
use Rattle.capture.specs.declared.captured.Taken.{Taken}
use Rattle.archive_shelf.specs.Storing.{add_to_last, as_stored, new_volume, with_capture, with_volume}
use Rattle.archive_shelf.specs.declared.fault.StoreFault.{StoreFault}
use Rattle.archive_shelf.specs.declared.fault.StoreFault.TheVariants as stores
use Rattle.archive_shelf.specs.declared.looked.Looked.{Looked}
use Rattle.archive_shelf.specs.declared.receipt.Receipt.{Receipt}
use Rattle.archive_payloads.specs.Choosing.{is_look_fault}
use Rattle.history_lock.specs.Known.{IsSamePass, Known}
use Rattle.history_lock.specs.Seen.{All, IsOther, Shows, Turn}
use Rattle.vault_turns.specs.History.{IsBegun, IsOpening, after_kind, book_after, by_of, opened_book, told_book}
use Rattle.vault.specs.Orderly.{AddsFaultAtMost, ArePlaced, HavePlaces, IsOrderly, IsPlaced, NamePasses, NamesPass, NewPassesAreOrderly, ReadsKeepOrder, StoresKeepOrder, given_book}
use Rattle.vault_turns.specs.Turns.{AddsFaultAlone, BeginsAtMost, CommitAnswers, IsStoring}
use Rattle.vault_turns.specs.declared.noted.Kind.{Kind}
use Rattle.vault_turns.specs.declared.noted.Kind.TheVariants.{Opened, Began, Stored, Failed}
use Rattle.vault_turns.specs.declared.noted.Noted.{Noted}
use Rattle.vault_turns.proofs.HistoryLaws.{after_append, told_append}
use Rattle.vault.proofs.OwnLaws.{not_among}

-- ---- histories that go on

pub all_append : {A : Type 0} (P : A → Type 0) (xs ys : List A) → All P xs → All P ys → All P (xs ++ ys)
all_append P [] ys front back = back
all_append P (x ∷ xs) ys front back = (front.0, all_append P xs ys front.1 back)

pub others_named : (passes : ℕ) (numbers : List ℕ) (more : List Noted) → All (IsOther by_of passes numbers) more → All (NamesPass passes) more
others_named passes numbers [] others = tt
others_named passes numbers (noted ∷ more) others = ((others.0.1, others.0.2), others_named passes numbers more others.1)

of_pass_named : (passes number : ℕ) (added : List Noted) → (1 ≤ number) × (number ≤ passes) → All (λ (n : Noted). n.by ≡ number) added
    → All (NamesPass passes) added
of_pass_named passes number [] numbered of_pass = tt
of_pass_named passes number (noted ∷ added) numbered of_pass = (
  (subst (λ n. 1 ≤ n) (sym of_pass.0) numbered.0, subst (λ n. n ≤ passes) (sym of_pass.0) numbered.1),
  of_pass_named passes number added numbered of_pass.1,
)

pub named_begun : (passes : ℕ) (xs : List Noted) → NamePasses passes xs → IsBegun xs
named_begun passes [] named = absurd named
named_begun passes (first ∷ others) named = tt

placed_append : (numbers : List ℕ) (book : Book) (xs ys : List Noted) → ArePlaced numbers book xs → ArePlaced numbers (book_after book xs) ys
    → ArePlaced numbers book (xs ++ ys)
placed_append numbers book [] ys front back = back
placed_append numbers book (x ∷ xs) ys front back = (front.0, placed_append numbers (after_kind book x.kind) xs ys front.1 back)

others_placed : (passes : ℕ) (numbers : List ℕ) (book : Book) (more : List Noted) → All (IsOther by_of passes numbers) more
    → ArePlaced numbers book more
others_placed passes numbers book [] others = tt
others_placed passes numbers book (noted ∷ more) others = (
  λ own. absurd (true≢false (sym own ∙ not_among numbers noted.by others.0.0)),
  others_placed passes numbers (after_kind book noted.kind) more others.1,
)

-- what is kept of what a pass has seen
abbrev pub Keeps : ℕ → List ℕ → Book → List Noted → Type 0
Keeps passes numbers book seen = (given_book seen ≡ book) × NamePasses passes seen × HavePlaces numbers seen

keeps_more : (passes : ℕ) (numbers : List ℕ) (book : Book) (seen more : List Noted) → Keeps passes numbers book seen
    → All (NamesPass passes) more → ArePlaced numbers (told_book seen) more → Keeps passes numbers book (seen ++ more)
keeps_more passes numbers book [] more keeps named placed = absurd keeps.1
keeps_more passes numbers book (first ∷ others) more keeps named placed = (
  keeps.0,
  (keeps.1.0, all_append (NamesPass passes) others more keeps.1.1 named),
  placed_append numbers (opened_book first.kind) others more keeps.2 placed,
)

-- what is shown of it
pub keeps_shown : (passes : ℕ) (numbers : List ℕ) (book : Book) (seen history : List Noted) → Keeps passes numbers book seen
    → Shows by_of passes numbers seen history → Keeps passes numbers book history
keeps_shown passes numbers book seen history keeps shows =
    subst (λ (l : List Noted). Keeps passes numbers book l) (sym shows.is_seen_and_more)
    (keeps_more passes numbers book seen shows.more keeps (others_named passes numbers shows.more shows.of_others)
    (others_placed passes numbers (told_book seen) shows.more shows.of_others))

-- ---- a turn

module _ (book : Book) (was : Known Noted) (order : IsOrderly book was) where
  before : Keeps was.passes was.numbers book was.seen
  before = (order.given, order.named, order.placed)

  turn_keeps : (after : List Noted) (does : List Noted → List Noted → Type 0) → Turn by_of was after does
      → ((found added : List Noted) → IsBegun found → does found added → ArePlaced was.numbers (told_book found) added)
      → Keeps was.passes was.numbers book after
  turn_keeps after does turn places =
      let found = keeps_shown was.passes was.numbers book was.seen turn.found before turn.shows in
      subst (λ (l : List Noted). Keeps was.passes was.numbers book l) (sym turn.adds.is_before_and_added)
      (keeps_more was.passes was.numbers book turn.found turn.adds.added found
      (of_pass_named was.passes was.number turn.adds.added order.numbered turn.adds.of_pass)
      (places turn.found turn.adds.added (named_begun was.passes turn.found found.1) turn.adds.done))

  again : (seen : List Noted) → Keeps was.passes was.numbers book seen → IsOrderly book (record was { seen = seen })
  again seen keeps = record { given = keeps.0; numbered = order.numbered; named = keeps.1; placed = keeps.2 }

  same_again : (is : Known Noted) → IsSamePass was is → Keeps was.passes was.numbers book is.seen → IsOrderly book is
  same_again is same keeps =
      let next : record was { seen = is.seen } ≡ is
      = λ i. record { lock = sym same.0 i; number = sym same.1 i; numbers = sym same.2 i; passes = sym same.3 i; seen = is.seen } in
      subst (λ (p : Known Noted). IsOrderly book p) next (again is.seen keeps)

-- ---- a turn that adds a fault at most

fault_placed : (numbers : List ℕ) (book : Book) (failed : Bool) (added : List Noted) → AddsFaultAlone failed added → ArePlaced numbers book added
fault_placed numbers book true (noted ∷ []) tells = (λ own. subst (λ (k : Kind). IsPlaced book k) (sym tells) tt, tt)
fault_placed numbers book true [] tells = absurd tells
fault_placed numbers book true (noted ∷ next ∷ others) tells = absurd tells
fault_placed numbers book false added none = subst (λ (l : List Noted). ArePlaced numbers book l) (sym none) tt

pub reads_keep : ReadsKeepOrder
reads_keep book was is same turn order =
    same_again book was order is same (turn_keeps book was order is.seen _ turn
    (λ found added begun fault. fault_placed was.numbers (told_book found) fault.0 added fault.1))

-- what a turn does beside that
pub fault_at_most : (was : Known Noted) (after : List Noted) (does : List Noted → List Noted → Type 0) → Turn by_of was after does
    → ((found added : List Noted) → does found added → AddsFaultAtMost added) → Turn by_of was after (λ found added. AddsFaultAtMost added)
fault_at_most was after does turn adds = record {
  found = turn.found;
  shows = turn.shows;
  adds = record {
    added = turn.adds.added;
    is_before_and_added = turn.adds.is_before_and_added;
    of_pass = turn.adds.of_pass;
    done = adds turn.found turn.adds.added turn.adds.done;
  };
}

-- ---- a turn that stores a capture

begun_placed : (numbers : List ℕ) (book : Book) (at : ℕ) (begun : List Noted) → BeginsAtMost at begun → ArePlaced numbers book begun
begun_placed numbers book at [] begins = tt
begun_placed numbers book at (noted ∷ []) begins = (λ own. subst (λ (k : Kind). IsPlaced book k) (sym begins) tt, tt)
begun_placed numbers book at (noted ∷ next ∷ others) begins = absurd begins

length_last : (volumes : List Volume) (x : stored.Stored) → length (add_to_last volumes x) ≡ length volumes
length_last [] x = refl
length_last (last ∷ []) x = refl
length_last (first ∷ next ∷ others) x = ap (λ (n : ℕ). suc n) (length_last (next ∷ others) x)

none_of : (volumes : List Volume) → length volumes ≡ 0 → volumes ≡ []
none_of [] none = refl
none_of (v ∷ vs) none = absurd (suc-ne-zero (length vs) none)

room_some : (old room : Book) (at : ℕ) → ((old.volumes ≢ []) × (room ≡ old)) ⊎ (room ≡ with_volume old at) → room.volumes ≢ []
room_some old room at (inl same) = λ none. same.0 (ap (λ (b : Book). b.volumes) (sym same.1) ∙ none)
room_some old room at (inr more) =
    λ none. let long = length-append old.volumes (new_volume at ∷ []) in
    let short : length (old.volumes ++ new_volume at ∷ []) ≡ 0 = ap (λ (b : Book). length b.volumes) (sym more) ∙ ap (λ (l : List Volume). length l) none in
    suc-ne-zero (length old.volumes) (omega (arith, long, short))

kind_placed : (book room : Book) (kind : Kind) (taken : Taken) (same : _) (x : stored.Stored) → IsStoring taken same kind → room.volumes ≢ []
    → after_kind book kind ≡ with_capture room x → IsPlaced book kind
kind_placed book room (Stored kept as_same) taken same x storing some gained =
    λ none. some (none_of room.volumes
    (sym (length_last room.volumes x) ∙ (ap (λ (b : Book). length b.volumes) (sym gained)
    ∙ (length_last book.volumes (as_stored kept.value as_same) ∙ ap (λ (l : List Volume). length l) none))))
kind_placed book room (Opened held limits told list faults sure) taken same x storing some gained = absurd storing
kind_placed book room (Began at) taken same x storing some gained = absurd storing
kind_placed book room Failed taken same x storing some gained = absurd storing

commit_placed : (numbers : List ℕ) (tells : Bool) (taken : Taken) (found added : List Noted) (result : Result Receipt StoreFault) → IsBegun found
    → CommitAnswers tells taken found added result → ArePlaced numbers (told_book found) added
commit_placed numbers tells taken found added (Ok receipt) begun done =
    let all = done.adds.all in
    let first = done.adds.begun in
    let last = done.adds.stored in
    let book = told_book found in
    let gained : after_kind (book_after book first) last.kind ≡ with_capture done.gained.room (as_stored taken receipt.same_as)
    = sym (after_append book first (last ∷ [])) ∙ (ap (λ (l : List Noted). book_after book l) (sym all)
    ∙ (sym (told_append found added begun) ∙ done.gained.gained)) in
    subst (λ (l : List Noted). ArePlaced numbers book l) (sym all)
    (placed_append numbers book first (last ∷ []) (begun_placed numbers book taken.date first done.adds.begins) (
      λ own. kind_placed (book_after book first) done.gained.room last.kind taken receipt.same_as (as_stored taken receipt.same_as) done.adds.stores
          (room_some book done.gained.room taken.date done.gained.roomy) gained,
      tt,
    ))
commit_placed numbers tells taken found added (Err (stores.Full count limit)) begun done =
    subst (λ (l : List Noted). ArePlaced numbers (told_book found) l) (sym done.0) tt
commit_placed numbers tells taken found added (Err stores.DiskFault) begun done =
    let book = told_book found in
    subst (λ (l : List Noted). ArePlaced numbers book l) (sym done.adds.all)
    (placed_append numbers book done.adds.begun (done.adds.failed ∷ []) (begun_placed numbers book taken.date done.adds.begun done.adds.begins)
    (λ own. subst (λ (k : Kind). IsPlaced (book_after book done.adds.begun) k) (sym done.adds.fails) tt, tt))
commit_placed numbers tells taken found added (Err (stores.Damaged number kept digest)) begun done =
    subst (λ (l : List Noted). ArePlaced numbers (told_book found) l) (sym done.0) tt
commit_placed numbers tells taken found added (Err stores.Memory) begun done =
    subst (λ (l : List Noted). ArePlaced numbers (told_book found) l) (sym done) tt

pub stores_keep : StoresKeepOrder
stores_keep book tells entries taken was is result same (inl none) order = subst (λ (p : Known Noted). IsOrderly book p) (sym none.1) order
stores_keep book tells entries taken was is result same (inr (inl early)) order =
    same_again book was order is same (turn_keeps book was order is.seen _ early.2.turn
    (λ found added begun done. fault_placed was.numbers (told_book found) (is_look_fault {T = Looked} (Err early.0)) added done.adds))
stores_keep book tells entries taken was is result same (inr (inr done)) order =
    let looked = turn_keeps book was order done.middle _ done.looks
    (λ found added begun none. subst (λ (l : List Noted). ArePlaced was.numbers (told_book found) l) (sym none) tt) in
    same_again book was order is same (turn_keeps book (record was { seen = done.middle }) (again book was order done.middle looked) is.seen _ done.turn
    (λ found added begun h. commit_placed was.numbers tells taken found added result begun h.answers))

-- ---- a pass as it is made

opens_keeps : (passes : ℕ) (numbers : List ℕ) (book : Book) (seen : List Noted) (limits : _) → IsOpening book limits seen → Keeps passes numbers book seen
opens_keeps passes numbers book (noted ∷ []) limits opens = (opens.1, (opens.0, tt), tt)
opens_keeps passes numbers book [] limits opens = absurd opens
opens_keeps passes numbers book (noted ∷ next ∷ others) limits opens = absurd opens

pub new_are_orderly : NewPassesAreOrderly
new_are_orderly lock passes number book limits pass low high made =
    let keeps = opens_keeps passes (number ∷ []) book pass.seen limits made.opens in
    subst (λ (p : Known Noted). IsOrderly book p) (sym made.is)
    (record { given = keeps.0; numbered = (low, high); named = keeps.1; placed = keeps.2 })
