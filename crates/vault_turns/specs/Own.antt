-- What a pass did itself.
use Rattle.std.specs.Prelude.{◌≡◌, ℕ, ◌+◌, Bool, true, false, if◌then◌else◌, nat_eq, List, [], ◌∷◌, ◌++◌, length}
use Rattle.capture.specs.Captures.{captures}
use Rattle.capture.specs.Faults.{RoseBy}
use Rattle.capture.specs.declared.book.Book.{Book}
use Rattle.history_lock.specs.Seen.{Shows}
use Rattle.vault_turns.specs.History.{after_kind, by_of, given_faults, opened_book}
use Rattle.vault_turns.specs.declared.noted.Kind.{Kind}
use Rattle.vault_turns.specs.declared.noted.Kind.TheVariants.{Opened, Began, Stored, Failed}
use Rattle.vault_turns.specs.declared.noted.Noted.{Noted}

-- the number is one of these
abbrev pub is_among : List ℕ → ℕ → Bool
is_among [] n = false
is_among (m ∷ numbers) n = if nat_eq n m then true else is_among numbers n

-- the entries that were added under these numbers, in order
abbrev pub own_entries : List ℕ → List Noted → List Noted
own_entries numbers [] = []
own_entries numbers (noted ∷ others) =
    if is_among numbers noted.by then noted ∷ own_entries numbers others else own_entries numbers others

-- A history that goes on behind what a pass has seen has of that pass's own entries just those which it has seen, once each and in
-- their order.
abbrev pub OwnEntriesStay : Type 0
OwnEntriesStay =
    (passes : ℕ) (numbers : List ℕ) (seen history : List Noted) → Shows by_of passes numbers seen history
    → own_entries numbers history ≡ own_entries numbers seen

-- ---- its captures, by number

-- the number of a capture that is noted, which is the count of the book before it
abbrev pub number_by : ℕ → Kind → List ℕ
number_by count (Opened held limits told list faults sure) = []
number_by count (Began at) = []
number_by count (Stored taken same) = count ∷ []
number_by count Failed = []

-- the numbers of those that were stored under these numbers behind a book
abbrev pub own_behind : List ℕ → Book → List Noted → List ℕ
own_behind numbers book [] = []
own_behind numbers book (noted ∷ others) =
    (if is_among numbers noted.by then number_by (length (captures book)) noted.kind else [])
    ++ own_behind numbers (after_kind book noted.kind) others

-- the numbers of the captures that these passes stored, in the order of the history
abbrev pub own_captures : List ℕ → List Noted → List ℕ
own_captures numbers [] = []
own_captures numbers (first ∷ others) = own_behind numbers (opened_book first.kind) others

-- ---- the faults that it met

abbrev pub fault_by : Kind → ℕ
fault_by (Opened held limits told list faults sure) = 0
fault_by (Began at) = 0
fault_by (Stored taken same) = 0
fault_by Failed = 1

-- how many of the entries tell of a fault
abbrev pub count_faults : List Noted → ℕ
count_faults [] = 0
count_faults (noted ∷ others) = fault_by noted.kind + count_faults others

-- how many faults were met since the archive was given
abbrev pub faults_since : List Noted → ℕ
faults_since [] = 0
faults_since (first ∷ others) = count_faults others

-- the disk's count has risen by these at least since then, or stands at its end
abbrev pub AreCounted : List Noted → ℕ → Type 0
AreCounted history faults = RoseBy (faults_since history) (given_faults history) faults

-- how many faults these passes met
abbrev pub own_faults : List ℕ → List Noted → ℕ
own_faults numbers history = count_faults (own_entries numbers history)
