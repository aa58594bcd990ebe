-- The history of a vault: the archive as it was given, and what the turns of its passes added. It tells one book.
use Rattle.std.specs.Prelude.{◌≡◌, ℕ, Bool, false, List, [], ◌∷◌}
use Rattle.capture.specs.declared.book.Book.{Book}
use Rattle.capture.specs.declared.limits.Limits.{Limits}
use Rattle.index_entry.specs.Facts.{Facts}
use Rattle.archive_shelf.specs.Contents.{Contents}
use Rattle.archive_shelf.specs.Storing.{as_stored, empty_book, with_capture, with_volume}
use Rattle.archive_core.specs.Stood.{none_stood}
use Rattle.archive_volumes.specs.Held.{book_of}
use Rattle.logbook.specs.Pages.{Book as LogBook}
use Rattle.vault_turns.specs.declared.noted.Kind.{Kind}
use Rattle.vault_turns.specs.declared.noted.Kind.TheVariants.{Opened, Began, Stored, Failed}
use Rattle.vault_turns.specs.declared.noted.Noted.{Noted}
use Rattle.vault_turns.specs.declared.noted.Sure.{Sure}

-- the number of the pass that added the entry
abbrev pub by_of : Noted → ℕ
by_of noted = noted.by

-- ---- the book

-- the book after an entry that isn't the first
abbrev pub after_kind : Book → Kind → Book
after_kind book (Opened held limits told list faults sure) = book
after_kind book (Began at) = with_volume book at
after_kind book (Stored taken same) = with_capture book (as_stored taken.value same)
after_kind book Failed = book

-- the book after these entries
abbrev pub book_after : Book → List Noted → Book
book_after book [] = book
book_after book (noted ∷ others) = book_after (after_kind book noted.kind) others

-- the book that the archive had when it was given
abbrev pub opened_book : Kind → Book
opened_book (Opened held limits told list faults sure) = book_of held.value
opened_book (Began at) = empty_book []
opened_book (Stored taken same) = empty_book []
opened_book Failed = empty_book []

-- the book that the history tells
abbrev pub told_book : List Noted → Book
told_book [] = empty_book []
told_book (noted ∷ others) = book_after (opened_book noted.kind) others

-- ---- the limits

abbrev pub limits_by : Kind → Limits
limits_by (Opened held limits told list faults sure) = limits
limits_by (Began at) = record { volume_bytes = 0; captures = 0 }
limits_by (Stored taken same) = record { volume_bytes = 0; captures = 0 }
limits_by Failed = record { volume_bytes = 0; captures = 0 }

-- the limits of the archive
abbrev pub told_limits : List Noted → Limits
told_limits [] = record { volume_bytes = 0; captures = 0 }
told_limits (noted ∷ others) = limits_by noted.kind

-- ---- whether the disk tells what it holds

abbrev pub tells_by : Kind → Bool
tells_by (Opened held limits told list faults sure) = told.value
tells_by (Began at) = false
tells_by (Stored taken same) = false
tells_by Failed = false

-- as the first entry says
abbrev pub is_told : List Noted → Bool
is_told [] = false
is_told (noted ∷ others) = tells_by noted.kind

-- ---- the faults of the disk

abbrev pub faults_by : Kind → ℕ
faults_by (Opened held limits told list faults sure) = faults
faults_by (Began at) = 0
faults_by (Stored taken same) = 0
faults_by Failed = 0

-- the disk's count of faults when the archive was given
abbrev pub given_faults : List Noted → ℕ
given_faults [] = 0
given_faults (noted ∷ others) = faults_by noted.kind

-- ---- what was sure of a crash

-- nothing is
abbrev pub not_sure : Sure
not_sure = record { calm = false; right = false; lasts = false; stood = none_stood }

abbrev pub sure_by : Kind → Sure
sure_by (Opened held limits told list faults sure) = sure.value
sure_by (Began at) = not_sure
sure_by (Stored taken same) = not_sure
sure_by Failed = not_sure

-- what was sure of a crash when the archive was given, as the first entry says
abbrev pub sure_in : List Noted → Sure
sure_in [] = not_sure
sure_in (noted ∷ others) = sure_by noted.kind

-- ---- the list that is published

abbrev pub NamesIn : Kind → LogBook → Type 0
NamesIn (Opened held limits told list faults sure) log = list.value.of ≡ log
NamesIn (Began at) log = ⊥
NamesIn (Stored taken same) log = ⊥
NamesIn Failed log = ⊥

-- the first entry names the list
abbrev pub Names : List Noted → LogBook → Type 0
Names [] log = ⊥
Names (noted ∷ others) log = NamesIn noted.kind log

-- a history names the list that an earlier one names
abbrev pub KeepsNames : List Noted → List Noted → Type 0
KeepsNames was is = (log : LogBook) → Names was log → Names is log

-- ---- what is told of a history

-- it has a first entry
abbrev pub IsBegun : List Noted → Type 0
IsBegun [] = ⊥
IsBegun (noted ∷ others) = Unit {0}

-- what an archive of this history tells, but for what is shown by date
abbrev pub told_in : Bool → List Noted → Contents
told_in tells history =
    record { tells = tells; seen = told_book history; shown = []; mine = []; limits = told_limits history }

-- the same, where these entries are shown
abbrev pub showing : List Facts → Bool → List Noted → Contents
showing entries tells history = record (told_in tells history) { shown = entries }

-- the history of an archive with this book and these limits, to which no turn has added anything
abbrev pub IsOpening : Book → Limits → List Noted → Type 0
IsOpening book limits [] = ⊥
IsOpening book limits (noted ∷ []) = (noted.by ≡ 0) × (opened_book noted.kind ≡ book) × (limits_by noted.kind ≡ limits)
IsOpening book limits (noted ∷ next ∷ others) = ⊥
