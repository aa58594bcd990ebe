-- Histories that go on.
use Rattle.std.proofs.Common.{◌≡◌, Bool, List, [], ◌∷◌, ◌++◌, refl, sym, subst}
use Rattle.capture.specs.Growth.{Grows}
use Rattle.capture.specs.GrowthLaws.{GrowsFromItself, GrowthGoesOn}
use Rattle.capture.specs.declared.book.Book.{Book}
use Rattle.archive_shelf.specs.Contents.{Contents}
use Rattle.archive_shelf.specs.Storing.{as_stored}
use Rattle.archive_shelf.proofs.StoringLaws.{capture_grows, volume_grows}
use Rattle.history_lock.specs.Known.{Known}
use Rattle.history_lock.specs.Seen.{Turn}
use Rattle.archive_core.specs.Holdings.{Holdings, contents_of}
use Rattle.vault_turns.specs.History.{IsBegun, after_kind, by_of, book_after, given_faults, is_told, opened_book, sure_in, told_book, told_limits}
use Rattle.vault_turns.specs.declared.noted.Kind.{Kind}
use Rattle.vault_turns.specs.declared.noted.Kind.TheVariants.{Opened, Began, Stored, Failed}
use Rattle.vault_turns.specs.declared.noted.Noted.{Noted}

pub after_append : (book : Book) (xs ys : List Noted) → book_after book (xs ++ ys) ≡ book_after (book_after book xs) ys
after_append book [] ys = refl
after_append book (x ∷ xs) ys = after_append (after_kind book x.kind) xs ys

-- the book of a history that goes on
pub told_append : (xs ys : List Noted) → IsBegun xs → told_book (xs ++ ys) ≡ book_after (told_book xs) ys
told_append [] ys begun = absurd begun
told_append (x ∷ xs) ys begun = after_append (opened_book x.kind) xs ys

pub limits_append : (xs ys : List Noted) → IsBegun xs → told_limits (xs ++ ys) ≡ told_limits xs
limits_append [] ys begun = absurd begun
limits_append (x ∷ xs) ys begun = refl

pub told_stays : (xs ys : List Noted) → IsBegun xs → is_told (xs ++ ys) ≡ is_told xs
told_stays [] ys begun = absurd begun
told_stays (x ∷ xs) ys begun = refl

pub given_stays : (xs ys : List Noted) → IsBegun xs → given_faults (xs ++ ys) ≡ given_faults xs
given_stays [] ys begun = absurd begun
given_stays (x ∷ xs) ys begun = refl

pub sure_stays : (xs ys : List Noted) → IsBegun xs → sure_in (xs ++ ys) ≡ sure_in xs
sure_stays [] ys begun = absurd begun
sure_stays (x ∷ xs) ys begun = refl

-- what an archive is told, if it were told so
abbrev pub as_told : {D : Type 0} → Bool → Holdings D → Contents
as_told told held = record (contents_of held) { tells = told }

pub begun_append : (xs ys : List Noted) → IsBegun xs → IsBegun (xs ++ ys)
begun_append [] ys begun = absurd begun
begun_append (x ∷ xs) ys begun = tt

kind_grows : GrowsFromItself → (book : Book) (kind : Kind) → Grows book (after_kind book kind)
kind_grows itself book (Opened held limits told list faults sure) = itself book
kind_grows itself book (Began at) = volume_grows book at
kind_grows itself book (Stored taken same) = capture_grows book (as_stored taken.value same)
kind_grows itself book Failed = itself book

after_grows : GrowsFromItself → GrowthGoesOn → (book : Book) (xs : List Noted) → Grows book (book_after book xs)
after_grows itself goes_on book [] = itself book
after_grows itself goes_on book (x ∷ xs) =
    goes_on book (after_kind book x.kind) (book_after (after_kind book x.kind) xs)
    (kind_grows itself book x.kind) (after_grows itself goes_on (after_kind book x.kind) xs)

-- the book that a history tells grows
pub told_grows : GrowsFromItself → GrowthGoesOn → (xs ys : List Noted) → IsBegun xs → Grows (told_book xs) (told_book (xs ++ ys))
told_grows itself goes_on xs ys begun =
    subst (λ (book : Book). Grows (told_book xs) book) (sym (told_append xs ys begun)) (after_grows itself goes_on (told_book xs) ys)

-- a pass that has seen the first entry has seen it after each turn
pub turn_begun : (was : Known Noted) (after : List Noted) (does : List Noted → List Noted → Type 0) → Turn by_of was after does
    → IsBegun was.seen → IsBegun after
turn_begun was after does turn begun =
    subst IsBegun (sym turn.adds.is_before_and_added)
    (begun_append turn.found turn.adds.added (subst IsBegun (sym turn.shows.is_seen_and_more) (begun_append was.seen turn.shows.more begun)))
