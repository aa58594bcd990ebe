-- What is brought, or given as a piece, goes with what is shown by date.
use Rattle.std.proofs.Common.{◌≡◌, ℕ, Bool, true, false, List, Result, refl, sym, ap, subst, ◌∙◌}
use mathlib.Core.List.{IsPrefix}
use Rattle.capture.specs.declared.captured.Brought.{Brought}
use Rattle.archive_shelf.specs.Answers.{Brings, is_bring_fault}
use Rattle.archive_shelf.specs.Pieces.{GivesPiece}
use Rattle.archive_shelf.specs.declared.fault.BringFault.{BringFault}
use Rattle.history_lock.specs.Known.{Known}
use Rattle.history_lock.specs.Seen.{Turn}
use Rattle.index_snapshot.specs.Edges.{Edge}
use Rattle.index_snapshot.specs.Entries.{entries_in}
use Rattle.vault_lists.specs.Items.{brings_of, shown_in}
use Rattle.vault_lists.specs.declared.item.Item.{Item}
use Rattle.vault.specs.Company.{contents_at}
use Rattle.vault_turns.specs.History.{IsBegun, by_of, is_told, showing, told_book}
use Rattle.vault_turns.specs.Turns.{AddsFaultAlone, BringsIt, GivesIt, held_back}
use Rattle.vault_turns.specs.declared.noted.Noted.{Noted}
use Rattle.vault_turns.proofs.AnswerLaws.{brings_as, brings_quiet, gives_as, gives_quiet, held_digests, held_fault, held_names, held_piece_digests}
use Rattle.vault_turns.proofs.HistoryLaws.{begun_append}
use Rattle.vault_turns.proofs.PublishLaws.{fault_added}
use Rattle.vault_turns.proofs.SeenLaws.{shown_there}

-- ---- a turn whose answer goes with what is shown, or is held back

module _ (tells : Bool) (note shown : List Item) (number : ℕ) (found added : List Noted) where
  bring_held : (agrees : Bool) → (agrees ≡ true → IsPrefix shown note) → (answer : Result Brought BringFault)
      → BringsIt tells (entries_in brings_of note) number found added answer → BringsIt tells (shown_in shown) number found added (held_back agrees answer)
  bring_held true begins answer h = record {
    brings = brings_as (showing (entries_in brings_of note) tells found) (showing (shown_in shown) tells found) refl refl (shown_there note shown (begins refl)) number answer
        h.brings;
    names = h.names;
    digests = h.digests;
    adds = h.adds;
    sound = h.sound;
  }
  bring_held false begins answer h = record {
    brings = brings_quiet (showing (entries_in brings_of note) tells found) (showing (shown_in shown) tells found) refl refl number answer h.brings;
    names = held_names (told_book found) number answer h.names;
    digests = held_digests (told_book found) number answer h.digests;
    adds = subst (λ (failed : Bool). AddsFaultAlone failed added) (sym (held_fault answer)) h.adds;
    sound = h.sound;
  }

  give_held : (agrees : Bool) → (agrees ≡ true → IsPrefix shown note) → (answer : Result (List ℕ) BringFault)
      → GivesIt tells (entries_in brings_of note) number found added answer → GivesIt tells (shown_in shown) number found added (held_back agrees answer)
  give_held true begins answer h = record {
    gives = gives_as (showing (entries_in brings_of note) tells found) (showing (shown_in shown) tells found) refl refl (shown_there note shown (begins refl)) number answer
        h.gives;
    digests = h.digests;
    adds = h.adds;
    sound = h.sound;
  }
  give_held false begins answer h = record {
    gives = gives_quiet (showing (entries_in brings_of note) tells found) (showing (shown_in shown) tells found) refl refl number answer h.gives;
    digests = held_piece_digests (told_book found) number answer h.digests;
    adds = subst (λ (failed : Bool). AddsFaultAlone failed added) (sym (held_fault answer)) h.adds;
    sound = h.sound;
  }

-- what a turn does, told otherwise
turn_as : (was : Known Noted) (after : List Noted) (P Q : List Noted → List Noted → Type 0) → ((found added : List Noted) → P found added → Q found added)
    → Turn by_of was after P → Turn by_of was after Q
turn_as was after P Q so turn = record {
  found = turn.found;
  shows = turn.shows;
  adds = record {
    added = turn.adds.added;
    is_before_and_added = turn.adds.is_before_and_added;
    of_pass = turn.adds.of_pass;
    done = so turn.found turn.adds.added turn.adds.done;
  };
}

module _ (was : Known Noted) (after : List Noted) (number : ℕ) (note shown : List Item) (agrees : Bool) (begins : agrees ≡ true → IsPrefix shown note) where
  pub turn_held : (answer : Result Brought BringFault)
      → Turn by_of was after (λ found added. BringsIt (is_told was.seen) (entries_in brings_of note) number found added answer)
      → Turn by_of was after (λ found added. BringsIt (is_told was.seen) (shown_in shown) number found added (held_back agrees answer))
  turn_held answer turn =
      turn_as was after (λ found added. BringsIt (is_told was.seen) (entries_in brings_of note) number found added answer)
      (λ found added. BringsIt (is_told was.seen) (shown_in shown) number found added (held_back agrees answer))
      (λ found added h. bring_held (is_told was.seen) note shown number found added agrees begins answer h) turn

  pub piece_held : (answer : Result (List ℕ) BringFault)
      → Turn by_of was after (λ found added. GivesIt (is_told was.seen) (entries_in brings_of note) number found added answer)
      → Turn by_of was after (λ found added. GivesIt (is_told was.seen) (shown_in shown) number found added (held_back agrees answer))
  piece_held answer turn =
      turn_as was after (λ found added. GivesIt (is_told was.seen) (entries_in brings_of note) number found added answer)
      (λ found added. GivesIt (is_told was.seen) (shown_in shown) number found added (held_back agrees answer))
      (λ found added h. give_held (is_told was.seen) note shown number found added agrees begins answer h) turn

-- ---- after the turn

-- the book is that which the turn found, where it added nothing but that the disk failed
book_found : (was : Known Noted) (after : List Noted) (begun : IsBegun was.seen) (does : List Noted → List Noted → Type 0) (turn : Turn by_of was after does) (failed : Bool)
    → AddsFaultAlone failed turn.adds.added → told_book after ≡ told_book turn.found
book_found was after begun does turn failed adds =
    ap told_book turn.adds.is_before_and_added
    ∙ fault_added turn.found (subst IsBegun (sym turn.shows.is_seen_and_more) (begun_append was.seen turn.shows.more begun)) failed turn.adds.added adds

module _ (was is : Known Noted) (shown : Edge Item) (begun : IsBegun was.seen) (told : is_told is.seen ≡ is_told was.seen) (number : ℕ) where
  pub turn_brings : (answer : Result Brought BringFault)
      → Turn by_of was is.seen (λ found added. BringsIt (is_told was.seen) (shown_in shown.items) number found added answer)
      → Brings (contents_at (record { known = is; shown = shown })) number answer
  turn_brings answer turn =
      brings_as (showing (shown_in shown.items) (is_told was.seen) turn.found) (contents_at (record { known = is; shown = shown }))
      (book_found was is.seen begun _ turn (is_bring_fault answer) turn.adds.done.adds) told (λ e has. has) number answer turn.adds.done.brings

  pub turn_gives : (answer : Result (List ℕ) BringFault)
      → Turn by_of was is.seen (λ found added. GivesIt (is_told was.seen) (shown_in shown.items) number found added answer)
      → GivesPiece (contents_at (record { known = is; shown = shown })) number answer
  turn_gives answer turn =
      gives_as (showing (shown_in shown.items) (is_told was.seen) turn.found) (contents_at (record { known = is; shown = shown }))
      (book_found was is.seen begun _ turn (is_bring_fault answer) turn.adds.done.adds) told (λ e has. has) number answer turn.adds.done.gives
