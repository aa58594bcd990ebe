-- What a turn tells of the list.
use Rattle.std.proofs.Common.{◌≡◌, ℕ, List, [], ◌++◌, Bool, IsTrue, refl, sym, ap, subst, ◌∙◌}
use Rattle.std.proofs.lemmas.List.{append-nil}
use Rattle.std.specs.Prelude.{OnOk, Result, Ok, Err}
use Rattle.warc_text.specs.Sound.{IsSound}
use Rattle.history_lock.specs.Known.{Known}
use Rattle.history_lock.specs.Seen.{Adds, Shows, Turn}
use Rattle.index_snapshot.specs.Edges.{Edge}
use Rattle.vault_lists.specs.declared.item.Item.{Item}
use Rattle.vault_turns.specs.History.{IsBegun, KeepsNames, Names, by_of, is_told, told_book}
use Rattle.vault_turns.specs.Listing.{IsListed}
use Rattle.vault_turns.specs.Turns.{AddsNone}
use Rattle.vault_turns.specs.declared.noted.Noted.{Noted}
use Rattle.vault_turns.proofs.HistoryLaws.{begun_append, told_stays}
use Rattle.vault_turns.proofs.PublishLaws.{names_append}

-- what was added, and the list as it stands then
pub adds_listed : (by : ℕ) (before after : List Noted) (does : List Noted → Type 0) (note : Edge Item) (whole : Bool) → Adds by_of by before after does
    → IsListed after note whole → Adds by_of by before after (λ added. does added × IsListed (before ++ added) note whole)
adds_listed by before after does note whole adds listed = record {
  added = adds.added;
  is_before_and_added = adds.is_before_and_added;
  of_pass = adds.of_pass;
  done = (adds.done, subst (λ (l : List Noted). IsListed l note whole) adds.is_before_and_added listed);
}

-- nothing was added
pub adds_none : (by : ℕ) (before after : List Noted) → after ≡ before → (IsTrue (is_told before) → IsSound (told_book before))
    → Adds by_of by before after (λ added. AddsNone (is_told before) before added)
adds_none by before after same sound = record {
  added = [];
  is_before_and_added = same ∙ sym (append-nil before);
  of_pass = tt;
  done = record { none = refl; sound = λ told. subst (λ (l : List Noted). IsSound (told_book l)) (sym (append-nil before)) (sound told) };
}

-- ---- a turn

module _ (was : Known Noted) (after : List Noted) (does : Bool → List Noted → List Noted → Type 0) (note : Edge Item) (whole : Bool) (begun : IsBegun was.seen)
    (turn : Turn by_of was after (λ found added. does (is_told found) found added × IsListed (found ++ added) note whole)) where
  told_found : is_told turn.found ≡ is_told was.seen
  told_found = ap is_told turn.shows.is_seen_and_more ∙ told_stays was.seen turn.shows.more begun

  pub turn_told : Turn by_of was after (λ found added. does (is_told was.seen) found added)
  turn_told = record {
    found = turn.found;
    shows = turn.shows;
    adds = record {
      added = turn.adds.added;
      is_before_and_added = turn.adds.is_before_and_added;
      of_pass = turn.adds.of_pass;
      done = subst (λ (t : Bool). does t turn.found turn.adds.added) told_found turn.adds.done.0;
    };
  }

  pub turn_listed : IsListed after note whole
  turn_listed = subst (λ (l : List Noted). IsListed l note whole) (sym turn.adds.is_before_and_added) turn.adds.done.1

  found_begun : IsBegun turn.found
  found_begun = subst IsBegun (sym turn.shows.is_seen_and_more) (begun_append was.seen turn.shows.more begun)

  pub turn_keeps : is_told after ≡ is_told was.seen
  turn_keeps = ap is_told turn.adds.is_before_and_added ∙ (told_stays turn.found turn.adds.added found_begun ∙ told_found)

  pub turn_names : KeepsNames was.seen after
  turn_names log names =
      subst (λ (l : List Noted). Names l log) (sym turn.adds.is_before_and_added)
      (names_append turn.found turn.adds.added log
      (subst (λ (l : List Noted). Names l log) (sym turn.shows.is_seen_and_more) (names_append was.seen turn.shows.more log names)))

-- what was shown tells of the disk as what was seen did
pub told_shown : (passes : ℕ) (numbers : List ℕ) (seen found : List Noted) → IsBegun seen → Shows by_of passes numbers seen found → is_told found ≡ is_told seen
told_shown passes numbers seen found begun shows = ap is_told shows.is_seen_and_more ∙ told_stays seen shows.more begun

-- what holds at Ok, from what does
pub on_ok : {T E : Type 0} (r : Result T E) (P Q : Type 0) → (P → Q) → OnOk r P → OnOk r Q
on_ok (Ok x) P Q then p = then p
on_ok (Err e) P Q then p = tt
