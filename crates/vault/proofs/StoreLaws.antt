-- A store, in one turn or two.
use Rattle.std.proofs.Common.{◌≡◌, ◌⊎◌, ℕ, Bool, IsTrue, List, [], ◌++◌, Result, Ok, Err, refl, sym, ap, subst, ◌∙◌, inl, inr}
use Rattle.std.proofs.lemmas.List.{append-nil}
use Rattle.capture.specs.Captures.{HasPayload}
use Rattle.capture.specs.Growth.{Grows}
use Rattle.capture.specs.GrowthLaws.{GrowsFromItself, GrowthGoesOn}
use Rattle.capture.specs.declared.captured.Taken.{Taken}
use Rattle.warc_text.specs.Sound.{IsSound}
use Rattle.archive_shelf.specs.Comparing.{IsRight}
use Rattle.archive_shelf.specs.declared.fault.StoreFault.{StoreFault}
use Rattle.archive_shelf.specs.declared.fault.StoreFault.TheVariants as stores
use Rattle.archive_shelf.specs.declared.looked.Looked.{Looked}
use Rattle.archive_shelf.specs.declared.receipt.Receipt.{Receipt}
use Rattle.archive_core.specs.Looking.{FoundServesLater, IsRightOf}
use Rattle.index_entry.specs.Facts.{Facts}
use Rattle.history_lock.specs.Known.{IsSamePass, Known}
use Rattle.history_lock.specs.Seen.{Shows, Turn}
use Rattle.vault_turns.specs.FirstTurns.{Begins, IsRefused}
use Rattle.vault_turns.specs.History.{IsBegun, by_of, told_book, told_in}
use Rattle.vault_turns.specs.Turns.{Commits, Compares, StoresBy}
use Rattle.vault_turns.specs.declared.first_turn.FirstAnswer.TheVariants.{Whole}
use Rattle.vault_turns.specs.declared.noted.Noted.{Noted}
use Rattle.vault_turns.proofs.HistoryLaws.{begun_append, told_grows}

module _ (tells : Bool) (entries : List Facts) (taken : Taken) (was : Known Noted) where
  pub no_memory : StoresBy tells entries taken was was (Err stores.Memory)
  no_memory = inl (refl, refl)

  pub refused_early : (is : Known Noted) (fault : StoreFault) (payload : List ℕ) → HasPayload taken.cut taken.method taken.head taken.wire payload
      → Turn by_of was is.seen (λ found added. Compares tells payload found added (Err fault)) → StoresBy tells entries taken was is (Err fault)
  refused_early is fault payload has turn = inr (inl (fault, refl, record { payload = payload; has = has; turn = turn }))

-- ---- what was looked for serves later

module _ (tells : Bool) (was : Known Noted) (middle : List Noted) (payload : List ℕ) (looked : Looked)
    (turn : Turn by_of was middle (λ found added. Compares tells payload found added (Ok looked))) where
  none_added : turn.adds.added ≡ []
  none_added = turn.adds.done.adds

  middle_found : middle ≡ turn.found
  middle_found = turn.adds.is_before_and_added ∙ (ap (λ (l : List Noted). turn.found ++ l) none_added ∙ append-nil turn.found)

  pub looks_alone : Turn by_of was middle (λ found added. added ≡ [])
  looks_alone = record {
    found = turn.found;
    shows = turn.shows;
    adds = record {
      added = turn.adds.added;
      is_before_and_added = turn.adds.is_before_and_added;
      of_pass = turn.adds.of_pass;
      done = none_added;
    };
  }

  middle_begun : IsBegun was.seen → IsBegun middle
  middle_begun begun =
      subst IsBegun (sym (middle_found ∙ turn.shows.is_seen_and_more)) (begun_append was.seen turn.shows.more begun)

  right_there : IsRight tells (told_book middle) payload looked
  right_there = subst (λ (l : List Noted). IsRight tells (told_book l) payload looked) (sym middle_found) turn.adds.done.looks.1

  sound_there : IsTrue tells → IsSound (told_book middle)
  sound_there told = subst (λ (l : List Noted). IsSound (told_book l)) (sym turn.adds.is_before_and_added) (turn.adds.done.sound told)

  pub serves : FoundServesLater → GrowsFromItself → GrowthGoesOn → IsBegun was.seen → (taken : Taken)
      → HasPayload taken.cut taken.method taken.head taken.wire payload → (passes : ℕ) (numbers : List ℕ) (found : List Noted)
      → Shows by_of passes numbers middle found → IsRightOf (told_in tells found) taken looked
  serves later itself goes_on begun taken has passes numbers found shows =
      later (told_in tells middle) (told_in tells found) taken payload looked (λ told. (sound_there told).sound)
      (subst (λ (l : List Noted). Grows (told_book middle) (told_book l)) (sym shows.is_seen_and_more) (told_grows itself goes_on middle shows.more (middle_begun begun)))
      has right_there

module _ (tells : Bool) (entries : List Facts) (taken : Taken) (was middle is : Known Noted) (same : IsSamePass was middle) where
  next_pass : middle ≡ record was { seen = middle.seen }
  next_pass = λ i. record { lock = same.0 i; number = same.1 i; numbers = same.2 i; passes = same.3 i; seen = middle.seen }

  pub committed_later : (result : Result Receipt StoreFault) → Turn by_of was middle.seen (λ found added. added ≡ [])
      → Turn by_of middle is.seen (λ found added. Commits tells entries taken found added result) → StoresBy tells entries taken was is result
  committed_later result looks turn = inr (inr (record {
    middle = middle.seen;
    looks = looks;
    turn = subst (λ (p : Known Noted). Turn by_of p is.seen (λ found added. Commits tells entries taken found added result)) next_pass turn;
  }))

-- ---- a store that its first turn answered

module _ (tells : Bool) (entries : List Facts) (taken : Taken) (payload : List ℕ) (was is : Known Noted) (result : Result Receipt StoreFault)
    (has : HasPayload taken.cut taken.method taken.head taken.wire payload)
    (turn : Turn by_of was is.seen (λ found added. Begins tells entries taken payload found added (Whole result))) where
  -- the turn, of which this holds
  turn_by : (does : List Noted → List Noted → Type 0) → does turn.found turn.adds.added → Turn by_of was is.seen does
  turn_by does done = record {
    found = turn.found;
    shows = turn.shows;
    adds = record {
      added = turn.adds.added;
      is_before_and_added = turn.adds.is_before_and_added;
      of_pass = turn.adds.of_pass;
      done = done;
    };
  }

  refused_so : IsRefused tells payload turn.found turn.adds.added result → StoresBy tells entries taken was is result
  refused_so refused =
      subst (λ (r : Result Receipt StoreFault). StoresBy tells entries taken was is r) (sym refused.1)
      (refused_early tells entries taken was is refused.0 payload has
      (turn_by (λ found added. Compares tells payload found added (Err refused.0)) refused.2))

  -- it found all, added nothing, and went on as a second turn that found the same
  committed_so : Commits tells entries taken turn.found turn.adds.added result → StoresBy tells entries taken was is result
  committed_so commits = inr (inr (record {
    middle = turn.found;
    looks = record {
      found = turn.found;
      shows = turn.shows;
      adds = record { added = []; is_before_and_added = sym (append-nil turn.found); of_pass = tt; done = refl };
    };
    turn = record {
      found = turn.found;
      shows = record { more = []; is_seen_and_more = sym (append-nil turn.found); of_others = tt };
      adds = record {
        added = turn.adds.added;
        is_before_and_added = turn.adds.is_before_and_added;
        of_pass = turn.adds.of_pass;
        done = commits;
      };
    };
  }))

  by_cases : IsRefused tells payload turn.found turn.adds.added result ⊎ Commits tells entries taken turn.found turn.adds.added result
      → StoresBy tells entries taken was is result
  by_cases (inl refused) = refused_so refused
  by_cases (inr commits) = committed_so commits

  pub answered_at_once : StoresBy tells entries taken was is result
  answered_at_once = by_cases turn.adds.done
