-- A store in one turn.
use Rattle.std.proofs.Common.{◌≡◌, ℕ, List, ◌++◌, Result, Ok, Err, refl, sym, ap, subst, ◌∙◌, inl, inr}
use Rattle.std.proofs.lemmas.List.{append-nil}
use Rattle.capture.specs.Captures.{HasPayload}
use Rattle.capture.specs.GrowthLaws.{GrowsFromItself}
use Rattle.capture.specs.declared.captured.Taken.{Taken}
use Rattle.warc_text.specs.Sound.{IsSound}
use Rattle.archive_shelf.specs.declared.fault.StoreFault.{StoreFault}
use Rattle.archive_shelf.specs.declared.looked.Looked.{Looked}
use Rattle.archive_shelf.specs.declared.receipt.Receipt.{Receipt}
use Rattle.archive_core.specs.Looking.{FoundServesLater, IsRightOf}
use Rattle.index_entry.specs.Facts.{Facts}
use Rattle.history_lock.specs.Seen.{Adds}
use Rattle.vault_turns.specs.FirstTurns.{Begins}
use Rattle.vault_turns.specs.History.{by_of, is_told, told_book, told_in}
use Rattle.vault_turns.specs.Turns.{Commits, Compares}
use Rattle.vault_turns.specs.declared.first_turn.FirstAnswer.TheVariants.{Whole}
use Rattle.vault_turns.specs.declared.noted.Noted.{Noted}

-- ---- what was looked for serves at once

-- the bytes that were looked for are the capture's payload
pub of_payload : (by : ℕ) (found after : List Noted) (bytes payload : List ℕ) (result : Result Looked StoreFault) → bytes ≡ payload
    → Adds by_of by found after (λ added. Compares (is_told found) bytes found added result)
    → Adds by_of by found after (λ added. Compares (is_told found) payload found added result)
of_payload by found after bytes payload result same looks =
    subst (λ (p : List ℕ). Adds by_of by found after (λ added. Compares (is_told found) p found added result)) same looks

module _ (taken : Taken) (payload : List ℕ) (by : ℕ) (found middle : List Noted) (looked : Looked)
    (looks : Adds by_of by found middle (λ added. Compares (is_told found) payload found added (Ok looked))) where
  pub still_there : middle ≡ found
  still_there = looks.is_before_and_added ∙ (ap (λ (l : List Noted). found ++ l) looks.done.adds ∙ append-nil found)

  pub right_at_once : FoundServesLater → GrowsFromItself → HasPayload taken.cut taken.method taken.head taken.wire payload
      → IsRightOf (told_in (is_told middle) middle) taken looked
  right_at_once later itself has =
      let sound = looks.done.sound in
      let right = looks.done.looks.1 in
      subst (λ (l : List Noted). IsRightOf (told_in (is_told l) l) taken looked) (sym still_there)
      (later (told_in (is_told found) found) (told_in (is_told found) found) taken payload looked
      (λ told. (subst (λ (l : List Noted). IsSound (told_book l)) (sym looks.is_before_and_added ∙ still_there) (sound told)).sound)
      (itself (told_book found)) has right)

  pub commits_at_once : (entries : List Facts) (after : List Noted) (result : Result Receipt StoreFault)
      → Adds by_of by middle after (λ added. Commits (is_told middle) entries taken middle added result)
      → Adds by_of by found after (λ added. Begins (is_told found) entries taken payload found added (Whole result))
  commits_at_once entries after result commits = record {
    added = commits.added;
    is_before_and_added = commits.is_before_and_added ∙ ap (λ (l : List Noted). l ++ commits.added) still_there;
    of_pass = commits.of_pass;
    done = inr (subst (λ (l : List Noted). Commits (is_told l) entries taken l commits.added result) still_there commits.done);
  }

-- what was refused as it was looked for
pub refuses_at_once : (entries : List Facts) (taken : Taken) (payload : List ℕ) (by : ℕ) (found after : List Noted) (fault : StoreFault)
    → Adds by_of by found after (λ added. Compares (is_told found) payload found added (Err fault))
    → Adds by_of by found after (λ added. Begins (is_told found) entries taken payload found added (Whole (Err fault)))
refuses_at_once entries taken payload by found after fault looks = record {
  added = looks.added;
  is_before_and_added = looks.is_before_and_added;
  of_pass = looks.of_pass;
  done = inl (fault, refl, looks.done);
}
