-- What is noted of a call.
use Rattle.std.proofs.Common.{◌≡◌, ℕ, Bool, true, List, [], ◌∷◌, ◌++◌, Ok, Err, map, refl, sym, ap, subst, ◌∙◌, append_assoc}
use Rattle.std.proofs.lemmas.List.{append-nil}
use Rattle.std.specs.declared.snapshot.Snapshot.{Snapshot}
use Rattle.capture.specs.declared.captured.Taken.{Taken}
use Rattle.archive_shelf.specs.declared.fault.StoreFault.TheVariants as stores
use Rattle.archive_shelf.specs.declared.receipt.Receipt.{Receipt}
use Rattle.vault_turns.specs.Noting.{GainsCapture, Notes, Noting, beginning, failing}
use Rattle.vault_turns.specs.declared.noted.Noted.{Noted}

pub notes_capture : (by : ℕ) (taken : Taken) (began : Bool) (receipt : Receipt) (first next last : List Noted)
    → next ≡ first ++ beginning by taken.date began → GainsCapture by taken receipt.same_as next last
    → Noting first last (λ added. Notes by taken began (Ok receipt) added)
notes_capture by taken began receipt first next last more gains = record {
  added = beginning by taken.date began ++ gains.0 ∷ [];
  joined = gains.1 ∙ (ap (λ (l : List Noted). l ++ gains.0 ∷ []) more ∙ append_assoc first (beginning by taken.date began) (gains.0 ∷ []));
  done = (gains.0, refl, gains.2);
}

pub notes_fault : (by : ℕ) (taken : Taken) (began : Bool) (first next last : List Noted)
    → next ≡ first ++ beginning by taken.date began → last ≡ next ++ failing by true
    → Noting first last (λ added. Notes by taken began (Err stores.DiskFault) added)
notes_fault by taken began first next last more fails = record {
  added = beginning by taken.date began ++ failing by true;
  joined = fails ∙ (ap (λ (l : List Noted). l ++ failing by true) more ∙ append_assoc first (beginning by taken.date began) (failing by true));
  done = refl;
}

pub notes_none : (first : List Noted) (then : List Noted → Type 0) → then [] → Noting first first then
notes_none first then none = record { added = []; joined = sym (append-nil first); done = none }

-- ---- the entries that are kept

abbrev pub values : List (Snapshot Noted) → List Noted
values xs = map (λ (s : Snapshot Noted). s.value) xs

-- a fault noted behind what was kept before room was made
pub joined_by : (before room after : List (Snapshot Noted)) (by : ℕ) (failed told : Bool) → room ≡ before → failed ≡ told
    → values after ≡ values room ++ failing by failed → values after ≡ values before ++ failing by told
joined_by before room after by failed told same is joined =
    joined ∙ (ap (λ (xs : List (Snapshot Noted)). values xs ++ failing by failed) same ∙ ap (λ (b : Bool). values before ++ failing by b) is)

-- and what was noted of a store
pub noting_from : (before room : List (Snapshot Noted)) (after : List Noted) (then : List Noted → Type 0) → room ≡ before
    → Noting (values room) after then → Noting (values before) after then
noting_from before room after then same noting =
    subst (λ (xs : List (Snapshot Noted)). Noting (values xs) after then) same noting
