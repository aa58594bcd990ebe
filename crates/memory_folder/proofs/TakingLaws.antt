-- Lists up to one place more.
use Rattle.std.proofs.Common.{◌≡◌, ◌<◌, ℕ, zero, suc, Bool, true, false, if◌then◌else◌, List, [], ◌∷◌, ◌++◌, length, take, drop, get_or, set, refl, sym, ap, ◌∙◌, arith, ⊎_elim}
use Rattle.std.proofs.lemmas.Bool.{cases_Bool}
use Rattle.memory_folder.specs.Entry.{Entry, entry_listed, all_listed, names_of, is_left, left_entry, left_entries, with_left, step_synced, steps_synced}
use Rattle.memory_folder.specs.declared.budget.Budget.{Budget}
use Rattle.memory_folder.specs.declared.step.Step.{Step}

pub steps_synced-more : (done : Bool) (steps : List Step) (i : ℕ) (d : Step) → i < length (steps_synced done (take i steps) ++ drop i steps)
    → set (steps_synced done (take i steps) ++ drop i steps) i (step_synced done (get_or (steps_synced done (take i steps) ++ drop i steps) i d))
    ≡ steps_synced done (take (suc i) steps) ++ drop (suc i) steps
steps_synced-more done [] zero d inside = absurd (omega (arith, inside))
steps_synced-more done [] (suc i) d inside = absurd (omega (arith, inside))
steps_synced-more done (step ∷ later) zero d inside = refl
steps_synced-more done (step ∷ later) (suc i) d inside = ap (λ (xs : List Step). step_synced done step ∷ xs) (steps_synced-more done later i d (omega (arith, inside)))

pub all_listed-more : (done : Bool) (entries : List Entry) (i : ℕ) (d : Entry) → i < length (all_listed done (take i entries) ++ drop i entries)
    → set (all_listed done (take i entries) ++ drop i entries) i (entry_listed done (get_or (all_listed done (take i entries) ++ drop i entries) i d))
    ≡ all_listed done (take (suc i) entries) ++ drop (suc i) entries
all_listed-more done [] zero d inside = absurd (omega (arith, inside))
all_listed-more done [] (suc i) d inside = absurd (omega (arith, inside))
all_listed-more done (entry ∷ others) zero d inside = refl
all_listed-more done (entry ∷ others) (suc i) d inside = ap (λ (xs : List Entry). entry_listed done entry ∷ xs) (all_listed-more done others i d (omega (arith, inside)))

pub steps_synced-all : (done : Bool) (steps : List Step) → steps_synced done (take (length steps) steps) ++ drop (length steps) steps ≡ steps_synced done steps
steps_synced-all done [] = refl
steps_synced-all done (step ∷ later) = ap (λ (xs : List Step). step_synced done step ∷ xs) (steps_synced-all done later)

pub all_listed-all : (done : Bool) (entries : List Entry) → all_listed done (take (length entries) entries) ++ drop (length entries) entries ≡ all_listed done entries
all_listed-all done [] = refl
all_listed-all done (entry ∷ others) = ap (λ (xs : List Entry). entry_listed done entry ∷ xs) (all_listed-all done others)

pub names-more : (entries : List Entry) (i : ℕ) (d : Entry) → i < length entries → names_of (take (suc i) entries) ≡ names_of (take i entries) ++ (get_or entries i d).name ∷ []
names-more [] i d inside = absurd (omega (arith, inside))
names-more (entry ∷ others) zero d inside = refl
names-more (entry ∷ others) (suc i) d inside = ap (λ (xs : List (List ℕ)). entry.name ∷ xs) (names-more others i d (omega (arith, inside)))

-- one more is left, or none
pub left-more : (budget : Budget) (entries : List Entry) (i : ℕ) (d : Entry) → i < length entries → is_left budget (get_or entries i d) ≡ true
    → left_entries budget (take (suc i) entries) ≡ left_entries budget (take i entries) ++ left_entry budget (get_or entries i d) ∷ []
left-more budget [] i d inside left = absurd (omega (arith, inside))
left-more budget (entry ∷ others) zero d inside left = ap (λ (b : Bool). if b then left_entry budget entry ∷ [] else []) left
left-more budget (entry ∷ others) (suc i) d inside left =
    both (is_left budget entry) (left_entries budget (take (suc i) others)) (left_entries budget (take i others)) (left-more budget others i d (omega (arith, inside)) left)
  where
    both : (b : Bool) (more fewer : List Entry) → more ≡ fewer ++ left_entry budget (get_or others i d) ∷ []
        → (if b then left_entry budget entry ∷ more else more) ≡ (if b then left_entry budget entry ∷ fewer else fewer) ++ left_entry budget (get_or others i d) ∷ []
    both true more fewer same = ap (λ (xs : List Entry). left_entry budget entry ∷ xs) same
    both false more fewer same = same

pub gone-more : (budget : Budget) (entries : List Entry) (i : ℕ) (d : Entry) → i < length entries → is_left budget (get_or entries i d) ≡ false
    → left_entries budget (take (suc i) entries) ≡ left_entries budget (take i entries)
gone-more budget [] i d inside gone = absurd (omega (arith, inside))
gone-more budget (entry ∷ others) zero d inside gone = ap (λ (b : Bool). if b then left_entry budget entry ∷ [] else []) gone
gone-more budget (entry ∷ others) (suc i) d inside gone =
    ap (λ (xs : List Entry). if is_left budget entry then left_entry budget entry ∷ xs else xs) (gone-more budget others i d (omega (arith, inside)) gone)

pub with_left-more : (budget : Budget) (entries : List Entry) (i : ℕ) (d : Entry) → i < length entries
    → left_entries budget (take (suc i) entries) ≡ with_left budget (get_or entries i d) (left_entries budget (take i entries))
with_left-more budget entries i d inside =
    ⊎_elim
    (λ is. left-more budget entries i d inside is ∙ sym (ap (λ (b : Bool). if b then left_entries budget (take i entries) ++ left_entry budget (get_or entries i d) ∷ [] else left_entries budget (take i entries)) is))
    (λ is. gone-more budget entries i d inside is ∙ sym (ap (λ (b : Bool). if b then left_entries budget (take i entries) ++ left_entry budget (get_or entries i d) ∷ [] else left_entries budget (take i entries)) is))
    (cases_Bool (is_left budget (get_or entries i d)))

pub length-listed : (done : Bool) (entries : List Entry) → length (all_listed done entries) ≡ length entries
length-listed done [] = refl
length-listed done (entry ∷ others) = ap (λ (n : ℕ). suc n) (length-listed done others)
