-- What a further step, and a sync, leave of a file's bytes.
use Rattle.std.proofs.Common.{◌≡◌, ◌≤◌, ◌<◌, ◌+◌, ◌-◌, ℕ, Bool, true, false, nat_le, if◌then◌else◌, List, [], ◌∷◌, ◌++◌, length, take, drop, refl, sym, ap, ◌∙◌, subst, arith, length-append, length-take, take-append-drop}
use Rattle.std.proofs.lemmas.Bool.{leb-false}
use Rattle.std.proofs.lemmas.List.{append-nil}
use Rattle.disk_model.specs.Image.{written}
use Rattle.disk_model.specs.Crash.{Torn, Cut}
use Rattle.disk_model.specs.steps.CrashLaws.{torn_none, torn_written, cut_none, length-written}
use Rattle.folder_model.specs.steps.FileLaws.{cut_begun}
use Rattle.memory_folder.specs.Standing.{is_sure, after_sync}
use Rattle.memory_folder.specs.Entry.{standing_of, done_by, torn, torn_by, left_unsure, spent_unsure, left_by, spent, left, step_synced, steps_synced}
use Rattle.memory_folder.specs.Past.{bound}
use Rattle.memory_folder.specs.declared.standing.Standing.{Standing}
use Rattle.memory_folder.specs.declared.standing.Standing.TheVariants.{Fresh, Sure, Doubtful}
use Rattle.memory_folder.specs.declared.budget.Budget.{Budget}
use Rattle.memory_folder.specs.declared.budget.Budget.TheVariants.{All, First, Nothing}
use Rattle.memory_folder.specs.declared.step.Step.{Step}
use Rattle.memory_folder.specs.declared.step.Step.TheVariants.{Write, Truncate}

-- what is had behind these steps
abbrev pub rest_of : Budget → List Step → Budget
rest_of budget [] = budget
rest_of budget (step ∷ later) = rest_of (spent budget step) later

pub left_push : (budget : Budget) (steps : List Step) (step : Step) (bytes : List ℕ)
    → left budget (steps ++ step ∷ []) bytes ≡ left_by (rest_of budget steps) step (left budget steps bytes)
left_push budget [] step bytes = refl
left_push budget (first ∷ later) step bytes = left_push (spent budget first) later step (left_by budget first bytes)

same_of : {A : Type 0} (b : Bool) (x : A) → (if b then x else x) ≡ x
same_of true x = refl
same_of false x = refl

-- of all steps each is done
pub left_all-cons : (step : Step) (later : List Step) (bytes : List ℕ) → left All (step ∷ later) bytes ≡ left All later (done_by step bytes)
left_all-cons step later bytes = λ i. left (same_of (is_sure (standing_of step)) All i) later (same_of (is_sure (standing_of step)) (done_by step bytes) i)

pub left_all-push : (steps : List Step) (step : Step) (bytes : List ℕ) → left All (steps ++ step ∷ []) bytes ≡ done_by step (left All steps bytes)
left_all-push [] step bytes = left_all-cons step [] bytes
left_all-push (first ∷ later) step bytes =
    left_all-cons first (later ++ step ∷ []) bytes
    ∙ left_all-push later step (done_by first bytes)
    ∙ sym (ap (λ (xs : List ℕ). done_by step xs) (left_all-cons first later bytes))

length_torn : (n : ℕ) (some : List ℕ) (b : Bool) → nat_le (length some) n ≡ b → length (if b then some else take n some ++ 87 ∷ []) ≤ length some
length_torn n some true is = omega arith
length_torn n some false is = omega (arith, leb-false (length some) n is, length-append (take n some) (87 ∷ []), length-take n some)

-- a write that isn't sure is left torn
pub write_torn : (budget : Budget) (at : ℕ) (some : List ℕ) (rest : ℕ) (old : List ℕ) → Torn at (length some + rest) old (left_by budget (Write at some Fresh) old)
write_torn All at some rest old = torn_written at (length some + rest) old some (omega arith)
write_torn (First n) at some rest old = torn_written at (length some + rest) old (torn n some) (omega (arith, length_torn n some (nat_le (length some) n) refl))
write_torn Nothing at some rest old = torn_none at (length some + rest) old

-- a cut that isn't sure is done or not
pub truncate_cut : (budget : Budget) (len : ℕ) (old : List ℕ) → Cut (len - 0) old (left_by budget (Truncate len Fresh) old)
truncate_cut All len old = cut_begun len 0 old
truncate_cut (First n) len old = cut_begun len 0 old
truncate_cut Nothing len old = cut_none (len - 0) old

-- nothing written changes nothing
pub written_none : (old : List ℕ) (at : ℕ) → written old at [] ≡ old
written_none old at =
    let same : at + length {A = ℕ} [] ≡ at = omega arith in
    ap (λ (xs : List ℕ). xs ++ drop (at + length {A = ℕ} []) old) (append-nil (take at old)) ∙ ap (λ (n : ℕ). take at old ++ drop n old) same ∙ take-append-drop at old

after_twice : (done : Bool) (standing : Standing) → after_sync true (after_sync done standing) ≡ after_sync done standing
after_twice true Fresh = refl
after_twice false Fresh = refl
after_twice true Sure = refl
after_twice false Sure = refl
after_twice true Doubtful = refl
after_twice false Doubtful = refl

pub named_twice : (done : Bool) (standing : Standing) → is_sure (after_sync true (after_sync done standing)) ≡ is_sure (after_sync done standing)
named_twice done standing = ap is_sure (after_twice done standing)

-- a sync that failed makes nothing sure
pub after_failed : (standing : Standing) → is_sure (after_sync false standing) ≡ is_sure standing
after_failed Fresh = refl
after_failed Sure = refl
after_failed Doubtful = refl

step_twice : (done : Bool) (step : Step) → step_synced true (step_synced done step) ≡ step_synced done step
step_twice done (Write at bytes standing) = ap (λ (s : Standing). Write at bytes s) (after_twice done standing)
step_twice done (Truncate len standing) = ap (λ (s : Standing). Truncate len s) (after_twice done standing)

pub steps_twice : (done : Bool) (steps : List Step) → steps_synced true (steps_synced done steps) ≡ steps_synced done steps
steps_twice done [] = refl
steps_twice done (step ∷ later) = λ i. step_twice done step i ∷ steps_twice done later i

pub steps_synced-push : (done : Bool) (steps : List Step) (step : Step) → steps_synced done (steps ++ step ∷ []) ≡ steps_synced done steps ++ step_synced done step ∷ []
steps_synced-push done [] step = refl
steps_synced-push done (first ∷ later) step = ap (λ (xs : List Step). step_synced done first ∷ xs) (steps_synced-push done later step)

done_synced : (done : Bool) (step : Step) (bytes : List ℕ) → done_by (step_synced done step) bytes ≡ done_by step bytes
done_synced done (Write at some standing) bytes = refl
done_synced done (Truncate len standing) bytes = refl

-- a sync changes nothing of what reads find
pub left_all-synced : (done : Bool) (steps : List Step) (bytes : List ℕ) → left All (steps_synced done steps) bytes ≡ left All steps bytes
left_all-synced done [] bytes = refl
left_all-synced done (step ∷ later) bytes =
    left_all-cons (step_synced done step) (steps_synced done later) bytes
    ∙ ap (λ (xs : List ℕ). left All (steps_synced done later) xs) (done_synced done step bytes)
    ∙ left_all-synced done later (done_by step bytes)
    ∙ sym (left_all-cons step later bytes)

left_failed : (budget : Budget) (step : Step) (bytes : List ℕ) → left_by budget (step_synced false step) bytes ≡ left_by budget step bytes
left_failed All (Write at some Fresh) bytes = refl
left_failed All (Write at some Sure) bytes = refl
left_failed All (Write at some Doubtful) bytes = refl
left_failed (First n) (Write at some Fresh) bytes = refl
left_failed (First n) (Write at some Sure) bytes = refl
left_failed (First n) (Write at some Doubtful) bytes = refl
left_failed Nothing (Write at some Fresh) bytes = refl
left_failed Nothing (Write at some Sure) bytes = refl
left_failed Nothing (Write at some Doubtful) bytes = refl
left_failed All (Truncate len Fresh) bytes = refl
left_failed All (Truncate len Sure) bytes = refl
left_failed All (Truncate len Doubtful) bytes = refl
left_failed (First n) (Truncate len Fresh) bytes = refl
left_failed (First n) (Truncate len Sure) bytes = refl
left_failed (First n) (Truncate len Doubtful) bytes = refl
left_failed Nothing (Truncate len Fresh) bytes = refl
left_failed Nothing (Truncate len Sure) bytes = refl
left_failed Nothing (Truncate len Doubtful) bytes = refl

spent_failed : (budget : Budget) (step : Step) → spent budget (step_synced false step) ≡ spent budget step
spent_failed All (Write at some Fresh) = refl
spent_failed All (Write at some Sure) = refl
spent_failed All (Write at some Doubtful) = refl
spent_failed (First n) (Write at some Fresh) = refl
spent_failed (First n) (Write at some Sure) = refl
spent_failed (First n) (Write at some Doubtful) = refl
spent_failed Nothing (Write at some Fresh) = refl
spent_failed Nothing (Write at some Sure) = refl
spent_failed Nothing (Write at some Doubtful) = refl
spent_failed All (Truncate len Fresh) = refl
spent_failed All (Truncate len Sure) = refl
spent_failed All (Truncate len Doubtful) = refl
spent_failed (First n) (Truncate len Fresh) = refl
spent_failed (First n) (Truncate len Sure) = refl
spent_failed (First n) (Truncate len Doubtful) = refl
spent_failed Nothing (Truncate len Fresh) = refl
spent_failed Nothing (Truncate len Sure) = refl
spent_failed Nothing (Truncate len Doubtful) = refl

-- a sync that failed changes nothing of what a stop leaves
pub left-failed : (budget : Budget) (steps : List Step) (bytes : List ℕ) → left budget (steps_synced false steps) bytes ≡ left budget steps bytes
left-failed budget [] bytes = refl
left-failed budget (step ∷ later) bytes =
    (λ i. left (spent_failed budget step i) (steps_synced false later) (left_failed budget step bytes i))
    ∙ left-failed (spent budget step) later (left_by budget step bytes)

-- no file is longer than its bound
left_by_bound : (budget : Budget) (step : Step) (bytes : List ℕ) (n : ℕ) → length bytes ≤ n → length (left_by budget step bytes) ≤ bound (step ∷ []) n
left_by_bound budget step bytes n short =
    choice (is_sure (standing_of step)) (done_bound step bytes n short) (unsure_bound budget step bytes n short)
  where
    choice : (b : Bool) → length (done_by step bytes) ≤ bound (step ∷ []) n → length (left_unsure budget step bytes) ≤ bound (step ∷ []) n
        → length (if b then done_by step bytes else left_unsure budget step bytes) ≤ bound (step ∷ []) n
    choice true sure unsure = sure
    choice false sure unsure = unsure

    done_bound : (step : Step) (bytes : List ℕ) (n : ℕ) → length bytes ≤ n → length (done_by step bytes) ≤ bound (step ∷ []) n
    done_bound (Write at some standing) bytes n short = omega (arith, short, length-written bytes at some)
    done_bound (Truncate len standing) bytes n short = omega (arith, short, length-take len bytes)

    unsure_bound : (budget : Budget) (step : Step) (bytes : List ℕ) (n : ℕ) → length bytes ≤ n → length (left_unsure budget step bytes) ≤ bound (step ∷ []) n
    unsure_bound All (Write at some standing) bytes n short = omega (arith, short, length-written bytes at some)
    unsure_bound All (Truncate len standing) bytes n short = omega (arith, short, length-take len bytes)
    unsure_bound (First k) (Write at some standing) bytes n short = omega (arith, short, length-written bytes at (torn k some), length_torn k some (nat_le (length some) k) refl)
    unsure_bound (First k) (Truncate len standing) bytes n short = omega (arith, short, length-take len bytes)
    unsure_bound Nothing (Write at some standing) bytes n short = omega (arith, short)
    unsure_bound Nothing (Truncate len standing) bytes n short = omega (arith, short)

bound-cons : (step : Step) (later : List Step) (n : ℕ) → bound (step ∷ later) n ≡ bound later (bound (step ∷ []) n)
bound-cons (Write at some standing) later n = refl
bound-cons (Truncate len standing) later n = refl

pub left_bound : (budget : Budget) (steps : List Step) (bytes : List ℕ) (n : ℕ) → length bytes ≤ n → length (left budget steps bytes) ≤ bound steps n
left_bound budget [] bytes n short = short
left_bound budget (step ∷ later) bytes n short =
    subst (λ (m : ℕ). length (left budget (step ∷ later) bytes) ≤ m) (sym (bound-cons step later n))
    (left_bound (spent budget step) later (left_by budget step bytes) (bound (step ∷ []) n) (left_by_bound budget step bytes n short))

step_bound : (done : Bool) (step : Step) (n : ℕ) → bound (step_synced done step ∷ []) n ≡ bound (step ∷ []) n
step_bound done (Write at some standing) n = refl
step_bound done (Truncate len standing) n = refl

pub bound-synced : (done : Bool) (steps : List Step) (n : ℕ) → bound (steps_synced done steps) n ≡ bound steps n
bound-synced done [] n = refl
bound-synced done (step ∷ later) n =
    bound-cons (step_synced done step) (steps_synced done later) n
    ∙ ap (λ (m : ℕ). bound (steps_synced done later) m) (step_bound done step n)
    ∙ bound-synced done later (bound (step ∷ []) n)
    ∙ sym (bound-cons step later n)
