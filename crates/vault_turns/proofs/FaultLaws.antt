-- The disk's count of faults, and the faults that are noted.
use Rattle.std.proofs.Common.{◌≡◌, ℕ, ◌+◌, Bool, true, false, List, [], ◌∷◌, ◌++◌, Option, Result, Ok, Err, refl, sym, ap, subst, ◌∙◌, arith}
use Rattle.capture.specs.Faults.{RoseBy}
use Rattle.capture.specs.declared.captured.Taken.{Taken}
use Rattle.archive_shelf.specs.Answers.{CountsIf, is_store_fault}
use Rattle.archive_shelf.specs.declared.fault.StoreFault.{StoreFault}
use Rattle.archive_shelf.specs.declared.fault.StoreFault.TheVariants as stores
use Rattle.archive_shelf.specs.declared.receipt.Receipt.{Receipt}
use Rattle.vault_turns.specs.History.{IsBegun, given_faults}
use Rattle.vault_turns.specs.Noting.{Notes, Noting, beginning, failing}
use Rattle.vault_turns.specs.Own.{AreCounted, count_faults, fault_by, faults_since}
use Rattle.vault_turns.specs.Turns.{IsStoring}
use Rattle.vault_turns.specs.declared.noted.Kind.{Kind}
use Rattle.vault_turns.specs.declared.noted.Kind.TheVariants.{Opened, Began, Stored, Failed}
use Rattle.vault_turns.specs.declared.noted.Noted.{Noted}
use Rattle.vault_turns.proofs.HistoryLaws.{given_stays}

-- one where there was a fault
abbrev pub one_if : Bool → ℕ
one_if true = 1
one_if false = 0

pub count_append : (xs ys : List Noted) → count_faults (xs ++ ys) ≡ count_faults xs + count_faults ys
count_append [] ys = omega arith
count_append (x ∷ xs) ys = let later = count_append xs ys in omega (arith, later)

pub since_append : (xs ys : List Noted) → IsBegun xs → faults_since (xs ++ ys) ≡ faults_since xs + count_faults ys
since_append [] ys begun = absurd begun
since_append (x ∷ xs) ys begun = count_append xs ys

-- ---- the count goes on with the history

rose_on : (a b x y z : ℕ) → RoseBy a x y → RoseBy b y z → RoseBy (a + b) x z
rose_on a b x y z one other = omega (arith, one, other)

rose_if : (failed : Bool) (was is : ℕ) → CountsIf failed was is → RoseBy (one_if failed) was is
rose_if true was is counts = counts.1
rose_if false was is counts = let same : is ≡ was = counts in omega (arith, same)

counted_on : (history added after : List Noted) (failed : Bool) (was is : ℕ) → IsBegun history → after ≡ history ++ added
    → count_faults added ≡ one_if failed → CountsIf failed was is → AreCounted history was → AreCounted after is
counted_on history added after failed was is begun joined more counts counted =
    subst (λ (l : List Noted). AreCounted l is) (sym joined)
    (subst (λ (n : ℕ). RoseBy n (given_faults (history ++ added)) is) (sym (since_append history added begun))
    (subst (λ (n : ℕ). RoseBy (faults_since history + count_faults added) n is) (sym (given_stays history added begun))
    (rose_on (faults_since history) (count_faults added) (given_faults history) was is counted
    (subst (λ (n : ℕ). RoseBy n was is) (sym more) (rose_if failed was is counts)))))

-- ---- what was noted of a call

count_failing : (by : ℕ) (failed : Bool) → count_faults (failing by failed) ≡ one_if failed
count_failing by true = refl
count_failing by false = refl

-- of one that read
pub read_counted : (by : ℕ) (history after : List Noted) (failed : Bool) (was is : ℕ) → IsBegun history → after ≡ history ++ failing by failed
    → CountsIf failed was is → AreCounted history was → AreCounted after is
read_counted by history after failed was is begun joined counts counted =
    counted_on history (failing by failed) after failed was is begun joined (count_failing by failed) counts counted

none_begun : (by at : ℕ) (began : Bool) (more : List Noted) → count_faults (beginning by at began ++ more) ≡ count_faults more
none_begun by at true more = let e : 0 + count_faults more ≡ count_faults more = omega arith in e
none_begun by at false more = refl

pub none_stored : (taken : Taken) (same : Option ℕ) (kind : Kind) → IsStoring taken same kind → fault_by kind ≡ 0
none_stored taken same (Stored kept as_same) storing = refl
none_stored taken same (Opened held limits told list faults sure) storing = absurd storing
none_stored taken same (Began at) storing = absurd storing
none_stored taken same Failed storing = absurd storing

pub count_noted : (by : ℕ) (taken : Taken) (began : Bool) (result : Result Receipt StoreFault) (added : List Noted) → Notes by taken began result added
    → count_faults added ≡ one_if (is_store_fault result)
count_noted by taken began (Ok receipt) added notes =
    let none = none_stored taken receipt.same_as notes.0.kind notes.2.1 in
    ap (λ (l : List Noted). count_faults l) notes.1
    ∙ (none_begun by taken.date began (notes.0 ∷ []) ∙ (let e : fault_by notes.0.kind + 0 ≡ 0 = omega (arith, none) in e))
count_noted by taken began (Err (stores.Full count limit)) added notes = ap (λ (l : List Noted). count_faults l) notes
count_noted by taken began (Err stores.DiskFault) added notes =
    ap (λ (l : List Noted). count_faults l) notes ∙ none_begun by taken.date began (failing by true)
count_noted by taken began (Err (stores.Damaged number kept found)) added notes = ap (λ (l : List Noted). count_faults l) notes
count_noted by taken began (Err stores.Memory) added notes = ap (λ (l : List Noted). count_faults l) notes

-- of a store
pub store_counted : (by : ℕ) (taken : Taken) (began : Bool) (result : Result Receipt StoreFault) (history after : List Noted) (was is : ℕ)
    → IsBegun history → Noting history after (λ added. Notes by taken began result added) → CountsIf (is_store_fault result) was is
    → AreCounted history was → AreCounted after is
store_counted by taken began result history after was is begun noting counts counted =
    counted_on history noting.added after (is_store_fault result) was is begun noting.joined
    (count_noted by taken began result noting.added noting.done) counts counted
