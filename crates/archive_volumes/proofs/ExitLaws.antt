-- What is said where a refusal is handed out, and of the counts of faults.
use Rattle.std.proofs.Common.{◌≡◌, ℕ, Result, Ok, Err, OnErr, OnOk, IsErr, is_ok, if◌then◌else◌, subst}
use Rattle.std.specs.Prelude.{IfOk}
use Rattle.std.proofs.lemmas.Bool.{false≢true}
use Rattle.capture.specs.Faults.{CountsFaults}

-- what is known of what succeeds says nothing of a refusal
pub not_done : {T E : Type 0} (P : T → Type 0) (answer : Result T E) → IsErr answer → IfOk answer P
not_done P (Ok v) failed = absurd (false≢true failed)
not_done P (Err e) failed = tt

pub never_ok : {T E : Type 0} (A : Type 0) (answer : Result T E) → IsErr answer → OnOk answer A
never_ok A (Ok v) failed = absurd (false≢true failed)
never_ok A (Err e) failed = tt

-- what holds anyway holds of a refusal
pub on_refusal : {T E A : Type 0} (answer : Result T E) → A → OnErr answer A
on_refusal (Ok v) a = tt
on_refusal (Err e) a = a

-- what was there before is there where it was refused
pub stayed : {A T E : Type 0} (answer : Result T E) (now before after : A) → IsErr answer → now ≡ before → now ≡ (if is_ok answer then after else before)
stayed (Ok v) now before after failed is = absurd (false≢true failed)
stayed (Err e) now before after failed is = is

-- ---- counts of faults

pub counts_refused : {T E S F : Type 0} (old new : ℕ) (fault : E) (answer : Result S F) → IsErr answer → CountsFaults {T = T} old new (Err fault)
    → CountsFaults old new answer
counts_refused old new fault (Ok v) failed counts = absurd (false≢true failed)
counts_refused old new fault (Err f) failed counts = record { later = counts.later; steady = tt; rose = counts.rose }

pub counts_done : {T E S F : Type 0} (old new : ℕ) (value : T) (done : S) → CountsFaults {E = E} old new (Ok value) → CountsFaults {E = F} old new (Ok done)
counts_done old new value done counts = record { later = counts.later; steady = counts.steady; rose = tt }

-- a call behind one that was done
pub counts_behind : {T E S F : Type 0} (old mid new : ℕ) (value : T) (result : Result S F) → CountsFaults {E = E} old mid (Ok value)
    → CountsFaults mid new result → CountsFaults old new result
counts_behind old mid new value result first second = subst (λ (n : ℕ). CountsFaults n new result) first.steady second
