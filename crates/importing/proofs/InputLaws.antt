-- What the gate's first connection gives.
use Rattle.std.proofs.Common.{◌≡◌, ◌<◌, ◌≤◌, ℕ, zero, suc, Bool, true, false, true≢false, IsTrue, List, [], ◌∷◌, ◌++◌, length, Result, Ok, Err, refl, sym, ap, subst, ◌∙◌, arith, append-nil}
use Rattle.std.specs.Prelude.{IfErr, IfOk}
use Rattle.capture.specs.Faults.{Rose}
use Rattle.outside.specs.Gate.{heard_of}
use Rattle.outside.specs.Link.{IsFresh, Traffic}
use Rattle.outside.specs.declared.gate.Heard.{Heard}
use Rattle.command.proofs.GateLaws.{nothing_heard}
use Rattle.importing.specs.Inputs.{IsInput, IsNoInput, TakesPiece, only_read}
use Rattle.importing.specs.declared.input.InputFault.{InputFault}
use Rattle.importing.specs.declared.input.InputFault.TheVariants.{TooLong, Failed, Memory}
use Rattle.importing.specs.declared.input.TheConstants.{INPUT_LIMIT}

pub if_ok_by : {T E : Type 0} (P Q : T → Type 0) (r : Result T E) → ((x : T) → P x → Q x) → IfOk r P → IfOk r Q
if_ok_by P Q (Ok x) f h = f x h
if_ok_by P Q (Err e) f h = tt

pub if_err_by : {T E : Type 0} (P Q : E → Type 0) (r : Result T E) → ((x : E) → P x → Q x) → IfErr r P → IfErr r Q
if_err_by P Q (Ok x) f h = tt
if_err_by P Q (Err e) f h = f e h

read_only : (heard : Heard) (given : List ℕ) (ended : Bool) (faults : ℕ) → heard ≡ only_read given ended faults → heard ≡ only_read heard.given ended faults
read_only heard given ended faults is = is ∙ ap (λ g. only_read g ended faults) (sym (ap (λ (h : Heard). h.given) is))

-- nothing was heard yet
pub fresh_heard : (traffic : Traffic) (faults : ℕ) (given : List ℕ) → IsFresh traffic → faults ≡ 0 → given ≡ [] → heard_of traffic faults ≡ only_read given false 0
fresh_heard traffic faults given fresh none empty = nothing_heard traffic faults fresh none ∙ ap (λ g. only_read g false 0) (sym empty)

pub memory_heard : (heard : Heard) (given : List ℕ) → heard ≡ only_read given false 0 → IsNoInput heard Memory
memory_heard heard given is = read_only heard given false 0 is

-- what is heard of a link that gave another piece, or its end
pub heard_more : (old new : Traffic) (before now : ℕ) (given piece : List ℕ) (ended : Bool)
    → new ≡ record old { given = old.given ++ piece; ended = ended } → now ≡ before → heard_of old before ≡ only_read given false 0
    → heard_of new now ≡ only_read (given ++ piece) ended 0
heard_more old new before now given piece ended gives same heard =
    ap (λ (t : Traffic). heard_of t now) gives ∙ ap (λ (n : ℕ). heard_of (record old { given = old.given ++ piece; ended = ended }) n) same
    ∙ ap (λ (h : Heard). record h { given = h.given ++ piece; ended = ended }) heard

-- the end gives no piece
pub no_piece : (more : Bool) (n : ℕ) → more ≡ false → (0 < n → IsTrue more) → n ≡ 0
no_piece more zero none some = refl
no_piece more (suc n) none some = absurd (true≢false (sym (some (omega arith)) ∙ none))

-- a whole input
pub input_heard : (heard : Heard) (given piece : List ℕ) → heard ≡ only_read (given ++ piece) true 0 → length piece ≡ 0 → length given ≤ INPUT_LIMIT
    → IsInput heard given
input_heard heard given [] is none within = record { is = is ∙ ap (λ g. only_read g true 0) (append-nil given); within = within }
input_heard heard given (b ∷ piece) is none within = absurd (omega (arith, none))

-- a link that failed
pub failed_heard : (old new : Traffic) (before now : ℕ) (given : List ℕ) → new ≡ old → before ≡ 0 → Rose before now → heard_of old before ≡ only_read given false 0
    → IsNoInput (heard_of new now) Failed
failed_heard old new before now given same none rose heard = (
  read_only (heard_of new now) given false now
      (ap (λ (t : Traffic). heard_of t now) same ∙ ap (λ (h : Heard). record h { faults = now }) heard),
  subst (λ (n : ℕ). Rose n now) none rose,
)

-- a link that gave too much, or what there was no memory for
pub piece_heard : (heard : Heard) (before piece now : List ℕ) (fault : InputFault) → heard ≡ only_read (before ++ piece) false 0
    → TakesPiece before piece now (Err fault) → IsNoInput heard fault
piece_heard heard before piece now TooLong is past = (
  read_only heard (before ++ piece) false 0 is,
  omega (arith, past, ap length (ap (λ (h : Heard). h.given) is)),
)
piece_heard heard before piece now Failed is past = absurd past
piece_heard heard before piece now Memory is past = read_only heard (before ++ piece) false 0 is
