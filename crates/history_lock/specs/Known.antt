-- What the contracts of the lock say of a lock and of a pass.
use Rattle.std.specs.Prelude.{◌≡◌, ℕ, Bool, true, false, List, [], ◌∷◌, drop}
use Rattle.atomic_table.specs.Table.{Me}
use Rattle.atomic_table.specs.Seated.{TableId}
use Rattle.history_lock.specs.declared.view.View.{View}
use Rattle.history_lock.specs.declared.view.Stage.{Stage}
use Rattle.history_lock.specs.declared.view.Stage.TheVariants.{Idle}

-- which lock it is
abbrev pub LockId : Type 0
LockId = TableId

-- What a pass stands for: its lock, the number that its turns give to entries, all its numbers, how many passes the lock
-- was made with, and the entries that it has seen
pub record Known (E : Type 0) : Type 0 where
  pub lock : LockId
  pub number : ℕ
  pub numbers : List ℕ
  pub passes : ℕ
  pub seen : List E

-- the pass with this number as it is made, where the value's list is this one
abbrev pub newcomer : {E : Type 0} → LockId → ℕ → ℕ → List E → Known E
newcomer lock passes number first = record { lock = lock; number = number; numbers = number ∷ []; passes = passes; seen = first }

-- a pass between two calls has no ticket
abbrev pub is_idle : {E : Type 0} → Stage E → Bool
is_idle Idle = true
is_idle _ = false

-- what the seat with this view stands for
abbrev pub known_of : {E : Type 0} → LockId → ℕ → View E → Known E
known_of lock number v = record { lock = lock; number = number; numbers = v.numbers; passes = v.passes; seen = v.seen }

-- a view that knows nothing
abbrev pub spent : {E : Type 0} → View E
spent = record { seen = []; numbers = []; passes = 0; opens = 0; stage = Idle }

-- the view of a badge that has one
abbrev pub sole : {E : Type 0} → List (View E) → View E
sole [] = spent
sole (v ∷ vs) = v

-- between two calls a pass has one view, with its number first and no ticket
pub record IsPass {E : Type 0} (number : ℕ) (views : List (View E)) : Type 0 where
  pub one : views ≡ sole views ∷ []
  pub numbered : (sole views).numbers ≡ number ∷ drop 1 (sole views).numbers
  pub idle : is_idle (sole views).stage ≡ true

-- between two calls a seat has its number first, no ticket, and no slot in hand
pub record AtRest {T E : Type 0} (number : ℕ) (me : Me T (View E)) : Type 0 where
  pub numbered : me.0.numbers ≡ number ∷ drop 1 me.0.numbers
  pub idle : is_idle me.0.stage ≡ true
  pub empty_handed : me.1 ≡ []

-- the same pass, which may have seen more
abbrev pub IsSamePass : {E : Type 0} → Known E → Known E → Type 0
IsSamePass p q = (q.lock ≡ p.lock) × (q.number ≡ p.number) × (q.numbers ≡ p.numbers) × (q.passes ≡ p.passes)
