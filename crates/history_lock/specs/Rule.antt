-- The rule of the lock's table.
use Rattle.std.specs.Prelude.{◌≡◌, ◌≢◌, ◌⊎◌, ℕ, ◌+◌, ◌%◌, ◌^◌, ◌<◌, ◌≤◌, Bool, true, false, List, [], ◌∷◌, length, Option, Some, None}
use mathlib.Core.Option.{some, none}
use mathlib.Core.Option as maybe
use lib.ListN.{get_elem?}
use Rattle.atomic_table.specs.Table.{State}
use Rattle.history_lock.specs.Seen.{All, Apart, Shows}
use Rattle.history_lock.specs.declared.view.View.{View}
use Rattle.history_lock.specs.declared.view.Stage.{Stage}
use Rattle.history_lock.specs.declared.view.Stage.TheVariants.{Waits, Holds, Empty, Joined}

-- the view of the seat that makes the others, before the value is in its slot
abbrev pub founder : {E : Type 0} → List E → ℕ → View E
founder first passes = record { seen = first; numbers = 1 ∷ []; passes = passes; opens = 1; stage = Empty 0 }

-- the ticket of a stage
abbrev pub ticket_of : {E : Type 0} → Stage E → Option ℕ
ticket_of (Waits t) = Some t
ticket_of (Holds t) = Some t
ticket_of (Empty t) = Some t
ticket_of _ = None

-- the number of that ticket
abbrev pub number_of : {E : Type 0} → Stage E → ℕ
number_of (Waits t) = t
number_of (Holds t) = t
number_of (Empty t) = t
number_of _ = 0

-- 1 where there is a ticket, else 0
abbrev pub one_of : Option ℕ → ℕ
one_of (Some t) = 1
one_of None = 0

-- how many of the views have a ticket
abbrev pub count_tickets : {E : Type 0} → List (View E) → ℕ
count_tickets [] = 0
count_tickets (v ∷ vs) = one_of (ticket_of v.stage) + count_tickets vs

-- the ticket, if there is one, is served or still to come
abbrev pub InRange : ℕ → ℕ → Option ℕ → Type 0
InRange serving drawn (Some t) = (serving ≤ t) × (t < drawn)
InRange serving drawn None = Unit {0}

-- two tickets differ
abbrev pub Differ : Option ℕ → Option ℕ → Type 0
Differ (Some t) (Some u) = t ≢ u
Differ _ _ = Unit {0}

-- what the stage of a view says of the slot and of the list so far
abbrev pub Stands : {T E : Type 0} → (E → ℕ) → ℕ → List (maybe.Option (Option T)) → List E → View E → Stage E → Type 0
Stands by serving homes log v (Holds t) = (t ≡ serving) × (homes ≡ none ∷ []) × (v.seen ≡ log)
Stands by serving homes log v (Empty t) = (t ≡ serving) × (homes ≡ some None ∷ []) × (v.seen ≡ log)
Stands by serving homes log v (Joined seen numbers seen' numbers') = Shows by v.passes numbers seen v.seen × Shows by v.passes numbers' seen' v.seen
Stands by serving homes log v _ = Unit {0}

-- the stage is that of the one turn that is taken
abbrev pub has_turn : {E : Type 0} → Stage E → Bool
has_turn (Holds t) = true
has_turn (Empty t) = true
has_turn _ = false

-- what a seat knows, where `log` is the list so far
pub record Fits {T E : Type 0} (by : E → ℕ) (passes serving drawn count : ℕ) (homes : List (maybe.Option (Option T))) (log : List E) (seat : ℕ) (v : View E) : Type 0 where
  pub shows : 0 < length v.numbers → Shows by passes v.numbers v.seen log
  pub passes_are : 0 < length v.numbers → v.passes ≡ passes
  pub numbers : All (λ n. (1 ≤ n) × (n ≤ count)) v.numbers
  pub opens : 0 < v.opens → (seat ≡ 0) × (v.opens ≡ count)
  pub ticket : InRange serving drawn (ticket_of v.stage)
  pub stands : Stands by serving homes log v v.stage

-- the value is at home, and its list is the list so far
pub record IsHome {T E : Type 0} (list : T → List E) (log : List E) (homes : List (maybe.Option (Option T))) : Type 0 where
  pub value : T
  pub at_home : homes ≡ some (Some value) ∷ []
  pub list_is : list value ≡ log

-- a seat has its turn
pub record IsTaken {E : Type 0} (views : List (View E)) : Type 0 where
  pub seat : ℕ
  pub view : View E
  pub sits : get_elem? views seat ≡ some view
  pub takes : has_turn view.stage ≡ true

-- The rule. `log` is the value's list, and while the slot is out the running list. `drawn` is the next ticket, and `serving`
-- the one that is served. Entries name passes that are made, and two seats share neither a number nor a ticket
pub record Kept {T E : Type 0} (list : T → List E) (by : E → ℕ) (passes : ℕ) (s : State (Option T) (View E)) : Type 0 where
  pub log : List E
  pub drawn : ℕ
  pub serving : ℕ
  pub words : s.words ≡ length log % 2 ^ 64 ∷ drawn % 2 ^ 64 ∷ serving % 2 ^ 64 ∷ []
  pub tickets : serving + count_tickets s.views ≡ drawn
  pub few : (length s.views ≤ passes) × (passes < 2 ^ 32)
  pub slot : IsHome list log s.homes ⊎ IsTaken s.views
  pub made : All (λ e. by e ≤ length s.views) log
  pub each : (seat : ℕ) (v : View E) → get_elem? s.views seat ≡ some v → Fits by passes serving drawn (length s.views) s.homes log seat v
  pub apart : (j k : ℕ) (v w : View E) → j ≢ k → get_elem? s.views j ≡ some v → get_elem? s.views k ≡ some w
      → All (λ n. Apart n w.numbers) v.numbers × Differ (ticket_of v.stage) (ticket_of w.stage)
