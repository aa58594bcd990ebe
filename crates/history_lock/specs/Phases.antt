-- Where a seat stands between two steps of a turn.
use Rattle.std.specs.Prelude.{◌≡◌, ℕ, ◌%◌, ◌^◌, List, [], ◌∷◌, ◌++◌, length, Option, Some}
use Rattle.atomic_table.specs.Table.{Me}
use Rattle.atomic_table.specs.Seated.{TableId}
use Rattle.atomic_table.specs.declared.shared.Seat.{Seat}
use Rattle.history_lock.specs.Seen.{All, Shows, Adds}
use Rattle.history_lock.specs.declared.view.View.{View}
use Rattle.history_lock.specs.declared.view.Stage.TheVariants.{Idle, Holds}

-- the table of a lock has three words and one slot
abbrev pub IsTable : TableId → Type 0
IsTable z = (z.words ≡ 3) × (z.slots ≡ 1)

-- it is the seat that it was
abbrev pub IsSame : {S V : Type 0} → Seat S V → Seat S V → Type 0
IsSame a b = (b.table_id ≡ a.table_id) × (b.id ≡ a.id)

-- the view after its turn has come with this ticket, at this list
abbrev pub holder : {E : Type 0} → View E → List E → ℕ → View E
holder v found t = record v { seen = found; stage = Holds t }

-- The turn of a seat with the view v has come. The slot with the value is in hand, and its list is seen
pub record Entered {T E : Type 0} (list : T → List E) (by : E → ℕ) (v : View E) (ticket : ℕ) (w : Me (Option T) (View E)) : Type 0 where
  pub count : ℕ
  pub value : T
  pub ticket_is : ticket ≡ count % 2 ^ 64
  pub shows : Shows by v.passes v.numbers v.seen (list value)
  pub me_is : w ≡ (holder v (list value) count, (0, Some value) ∷ [])

-- The seat holds the slot with a value, of which so many entries are left to note, each of which names its number
pub record HasLeft {T E : Type 0} (list : T → List E) (by : E → ℕ) (count : ℕ) (w : Me (Option T) (View E)) : Type 0 where
  pub ticket : ℕ
  pub value : T
  pub number : ℕ
  pub others : List ℕ
  pub more : List E
  pub holds : w.0.stage ≡ Holds ticket
  pub hand : w.1 ≡ (0, Some value) ∷ []
  pub numbered : w.0.numbers ≡ number ∷ others
  pub list_is : list value ≡ w.0.seen ++ more
  pub of_pass : All (λ e. by e ≡ number) more
  pub count_is : length more ≡ count

-- all entries of the value in hand are seen, and nothing else has changed
pub record HasNoted {T E : Type 0} (list : T → List E) (by : E → ℕ) (v w : Me (Option T) (View E)) : Type 0 where
  pub left : HasLeft list by 0 w
  pub rest_is : w ≡ (record v.0 { seen = w.0.seen }, v.1)

-- The seat has the turn of this ticket, and the value in hand has the list that was seen
pub record HoldsSeen {T E : Type 0} (list : T → List E) (ticket : ℕ) (w : Me (Option T) (View E)) : Type 0 where
  pub count : ℕ
  pub value : T
  pub ticket_is : ticket ≡ count % 2 ^ 64
  pub holds : w.0.stage ≡ Holds count
  pub hand : w.1 ≡ (0, Some value) ∷ []
  pub seen_is : w.0.seen ≡ list value

-- Work was done for the pass of this number at the value in hand. The list is seen that it left, and nothing else of the view has changed
pub record Worked {T E : Type 0} (list : T → List E) (by : E → ℕ) (number : ℕ) (v w : Me (Option T) (View E)) (does : List E → Type 0) : Type 0 where
  pub holds : (ticket : ℕ) → HoldsSeen list ticket v → HoldsSeen list ticket w
  pub rest_is : w.0 ≡ record v.0 { seen = w.0.seen }
  pub adds : Adds by number v.0.seen w.0.seen does

-- the view of the seat that makes the others, when it has made so many
abbrev pub maker : {E : Type 0} → List E → ℕ → ℕ → View E
maker first passes n = record { seen = first; numbers = n ∷ []; passes = passes; opens = n; stage = Idle }
