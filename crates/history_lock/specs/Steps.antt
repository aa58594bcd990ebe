-- What each step tells its pass.
use Rattle.std.specs.Prelude.{◌≡◌, ℕ, ◌+◌, ◌%◌, ◌^◌, ◌==◌, if◌then◌else◌, nat_le, List, [], ◌∷◌, ◌++◌, length, take, Option, Some, None, MatchBool}
use Rattle.atomic_table.specs.Table.{Me, Step, rest}
use Rattle.history_lock.specs.Seen.{Shows}
use Rattle.history_lock.specs.Rule.{number_of}
use Rattle.history_lock.specs.declared.view.View.{View}
use Rattle.history_lock.specs.declared.view.Stage.TheVariants.{Idle, Waits, Holds, Empty, Joined}

abbrev pub At : Type 0 → Type 0
At T = Step (Option T)

abbrev pub Sat : Type 0 → Type 0 → Type 0
Sat T E = Me (Option T) (View E)

module _ {T E : Type 0} where
  -- a ticket was drawn, which is the number found
  abbrev pub drawn : At T → Sat T E → ℕ → Sat T E → Type 0
  drawn st v n w = (t : ℕ) × (n ≡ t % 2 ^ 64) × (w ≡ (record v.0 { stage = Waits t }, v.1))

  -- the turn has come, and the slot with the value x is in hand
  abbrev pub Came : (T → List E) → (E → ℕ) → ℕ → Sat T E → Sat T E → Type 0
  Came list by t v w = (x : T) × Shows by v.0.passes v.0.numbers v.0.seen (list x) × (w ≡ (record v.0 { seen = list x; stage = Holds t }, (0, Some x) ∷ v.1))

  -- where the ticket is served, the turn has come
  abbrev pub looked : (T → List E) → (E → ℕ) → At T → Sat T E → ℕ → Sat T E → Type 0
  looked list by st v n w = MatchBool (n == number_of v.0.stage % 2 ^ 64) (Came list by (number_of v.0.stage) v w) (w ≡ v)

  -- the empty slot is in hand
  abbrev pub filled : At T → Sat T E → ℕ → Sat T E → Type 0
  filled st v n w = w ≡ (record v.0 { stage = Holds (number_of v.0.stage) }, (0, None) ∷ v.1)

  -- with one entry more of the value in hand
  abbrev pub one_more : (T → List E) → List E → List (ℕ × Option T) → List E
  one_more list seen ((k, Some x) ∷ hand) = take (length seen + 1) (list x)
  one_more list seen _ = seen

  -- one entry more of the value in hand was seen
  abbrev pub noted : (T → List E) → At T → Sat T E → ℕ → Sat T E → Type 0
  noted list st v n w = w ≡ (record v.0 { seen = one_more list v.0.seen v.1 }, v.1)

  -- the turn has ended
  abbrev pub passed_on : At T → Sat T E → ℕ → Sat T E → Type 0
  passed_on st v n w = w ≡ (record v.0 { stage = Idle }, rest v.1)

  -- the slot is at home with nothing in it
  abbrev pub emptied : At T → Sat T E → ℕ → Sat T E → Type 0
  emptied st v n w = w ≡ (record v.0 { stage = Empty (number_of v.0.stage) }, rest v.1)

  -- behind what either of the two passes had seen there is no entry of its own
  abbrev pub Settles : (E → ℕ) → Sat T E → Sat T E → Type 0
  Settles by v w = (seen seen' : List E) (numbers numbers' : List ℕ) → v.0.stage ≡ Joined seen numbers seen' numbers'
      → (w ≡ (record v.0 { stage = Idle }, v.1)) × Shows by v.0.passes numbers seen v.0.seen × Shows by v.0.passes numbers' seen' v.0.seen

  abbrev pub settled : (E → ℕ) → At T → Sat T E → ℕ → Sat T E → Type 0
  settled by st v n w = Settles by v w

module _ {E : Type 0} where
  -- the seat that makes another goes on to the next number
  abbrev pub opener : View E → View E
  opener v = record v { numbers = (1 + v.opens) ∷ []; opens = 1 + v.opens }

  -- the seat made has the number before
  abbrev pub opened : View E → View E
  opened v = record v { opens = 0 }

  -- the longer of two lists
  abbrev pub longer : List E → List E → List E
  longer xs ys = if nat_le (length ys) (length xs) then xs else ys

  -- the longer list, and the numbers of both
  abbrev pub joined : View E → View E → View E
  joined v w = record { seen = longer v.seen w.seen; numbers = v.numbers ++ w.numbers; passes = v.passes; opens = v.opens; stage = Joined v.seen v.numbers w.seen w.numbers }
