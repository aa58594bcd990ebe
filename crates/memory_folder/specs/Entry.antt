-- A file of a folder in memory: what the disk had of it first, what was done since, and how sure each of that is on the disk.
use Rattle.std.specs.Prelude.{◌≡◌, ℕ, zero, suc, ◌-◌, Bool, true, false, ◌||◌, nat_le, if◌then◌else◌, ⊤, Option, Some, None, List, [], ◌∷◌, ◌++◌, length, take, map}
use Rattle.std.specs.Str.{bytes_eq}
use Rattle.disk_model.specs.Image.{written}
use Rattle.memory_folder.specs.Standing.{is_sure, after_sync}
use Rattle.memory_folder.specs.declared.standing.Standing.{Standing}
use Rattle.memory_folder.specs.declared.standing.Standing.TheVariants.{Sure}
use Rattle.memory_folder.specs.declared.budget.Budget.{Budget}
use Rattle.memory_folder.specs.declared.budget.Budget.TheVariants.{All, First, Nothing}
use Rattle.memory_folder.specs.declared.step.Step.{Step}
use Rattle.memory_folder.specs.declared.step.Step.TheVariants.{Write, Truncate}

-- the choice of a stop: 0 nothing, 1 all, and c above 1 the first c - 2 bytes
abbrev pub budget_of : ℕ → Budget
budget_of zero = Nothing
budget_of (suc zero) = All
budget_of (suc (suc n)) = First n

abbrev pub leaves_names : Budget → Bool
leaves_names All = true
leaves_names (First n) = true
leaves_names Nothing = false

abbrev pub standing_of : Step → Standing
standing_of (Write at bytes standing) = standing
standing_of (Truncate len standing) = standing

abbrev pub done_by : Step → List ℕ → List ℕ
done_by (Write at some standing) bytes = written bytes at some
done_by (Truncate len standing) bytes = take len bytes

-- of more than n bytes the first n, and `W` (87)
abbrev pub torn : ℕ → List ℕ → List ℕ
torn n some = if nat_le (length some) n then some else take n some ++ 87 ∷ []

abbrev pub torn_by : ℕ → Step → List ℕ → List ℕ
torn_by n (Write at some standing) bytes = written bytes at (torn n some)
torn_by n (Truncate len standing) bytes = take len bytes

-- what later steps have
abbrev pub spent_by : ℕ → Step → Budget
spent_by n (Write at some standing) = if nat_le (length some) n then First (n - length some) else Nothing
spent_by n (Truncate len standing) = First n

-- what is left of a step that isn't sure, and what later ones have
abbrev pub left_unsure : Budget → Step → List ℕ → List ℕ
left_unsure All step bytes = done_by step bytes
left_unsure (First n) step bytes = torn_by n step bytes
left_unsure Nothing step bytes = bytes

abbrev pub spent_unsure : Budget → Step → Budget
spent_unsure All step = All
spent_unsure (First n) step = spent_by n step
spent_unsure Nothing step = Nothing

abbrev pub left_by : Budget → Step → List ℕ → List ℕ
left_by budget step bytes = if is_sure (standing_of step) then done_by step bytes else left_unsure budget step bytes

abbrev pub spent : Budget → Step → Budget
spent budget step = if is_sure (standing_of step) then budget else spent_unsure budget step

-- The bytes behind these steps, of which those that aren't sure are done as far as the budget goes.
abbrev pub left : Budget → List Step → List ℕ → List ℕ
left budget [] bytes = bytes
left budget (step ∷ later) bytes = left (spent budget step) later (left_by budget step bytes)

-- after a sync of the file
abbrev pub step_synced : Bool → Step → Step
step_synced done (Write at bytes standing) = Write at bytes (after_sync done standing)
step_synced done (Truncate len standing) = Truncate len (after_sync done standing)

abbrev pub steps_synced : Bool → List Step → List Step
steps_synced done [] = []
steps_synced done (step ∷ later) = step_synced done step ∷ steps_synced done later

pub record Entry : Type 0 where
  pub name : List ℕ
  -- what it had first: none where it was made
  pub base : List ℕ
  -- what was done since, in order
  pub steps : List Step
  -- how sure its name is on the disk
  pub named : Standing

-- what reads find of it
abbrev pub reading : Entry → List ℕ
reading entry = left All entry.steps entry.base

-- where there is none
abbrev pub no_entry : Entry
no_entry = record { name = []; base = []; steps = []; named = Sure }

abbrev pub with_step : Step → Entry → Entry
with_step step entry = record entry { steps = entry.steps ++ step ∷ [] }

-- the entries with the one of a name changed
abbrev pub changed : (Entry → Entry) → List ℕ → List Entry → List Entry
changed change name [] = []
changed change name (entry ∷ others) = if bytes_eq name entry.name then change entry ∷ others else entry ∷ changed change name others

-- after a sync of the file, and of the folder's names
abbrev pub entry_synced : Bool → Entry → Entry
entry_synced done entry = record entry { steps = steps_synced done entry.steps }

abbrev pub entry_listed : Bool → Entry → Entry
entry_listed done entry = record entry { named = after_sync done entry.named }

abbrev pub all_listed : Bool → List Entry → List Entry
all_listed done [] = []
all_listed done (entry ∷ others) = entry_listed done entry ∷ all_listed done others

-- the entry of a name
abbrev pub found : List Entry → List ℕ → Option Entry
found [] name = None
found (entry ∷ others) name = if bytes_eq name entry.name then Some entry else found others name

-- it is the first of the name at a place
abbrev pub IsPlace : List Entry → List ℕ → ℕ → Type 0
IsPlace [] name i = ⊥
IsPlace (entry ∷ others) name zero = entry.name ≡ name
IsPlace (entry ∷ others) name (suc i) = (bytes_eq name entry.name ≡ false) × IsPlace others name i

abbrev pub names_of : List Entry → List (List ℕ)
names_of [] = []
names_of (entry ∷ others) = entry.name ∷ names_of others

-- no name stands twice
abbrev pub AreApart : List Entry → Type 0
AreApart [] = ⊤
AreApart (entry ∷ others) = (found others entry.name ≡ None) × AreApart others

-- what a stop leaves of an entry, and of all
abbrev pub is_left : Budget → Entry → Bool
is_left budget entry = leaves_names budget || is_sure entry.named

abbrev pub left_entry : Budget → Entry → Entry
left_entry budget entry = record { name = entry.name; base = left budget entry.steps entry.base; steps = []; named = Sure }

-- these and what is left of one more
abbrev pub with_left : Budget → Entry → List Entry → List Entry
with_left budget entry left = if is_left budget entry then left ++ left_entry budget entry ∷ [] else left

abbrev pub left_entries : Budget → List Entry → List Entry
left_entries budget [] = []
left_entries budget (entry ∷ others) =
    if is_left budget entry then left_entry budget entry ∷ left_entries budget others else left_entries budget others
