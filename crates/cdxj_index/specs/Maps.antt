-- The maps behind an index.
use Rattle.std.specs.Prelude.{◌≡◌, ℕ, ◌^◌, ◌<◌, ◌≤◌, List, length, map, Option, Some, None, option_map, option_and_then, Contains, IsSome, Bool, ◌&&◌, if◌then◌else◌, false, nat_eq, [], ◌∷◌, ◌++◌}
use Rattle.std.specs.declared.cmp.Ordering.TheVariants.{Less}
use Rattle.std.specs.BTreeMap.{BTreeMap, IsOrdered, btree_map_len, get, is_at}
use Rattle.std.specs.Cmp.Lexicographic.{slice_cmp}
use Rattle.std.specs.List.{flat_map, starts_with}
use Rattle.std.specs.List.Sorted.{IsStrictlySortedBy}
use Rattle.std.specs.Map.{keys_of, lookup, values_of}
use Rattle.std.specs.Option.{option_map_or}
use Rattle.std.specs.Ordering.{nat_cmp, is_eq}
pub use Rattle.cdxj_index.specs.declared.entry_map.captures.Captures.{Captures}
use Rattle.cdxj_index.specs.declared.entry_map.captures.Captures.TheVariants.{One, Many}
use Rattle.index_entry.specs.Facts.{Facts}
use Rattle.index_entry.specs.Order.{Moment, moment_of, moment_cmp}
pub use Rattle.cdxj_index.specs.Sharing.{Shared, entry_of}

-- the captures of each key
abbrev pub Keys : Type 0
Keys = BTreeMap (List ℕ) Captures

-- the captures of a key by date and number, in order
abbrev pub placed : Captures → List (Moment × Shared)
placed (One entry) = (moment_of (entry_of entry), entry) ∷ []
placed (Many places) = places.value.entries

-- the entries of one key, in order
abbrev pub shown : Captures → List Facts
shown captures = map entry_of (values_of (placed captures))

-- all entries, in order
abbrev pub shown_all : List (List ℕ × Captures) → List Facts
shown_all keys = flat_map (λ e. shown e.1) keys

abbrev pub entries_of : Keys → List Facts
entries_of keys = shown_all keys.entries

-- each entry under its number
abbrev pub by_numbers : List Facts → List (ℕ × Facts)
by_numbers entries = map (λ (e : Facts). (e.number, e)) entries

-- the entries behind the pointers
abbrev pub values_shown : List (ℕ × Shared) → List (ℕ × Facts)
values_shown numbers = map (λ (p : ℕ × Shared). (p.0, entry_of p.1)) numbers

-- the entry at a date and number
abbrev pub held : Captures → Moment → Option Facts
held captures moment = option_map entry_of (lookup (is_at (moment_cmp moment)) (placed captures))

-- the captures are in order
abbrev pub IsInOrder : Captures → Type 0
IsInOrder captures = IsStrictlySortedBy moment_cmp (keys_of (placed captures))

-- the same entries are held at the same dates and numbers
abbrev pub HoldsSame : Captures → Captures → Type 0
HoldsSame old new = (when : Moment) → held new when ≡ held old when

-- this is held at a date and number now, and at all others what was
abbrev pub Changes : Captures → Captures → Moment → Option Facts → Type 0
Changes old new moment entry = (when : Moment) → held new when ≡ (if is_eq (moment_cmp moment when) then entry else held old when)

-- nothing is held but at this date and number
abbrev pub HoldsOnly : Captures → Moment → Type 0
HoldsOnly captures moment = (when : Moment) → is_eq (moment_cmp moment when) ≡ false → held captures when ≡ None

-- the entry of a key at a date and number
abbrev pub held_at : Keys → List ℕ → Moment → Option Facts
held_at keys key moment = option_and_then (λ captures. held captures moment) (get (slice_cmp nat_cmp) keys key)

-- what is held under a key at a date and number is an entry of that key, date and number
pub record IsHeld (key : List ℕ) (moment : Moment) (entry : Facts) : Type 0 where
  pub keyed : entry.key ≡ key
  pub placed : moment_of entry ≡ moment
  pub fits : entry.number < 2 ^ 32

-- the captures are in order, and each is held in its place
pub record AreOfKey (key : List ℕ) (captures : Captures) : Type 0 where
  pub ordered : IsInOrder captures
  pub each : (moment : Moment) (entry : Facts) → held captures moment ≡ Some entry → IsHeld key moment entry

-- the keys are in order, and each has captures of its own
pub record AreKeys (keys : Keys) : Type 0 where
  pub ordered : IsOrdered (slice_cmp nat_cmp) keys
  pub each : (key : List ℕ) (captures : Captures) → get (slice_cmp nat_cmp) keys key ≡ Some captures → AreOfKey key captures

-- the entry of a number
abbrev pub numbered : BTreeMap ℕ Shared → ℕ → Option Facts
numbered numbers number = option_map entry_of (get nat_cmp numbers number)

-- the numbers are those of the entries
pub record AreNumbers (entries : List Facts) (numbers : BTreeMap ℕ Shared) : Type 0 where
  pub found : (entry : Facts) → Contains entries entry → numbered numbers entry.number ≡ Some entry
  pub shown : (number : ℕ) (entry : Facts) → numbered numbers number ≡ Some entry → Contains entries entry × (entry.number ≡ number)
  pub count : btree_map_len numbers ≡ length entries

-- the two maps of an index
pub record AreMaps (keys : Keys) (numbers : BTreeMap ℕ Shared) : Type 0 where
  pub of_keys : AreKeys keys
  pub of_numbers : AreNumbers (entries_of keys) numbers

-- of the captures up to a time, this is the last
pub record IsLastUntil (captures : Captures) (time : ℕ) (entry : Facts) : Type 0 where
  pub place : Moment
  pub there : held captures place ≡ Some entry
  pub within : place.0 ≤ time
  pub last : (other : Moment) → other.1 < 2 ^ 32 → other.0 ≤ time → IsSome (held captures other) → moment_cmp place other ≡ Less → ⊥

-- of the captures at a date or later, this is the first
pub record IsFirstFrom (captures : Captures) (date : ℕ) (entry : Facts) : Type 0 where
  pub place : Moment
  pub there : held captures place ≡ Some entry
  pub within : date ≤ place.0
  pub first : (other : Moment) → date ≤ other.0 → IsSome (held captures other) → moment_cmp other place ≡ Less → ⊥

-- of the captures after a time, this is the first
pub record IsFirstAfter (captures : Captures) (time : ℕ) (entry : Facts) : Type 0 where
  pub place : Moment
  pub there : held captures place ≡ Some entry
  pub within : place.1 < 2 ^ 32 → time < place.0
  pub first : (other : Moment) → time < other.0 → IsSome (held captures other) → moment_cmp other place ≡ Less → ⊥

abbrev pub HasNoneUntil : Captures → ℕ → Type 0
HasNoneUntil captures time = (other : Moment) → other.1 < 2 ^ 32 → other.0 ≤ time → held captures other ≡ None

abbrev pub HasNoneFrom : Captures → ℕ → Type 0
HasNoneFrom captures date = (other : Moment) → date ≤ other.0 → held captures other ≡ None

abbrev pub HasNoneAfter : Captures → ℕ → Type 0
HasNoneAfter captures time = (other : Moment) → time < other.0 → held captures other ≡ None

-- the same entries are held in the same places
abbrev pub SameKeys : Keys → Keys → Type 0
SameKeys old new = (key : List ℕ) (moment : Moment) → held_at new key moment ≡ held_at old key moment

-- the place of a key, date and number is this one
abbrev pub is_place : List ℕ → Moment → List ℕ → Moment → Bool
is_place key moment other when = is_eq (slice_cmp nat_cmp key other) && is_eq (moment_cmp moment when)

-- the entry is held in its place, and all others in theirs
abbrev pub Puts : Keys → Keys → Facts → Type 0
Puts old new entry =
    (key : List ℕ) (moment : Moment) → held_at new key moment
    ≡ (if is_place entry.key (moment_of entry) key moment then Some entry else held_at old key moment)

-- nothing is held in the place, and all others in theirs
abbrev pub Takes : Keys → Keys → List ℕ → Moment → Type 0
Takes old new taken when =
    (key : List ℕ) (moment : Moment) → held_at new key moment
    ≡ (if is_place taken when key moment then None else held_at old key moment)

-- the entries of the first keys that begin with these bytes
abbrev pub shown_while : List ℕ → List (List ℕ × Captures) → List Facts
shown_while start [] = []
shown_while start (e ∷ keys) = if starts_with nat_eq e.0 start then shown e.1 ++ shown_while start keys else []

-- the captures that are left of a key: the only one, or those of several
abbrev pub shown_left : Option Facts → Option (List Shared) → List Facts
shown_left one captures = option_map_or (λ entry. entry ∷ []) one [] ++ option_map_or (λ left. map entry_of left) captures []

-- the captures that are left of a key, and those of the keys that are left and begin with these bytes
abbrev pub left_of : List ℕ → Option (List (List ℕ × Captures)) → List Facts → List Facts
left_of start keys captures = captures ++ option_map_or (shown_while start) keys []

-- how many keys are left
abbrev pub keys_left : Option (List (List ℕ × Captures)) → ℕ
keys_left keys = option_map_or length keys 0
