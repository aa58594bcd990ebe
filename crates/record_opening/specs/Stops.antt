-- Why bytes don't begin with a text, whatever follows them.
use Rattle.std.specs.Prelude.{◌≡◌, ◌⊎◌, ℕ, ◌+◌, ◌<◌, ◌≤◌, Bool, true, false, List, ◌++◌, length, ⊤}
use Rattle.record_opening.specs.OpenValues.{Begins, EndsInside}
use Rattle.record_opening.specs.declared.no_record.NoRecord.{NoRecord}
use Rattle.record_opening.specs.declared.no_record.NoRecord.TheVariants as no_record
use Rattle.record_opening.specs.declared.stop.Stop.{Stop}
use Rattle.record_opening.specs.declared.stop.Stop.TheVariants.{Open, Until, Wrong, Memory}
use Rattle.record_opening.specs.Forms.{IsPartOfForm}

-- what follows from it that the text stands first, if more bytes follow
abbrev pub Leaves : Stop → List ℕ → List ℕ → Type 0
Leaves Open bytes text = length bytes < length text
Leaves (Until n) bytes text = (length bytes < n) × (n ≤ length text)
Leaves Wrong bytes text = ⊥
Leaves Memory bytes text = ⊤

-- where the text stands first, it goes on behind the bytes; or it doesn't stand there at all
abbrev pub Refuses : Stop → List ℕ → List ℕ → Type 0
Refuses stop bytes text = (after other : List ℕ) → bytes ++ after ≡ text ++ other → Leaves stop bytes text

-- what it comes to, where so many bytes have come, and where the file goes on behind them or doesn't
abbrev pub no_record_by : Stop → Bool → ℕ → NoRecord
no_record_by Open true len = no_record.Need (len + 1)
no_record_by Open false len = no_record.Damaged
no_record_by (Until n) true len = no_record.Need n
no_record_by (Until n) false len = no_record.Damaged
no_record_by Wrong more len = no_record.Damaged
no_record_by Memory more len = no_record.Memory

-- inside a line nothing is known of where a record ends
abbrev pub IsLineStop : Stop → Type 0
IsLineStop Open = ⊤
IsLineStop (Until n) = ⊥
IsLineStop Wrong = ⊤
IsLineStop Memory = ⊤

-- the bytes don't begin with this text of lines: they end inside it, or differ
pub record Differs (stop : Stop) (bytes text : List ℕ) : Type 0 where
  pub refuses : Refuses stop bytes text
  pub line : IsLineStop stop
  pub ends : stop ≡ Open → Begins text bytes

-- the bytes begin with the text of none of these values: they end inside one, or differ from all
pub record NoneStands {V : Type 0} (Is : V → Type 0) (text : V → List ℕ) (stop : Stop) (bytes : List ℕ) : Type 0 where
  pub refuses : (value : V) → Is value → Refuses stop bytes (text value)
  pub line : IsLineStop stop
  pub ends : stop ≡ Open → (value : V) × Is value × EndsInside (text value) bytes

-- The same of values alone, without the name before them: where the bytes end inside one, they are its beginning, or what may be
-- the beginning of one.
pub record NoValueStands {V : Type 0} (Is : V → Type 0) (text : V → List ℕ) (IsPart : List ℕ → Type 0) (stop : Stop) (bytes : List ℕ) : Type 0 where
  pub refuses : (value : V) → Is value → Refuses stop bytes (text value)
  pub line : IsLineStop stop
  pub ends : stop ≡ Open → (value : V) × Is value × (Begins (text value) bytes ⊎ (IsPart bytes × (0 < length (text value))))

-- why no value of the form stands where fewer bytes have come: it goes on, or begins otherwise
abbrev pub IsFormStop : List ℕ → List ℕ → Stop → Type 0
IsFormStop form part Open = IsPartOfForm form part
IsFormStop form part (Until n) = ⊥
IsFormStop form part Wrong = ¬ (IsPartOfForm form part)
IsFormStop form part Memory = ⊥
