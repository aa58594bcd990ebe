-- What a form asks for.
use Rattle.std.specs.Prelude.{ℕ, Bool, true, false, ◌&&◌, ◌||◌, ◌==◌, List, Option, Some, None, is_none}
use Rattle.replay_url.specs.declared.form.Form.{Form}
use Rattle.replay_url.specs.declared.form.Form.TheVariants.{Memento, Gate, Map, Query, Number, Ship}

-- a time that an address names, and how many digits name it
pub record NamedTime : Type 0 where
  pub time : ℕ
  pub digits : ℕ

-- Of a URL's captures the one that is nearest to a time, as it was received or for a reader of the archive. By a gate the address
-- names no time: that is a field's.
pub record Nearest : Type 0 where
  pub url : List ℕ
  pub named : Option NamedTime
  pub raw : Bool

-- the capture nearest to a time; all captures of a URL; those that meet a query; the capture of a number; or its piece, as another
-- archive takes it
pub data Question : Type 0 where
  ForNearest : (sought : Nearest) → Question
  ForAll : (url : List ℕ) → Question
  ForQuery : (text : List ℕ) → Question
  ForNumber : (number : ℕ) → Question
  ForPiece : (number : ℕ) → Question

-- by a memento's address
abbrev pub by_memento : ℕ → ℕ → Bool → List ℕ → Nearest
by_memento time digits raw url = record { url = url; named = Some (record { time = time; digits = digits }); raw = raw }

-- by a gate
abbrev pub by_gate : List ℕ → Nearest
by_gate url = record { url = url; named = None; raw = false }

-- what a form asks for; this is the one table of them
abbrev pub question_of : Form → Question
question_of (Memento time digits raw url) = ForNearest (by_memento time digits raw url)
question_of (Gate url) = ForNearest (by_gate url)
question_of (Map url) = ForAll url
question_of (Query text) = ForQuery text
question_of (Number number) = ForNumber number
question_of (Ship number) = ForPiece number

-- the URL whose captures are asked for
abbrev pub asked_url : Question → Option (List ℕ)
asked_url (ForNearest sought) = Some sought.url
asked_url (ForAll url) = Some url
asked_url (ForQuery text) = None
asked_url (ForNumber number) = None
asked_url (ForPiece number) = None

-- the capture is asked for by a gate
abbrev pub is_by_gate : Nearest → Bool
is_by_gate sought = is_none sought.named

-- the capture is asked for as it was received, as that of a number always is
abbrev pub is_as_received : Question → Bool
is_as_received (ForNearest sought) = sought.raw
is_as_received (ForNumber number) = true
is_as_received (ForAll url) = false
is_as_received (ForQuery text) = false
is_as_received (ForPiece number) = false

-- the address names just this date, by all its digits
abbrev pub names_date : Option NamedTime → ℕ → Bool
names_date (Some named) date = (named.digits == 14 || named.digits == 17) && named.time == date
names_date None date = false
