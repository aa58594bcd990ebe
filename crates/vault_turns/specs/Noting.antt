-- How a history goes on by what is noted of a call.
use Rattle.std.specs.Prelude.{◌≡◌, ℕ, Bool, true, false, List, [], ◌∷◌, ◌++◌, Option, Result, Ok, Err}
use Rattle.capture.specs.declared.captured.Taken.{Taken}
use Rattle.archive_shelf.specs.declared.fault.StoreFault.{StoreFault}
use Rattle.archive_shelf.specs.declared.fault.StoreFault.TheVariants as stores
use Rattle.archive_shelf.specs.declared.receipt.Receipt.{Receipt}
use Rattle.vault_turns.specs.Turns.{IsStoring}
use Rattle.vault_turns.specs.declared.noted.Kind.TheVariants.{Began, Failed}
use Rattle.vault_turns.specs.declared.noted.Noted.{Noted}

-- these entries were put behind the others
pub record Noting (before after : List Noted) (then : List Noted → Type 0) : Type 0 where
  pub added : List Noted
  pub joined : after ≡ before ++ added
  pub done : then added

-- that a volume was begun, where one was
abbrev pub beginning : ℕ → ℕ → Bool → List Noted
beginning by at true = record { by = by; kind = Began at } ∷ []
beginning by at false = []

-- that the disk failed, where it did
abbrev pub failing : ℕ → Bool → List Noted
failing by true = record { by = by; kind = Failed } ∷ []
failing by false = []

-- the entry tells that this capture was stored, by this pass
abbrev pub IsNoteOf : ℕ → Taken → Option ℕ → Noted → Type 0
IsNoteOf by taken same noted = (noted.by ≡ by) × IsStoring taken same noted.kind

-- a capture was noted
abbrev pub GainsCapture : ℕ → Taken → Option ℕ → List Noted → List Noted → Type 0
GainsCapture by taken same before after = (stored : Noted) × (after ≡ before ++ stored ∷ []) × IsNoteOf by taken same stored

-- what is noted of the answer of a store
abbrev pub Notes : ℕ → Taken → Bool → Result Receipt StoreFault → List Noted → Type 0
Notes by taken began (Ok receipt) added =
    (stored : Noted) × (added ≡ beginning by taken.date began ++ stored ∷ []) × IsNoteOf by taken receipt.same_as stored
Notes by taken began (Err (stores.Full count limit)) added = added ≡ []
Notes by taken began (Err stores.DiskFault) added = added ≡ beginning by taken.date began ++ failing by true
Notes by taken began (Err (stores.Damaged number kept found)) added = added ≡ []
Notes by taken began (Err stores.Memory) added = added ≡ []
