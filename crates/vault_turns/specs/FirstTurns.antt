-- The first turn of a store, which may be its only one.
use Rattle.std.specs.Prelude.{◌≡◌, ◌⊎◌, ℕ, Bool, List, Result, Ok, Err}
use Rattle.sha1.specs.Sha1.{sha1}
use Rattle.capture.specs.Captures.{HasPayload}
use Rattle.capture.specs.declared.captured.Taken.{Taken}
use Rattle.warc_text.specs.Fits.{Fits}
use Rattle.archive_shelf.specs.declared.fault.StoreFault.{StoreFault}
use Rattle.archive_shelf.specs.declared.receipt.Receipt.{Receipt}
use Rattle.archive_core.specs.Looking.{IsDigestOf}
use Rattle.index_entry.specs.Facts.{Facts}
use Rattle.vault_turns.specs.Turns.{Commits, Compares}
use Rattle.vault_turns.specs.declared.first_turn.FirstAnswer.{FirstAnswer}
use Rattle.vault_turns.specs.declared.first_turn.FirstAnswer.TheVariants.{Whole, Compared}
use Rattle.vault_turns.specs.declared.noted.Noted.{Noted}

-- the capture may be stored, and this is its payload, with its digest
abbrev pub IsReady : Taken → List ℕ → List ℕ → Type 0
IsReady taken payload digest =
    Fits taken × HasPayload taken.cut taken.method taken.head taken.wire payload × (digest ≡ sha1 payload) × IsDigestOf taken digest

-- the store was refused as its payload was looked for
abbrev pub IsRefused : Bool → List ℕ → List Noted → List Noted → Result Receipt StoreFault → Type 0
IsRefused tells payload found added result =
    (fault : StoreFault) × (result ≡ Err fault) × Compares tells payload found added (Err fault)

-- what the first turn finds, adds and answers, where these entries are shown: all that the store does, or what was found of its payload
abbrev pub Begins : Bool → List Facts → Taken → List ℕ → List Noted → List Noted → FirstAnswer → Type 0
Begins tells entries taken payload found added (Whole result) = IsRefused tells payload found added result ⊎ Commits tells entries taken found added result
Begins tells entries taken payload found added (Compared looked) = Compares tells payload found added (Ok looked)
