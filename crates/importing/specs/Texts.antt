-- What an import prints.
use Rattle.std.specs.Prelude.{ℕ, List, [], ◌∷◌, ◌++◌, codes, decimal, length, Option, Some, None}
use Rattle.std.specs.List.{flat_map}
use Rattle.httparse.specs.Ascii.{line_feed}
use Rattle.archive_shelf.specs.declared.fault.StoreFault.{StoreFault}
use Rattle.archive_shelf.specs.declared.fault.StoreFault.TheVariants as stores
use Rattle.command.specs.Texts.{damaged_capture, full_line}
use Rattle.warc_reader.specs.declared.import.Outcome.{Outcome}
use Rattle.warc_reader.specs.declared.import.Outcome.TheVariants as outcome
use Rattle.warc_reader.specs.declared.import.Reason.{Reason}
use Rattle.warc_reader.specs.declared.import.Reason.TheVariants.{Revisit, ContentType, Target, Date, Message}
use Rattle.warc_reader.specs.declared.import.Skipped.{Skipped}

-- an input that is longer than one may be
abbrev pub too_long : List ℕ
too_long = codes "input too long\n"

-- the place in an input at which no record stands
unfoldable pub damaged_input : ℕ → List ℕ
damaged_input at = codes "damaged input " ++ decimal at ++ (line_feed ∷ [])

-- why a record gives no capture
abbrev pub reason_text : Reason → List ℕ
reason_text Revisit = codes "revisit"
reason_text ContentType = codes "content-type"
reason_text Target = codes "target"
reason_text Date = codes "date"
reason_text Message = codes "message"

-- a record that was skipped: its place, and why
unfoldable pub skip_line : Skipped → List ℕ
skip_line skipped = codes "skipped " ++ decimal skipped.at ++ codes " " ++ reason_text skipped.reason ++ (line_feed ∷ [])

-- the skip of an outcome, if it is one
abbrev pub skip_in : Outcome → List Skipped
skip_in (outcome.Taken taken) = []
skip_in (outcome.Skipped skipped) = skipped ∷ []
skip_in outcome.PassedOver = []

-- the skips among outcomes, in order
abbrev pub skips_in : List Outcome → List Skipped
skips_in outcomes = flat_map skip_in outcomes

-- how many captures were stored, and how many records skipped
unfoldable pub summary_line : (stored skipped : ℕ) → List ℕ
summary_line stored skipped = codes "imported " ++ decimal stored ++ codes " skipped " ++ decimal skipped ++ (line_feed ∷ [])

-- why a capture was refused, if one was. Of want of memory nothing is told.
abbrev pub refusal_line : Option StoreFault → List ℕ
refusal_line None = []
refusal_line (Some (stores.Full count limit)) = full_line count limit
refusal_line (Some stores.DiskFault) = codes "disk fault\n"
refusal_line (Some (stores.Damaged number kept found)) = damaged_capture number
refusal_line (Some stores.Memory) = []

-- the skips, in order; how many captures were stored; and why no more were
abbrev pub import_text : List Outcome → ℕ → Option StoreFault → List ℕ
import_text outcomes stored refused =
    flat_map skip_line (skips_in outcomes) ++ (summary_line stored (length (skips_in outcomes)) ++ refusal_line refused)
