-- How a request is declined, by the fault that was met.
use Rattle.std.specs.Prelude.{◌≡◌, ◌==◌, ℕ, Bool, false, IsErr, IfOk, MatchBool, Option, Some, None, Result, Ok}
use Rattle.archive_shelf.specs.declared.fault.BringFault.{BringFault}
use Rattle.archive_shelf.specs.declared.fault.BringFault.TheVariants as brings
use Rattle.archive_shelf.specs.declared.fault.StoreFault.{StoreFault}
use Rattle.archive_shelf.specs.declared.fault.StoreFault.TheVariants as stores
use Rattle.capture.specs.declared.memory.Memory.{Memory}
use Rattle.capture.specs.declared.refusal.Refusal.{Refusal}
use Rattle.capture.specs.declared.refusal.Refusal.TheVariants as refusals
use Rattle.exchange.specs.Refusals.{refusal_text}
use Rattle.exchange.specs.declared.fetching.FetchFault.{FetchFault}
use Rattle.exchange.specs.declared.fetching.FetchFault.TheVariants as fetches
use Rattle.request_answer.specs.steps.Givens.{Given, nothing_text}

-- ---- why: or there was no memory

-- no response came
abbrev pub refusal_by_fetch : FetchFault → Option Refusal
refusal_by_fetch fetches.DialFault = Some refusals.DialFault
refusal_by_fetch fetches.OriginFault = Some refusals.OriginFault
refusal_by_fetch fetches.OriginEnded = Some refusals.OriginEnded
refusal_by_fetch fetches.OriginMalformed = Some refusals.OriginMalformed
refusal_by_fetch fetches.OriginTooLong = Some refusals.OriginTooLong
refusal_by_fetch fetches.TooManyInterim = Some refusals.TooManyInterim
refusal_by_fetch fetches.Memory = None

-- a capture wasn't stored
abbrev pub refusal_by_store : StoreFault → Option Refusal
refusal_by_store (stores.Full count limit) = Some (refusals.Full count limit)
refusal_by_store stores.DiskFault = Some refusals.DiskFault
refusal_by_store (stores.Damaged number kept found) = Some (refusals.Damaged number kept found)
refusal_by_store stores.Memory = None

-- the capture with a number, or its piece, wasn't brought
abbrev pub refusal_by_bring : ℕ → BringFault → Option Refusal
refusal_by_bring number (brings.NoSuch count) = Some (refusals.NoSuch number count)
refusal_by_bring number brings.DiskFault = Some refusals.DiskFault
refusal_by_bring number (brings.Damaged at kept found) = Some (refusals.Damaged at kept found)
refusal_by_bring number brings.Memory = None

-- the piece is that of the next capture
abbrev pub is_next : ℕ → BringFault → Bool
is_next number (brings.NoSuch count) = number == count
is_next number brings.DiskFault = false
is_next number (brings.Damaged at kept found) = false
is_next number brings.Memory = false

-- ---- the answer

-- this refusal, for which no memory is needed
abbrev pub IsRefusing : Refusal → Bool → Bool → Result Given Memory → Type 0
IsRefusing refusal answers_head closes result =
    result ≡ Ok (record { text = refusal_text refusal answers_head closes; closes = closes })

-- by why
abbrev pub Declines : Option Refusal → Bool → Bool → Result Given Memory → Type 0
Declines (Some refusal) answers_head closes result = IsRefusing refusal answers_head closes result
Declines None answers_head closes result = IsErr result

-- the answer to a request for a piece: there is nothing as yet, or the refusal
abbrev pub DeclinesPiece : ℕ → BringFault → Bool → Bool → Result Given Memory → Type 0
DeclinesPiece number fault answers_head closes result =
    MatchBool (is_next number fault) (IfOk result (λ answer. answer.text ≡ nothing_text closes))
    (Declines (refusal_by_bring number fault) answers_head closes result)
