-- The response in a record's block (ISO 28500:2017, 6.3): one whole final response to the capture's method within the limits, or,
-- where the record says that its block was truncated (5.13), one that ends inside its body. It begins with the block's first
-- byte and ends with its last.
use Rattle.std.specs.Prelude.{◌≡◌, ◌≢◌, ℕ, Bool, true, false, List, ◌++◌, length, ⊤}
use Rattle.capture.specs.First.{Responses, First, Message, BodyNeeded, IsFirst}
use Rattle.capture.specs.Methods.{asks_for_head}
use Rattle.capture.specs.WellFormed.{RespondsTo}
use Rattle.http_head.specs.declared.head.Received.{Received}
use Rattle.http_head.specs.declared.head.WireFault.{WireFault}
use Rattle.http_head.specs.declared.head.WireFault.TheVariants as wire_fault
use Rattle.warc_reader.specs.declared.blocks.BlockFault.{BlockFault}
use Rattle.warc_reader.specs.declared.blocks.BlockFault.TheVariants.{NoMessage, Memory}

-- a block, the method that it answers, and whether it was truncated
pub record Answered : Type 0 where
  pub method : List ℕ
  pub truncated : Bool
  pub block : List ℕ

-- a response up to its empty line, its body as it stood on the wire, and whether it ends inside that
pub record Parts : Type 0 where
  pub head : List ℕ
  pub wire : List ℕ
  pub cut : Bool

-- a whole response is within the limits of a reader; one that ends inside its body is so by itself
abbrev pub IsWithin : Bool → List ℕ → List ℕ → Type 0
IsWithin false method block = IsFirst (Responses (asks_for_head method)) true block (Message (length block))
IsWithin true method block = ⊤

-- the block is this response
pub record IsBlockOf (answered : Answered) (parts : Parts) : Type 0 where
  pub composed : answered.block ≡ parts.head ++ parts.wire
  pub responds : RespondsTo parts.cut answered.method parts.head parts.wire
  pub within : IsWithin parts.cut answered.method answered.block
  pub marked : parts.cut ≡ true → answered.truncated ≡ true

-- the block is no response
abbrev pub HasNoResponse : Answered → Type 0
HasNoResponse answered = (parts : Parts) → ¬ (IsBlockOf answered parts)

-- ---- steps of a reader

abbrev pub answered : List ℕ → Bool → List ℕ → Answered
answered method truncated block = record { method = method; truncated = truncated; block = block }

-- a response as it was read
abbrev pub received_parts : Received → Parts
received_parts received = record { head = received.head.text; wire = received.wire; cut = received.cut }

-- what stands first in the block isn't a message up to its end, nor one that ends inside its body
pub record IsOther (answers_head : Bool) (block : List ℕ) : Type 0 where
  pub first : First
  pub is : IsFirst (Responses answers_head) true block first
  pub not_whole : first ≢ Message (length block)
  pub not_cut : first ≢ BodyNeeded

-- what a reader's fault says of a block
abbrev pub block_fault_of : WireFault → BlockFault
block_fault_of wire_fault.Memory = Memory
block_fault_of other = NoMessage
