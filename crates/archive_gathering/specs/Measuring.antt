-- How long the payload of a response is, by its head and by its wire (RFC 9112, section 6.3).
use Rattle.std.specs.Prelude.{◌≡◌, ℕ, ◌^◌, ◌≤◌, false, List, length, Ok, ⊤}
use Rattle.httparse.specs.Grammar.{ResponseHead}
use Rattle.capture.specs.Captures.{HasPayload}
use Rattle.capture.specs.Framing.{response_framing}
use Rattle.capture.specs.Methods.{asks_for_head}
use Rattle.capture.specs.declared.framing.Framing.TheVariants.{Length}
use Rattle.archive_gathering.specs.declared.measuring.Told.{Told}
use Rattle.archive_gathering.specs.declared.measuring.Told.TheVariants.{Any, Exactly, TooMany}

-- what the head tells of the length
abbrev pub TellsLength : List ℕ → ResponseHead → Told → Type 0
TellsLength method head Any = (n : ℕ) → response_framing (asks_for_head method) head ≡ Ok (Length n) → ⊥
TellsLength method head (Exactly told) = response_framing (asks_for_head method) head ≡ Ok (Length told)
TellsLength method head TooMany = (n : ℕ) × (response_framing (asks_for_head method) head ≡ Ok (Length n)) × (2 ^ 64 ≤ n)

-- a length agrees with what is told
abbrev pub Agrees : Told → ℕ → Type 0
Agrees Any len = ⊤
Agrees (Exactly told) len = told ≡ len
Agrees TooMany len = ⊥

-- the length is that of the payload of the whole wire, if it has one
abbrev pub IsLengthOf : List ℕ → List ℕ → List ℕ → ℕ → Type 0
IsLengthOf method head wire len = (payload : List ℕ) → HasPayload false method head wire payload → len ≡ length payload
