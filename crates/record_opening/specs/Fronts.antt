-- What the rest of a volume's file is by its first bytes.
use Rattle.std.specs.Prelude.{◌≡◌, ◌⊎◌, ℕ, Bool, true, List, [], ◌∷◌}
use Rattle.capture.specs.Tails.{IsCommitted}
use Rattle.warc_text.specs.StandsFor.{commit_byte}
use Rattle.record_opening.specs.Rests.{IsEnd, IsUnfinished, IsCommittedRest}
use Rattle.record_opening.specs.declared.front.Front.{Front}
use Rattle.record_opening.specs.declared.front.Front.TheVariants.{Nothing, Tail, Begun, Committed}

-- nothing has come, or the commit byte alone
abbrev pub IsBegun : List ℕ → Type 0
IsBegun bytes = (bytes ≡ []) ⊎ (bytes ≡ commit_byte ∷ [])

abbrev pub IsFront : Bool → List ℕ → Front → Type 0
IsFront more bytes Nothing = IsEnd more bytes
IsFront more bytes Tail = IsUnfinished more bytes
IsFront more bytes Begun = (more ≡ true) × IsBegun bytes
IsFront more bytes Committed = IsCommitted commit_byte bytes × IsCommittedRest more bytes
