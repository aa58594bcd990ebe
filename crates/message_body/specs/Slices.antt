-- What is left of a payload that is walked over where it lies in its wire.
use Rattle.std.specs.Prelude.{◌≡◌, ◌⊎◌, ℕ, Bool, true, false, List, [], ◌++◌}
use Rattle.capture.specs.Payload.{IsJoined, IsCutJoined}
use Rattle.capture.specs.declared.framing.Framing.{Framing}
use Rattle.capture.specs.declared.framing.Framing.TheVariants.{Empty, Length, Chunked, ToEnd}

-- the data of what is left of a wire, which is as it stands, or chunked and whole or cut
abbrev pub IsLeft : Bool → List ℕ → List ℕ → Type 0
IsLeft false rest left = left ≡ rest
IsLeft true rest left = IsJoined rest left ⊎ IsCutJoined rest left

-- chunks stand in a wire of this framing
abbrev pub is_chunked : Framing → Bool
is_chunked Empty = false
is_chunked (Length n) = false
is_chunked Chunked = true
is_chunked ToEnd = false

-- the slice stands at the front of what was left, and this is left behind it; it is empty at the end alone
pub record LeavesBehind (left slice : List ℕ) (chunked : Bool) (rest : List ℕ) : Type 0 where
  pub behind : List ℕ
  pub splits : left ≡ slice ++ behind
  pub is : IsLeft chunked rest behind
  pub end : slice ≡ [] → left ≡ []
