-- The final response of a stream, behind interim ones (RFC 9110, section 15.2), which are dropped.
use Rattle.std.specs.Prelude.{◌≡◌, ℕ, ◌+◌, ◌<◌, ◌≤◌, Bool, List, ◌++◌, length, All}
use Rattle.std.specs.List.{flat_map}
use Rattle.httparse.specs.Grammar.{ResponseHead, status_code}
use Rattle.capture.specs.First.{Responses, First, IsFirst}
use Rattle.capture.specs.Head.{front_of}
use Rattle.capture.specs.Head as head
use Rattle.capture.specs.Message.{IsResponseHeadText}
use Rattle.capture.specs.declared.limits.TheConstants.{INTERIM_LIMIT}

-- the text is one interim response within the limits, behind line ends that are skipped; it has no body
pub record IsInterim (text : List ℕ) : Type 0 where
  pub skipped : ℕ
  pub head_text : List ℕ
  pub parsed : ResponseHead
  pub front : front_of text ≡ head.Head skipped head_text
  pub all : length text ≡ skipped + length head_text
  pub head : IsResponseHeadText head_text parsed
  pub interim : status_code parsed < 200

-- an interim response stands at the front
abbrev pub BeginsWithInterim : List ℕ → Type 0
BeginsWithInterim stream = (text : List ℕ) × (rest : List ℕ) × IsInterim text × (stream ≡ text ++ rest)

-- the rest of the stream stands behind these interim responses, of which there are no more than are dropped
pub record BehindInterims (stream : List ℕ) (interims : List (List ℕ)) (rest : List ℕ) : Type 0 where
  pub each : All IsInterim interims
  pub few : length interims ≤ INTERIM_LIMIT
  pub composed : stream ≡ flat_map (λ text. text) interims ++ rest

-- what an origin's stream comes to
pub data Arrival : Type 0 where
  Arrived : (behind : ℕ) (first : First) → Arrival
  TooManyInterim : Arrival

-- what stands behind the interim responses, and where; or one interim response more than are dropped
abbrev pub IsArrival : Bool → Bool → List ℕ → Arrival → Type 0
IsArrival answers_head ended stream (Arrived behind first) =
    (interims : List (List ℕ)) × (rest : List ℕ) × BehindInterims stream interims rest
    × ¬ (BeginsWithInterim rest) × (behind + length rest ≡ length stream)
    × IsFirst (Responses answers_head) ended rest first
IsArrival answers_head ended stream TooManyInterim =
    (interims : List (List ℕ)) × (rest : List ℕ) × BehindInterims stream interims rest
    × (length interims ≡ INTERIM_LIMIT) × BeginsWithInterim rest
