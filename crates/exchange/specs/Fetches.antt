-- What asking an origin leaves: one link to it, what went over that link, and what came of it (RFC 9112, sections 6.3 and 9).
use Rattle.std.specs.Prelude.{◌≡◌, ◌⊎◌, ℕ, ◌<◌, ◌≤◌, Bool, true, false, List, [], take, drop, Result, Ok, Err, ⊤}
use Rattle.capture.specs.Faults.{Rose}
use Rattle.capture.specs.Final.{Arrived, TooManyInterim as MoreInterim, IsArrival}
use Rattle.capture.specs.First.{First, Message, Refused, HeadNeeded, BodyNeeded}
use Rattle.capture.specs.declared.framing.MessageFault.TheVariants as message_fault
use Rattle.http_head.specs.declared.head.Received.{Received}
use Rattle.http_wire.specs.Messages.{IsResponse}
use Rattle.outside.specs.Records.{Links, logged}
use Rattle.outside.specs.declared.dialer.Transcript.{Transcript}
use Rattle.exchange.specs.Writing.{IsProperFrontOf}
use Rattle.exchange.specs.declared.aim.Target.{Target}
use Rattle.exchange.specs.declared.fetching.FetchFault.{FetchFault}
use Rattle.exchange.specs.declared.fetching.FetchFault.TheVariants.{DialFault, OriginFault, OriginEnded, OriginMalformed, OriginTooLong, TooManyInterim, Memory}

-- the stream comes to this, behind the interim responses
abbrev pub ComesTo : Bool → Bool → List ℕ → First → Type 0
ComesTo answers_head ended given first = (behind : ℕ) × IsArrival answers_head ended given (Arrived behind first)

-- the response stands whole behind the interim ones; what follows it is dropped
pub record ArrivesWhole (answers_head ended : Bool) (given : List ℕ) (received : Received) : Type 0 where
  pub behind : ℕ
  pub used : ℕ
  pub arrival : IsArrival answers_head ended given (Arrived behind (Message used))
  pub response : IsResponse answers_head (take used (drop behind given)) received
  pub whole : received.cut ≡ false

-- the stream ended inside the body of the response behind the interim ones
pub record ArrivesCut (answers_head ended : Bool) (given : List ℕ) (received : Received) : Type 0 where
  pub behind : ℕ
  pub met : ended ≡ true
  pub arrival : IsArrival answers_head true given (Arrived behind BodyNeeded)
  pub response : IsResponse answers_head (drop behind given) received
  pub cut : received.cut ≡ true

-- What a link gave and whether its end was met, by what came of it. Of a link that failed the response goes on.
abbrev pub Receives : Bool → Result Received FetchFault → List ℕ → Bool → Type 0
Receives answers_head (Ok received) given ended =
    ArrivesWhole answers_head ended given received ⊎ ArrivesCut answers_head ended given received
Receives answers_head (Err DialFault) given ended = ⊥
Receives answers_head (Err OriginFault) given ended =
    ComesTo answers_head false given HeadNeeded ⊎ ComesTo answers_head false given BodyNeeded
Receives answers_head (Err OriginEnded) given ended = (ended ≡ true) × ComesTo answers_head ended given HeadNeeded
Receives answers_head (Err OriginMalformed) given ended =
    ComesTo answers_head ended given (Refused message_fault.Malformed)
    ⊎ ComesTo answers_head ended given (Refused message_fault.CodingRefused)
Receives answers_head (Err OriginTooLong) given ended =
    ComesTo answers_head ended given (Refused message_fault.HeadTooLong)
    ⊎ ComesTo answers_head ended given (Refused message_fault.BodyTooLong)
Receives answers_head (Err TooManyInterim) given ended = IsArrival answers_head ended given MoreInterim
Receives answers_head (Err Memory) given ended = ⊤

-- What a link took, by what came of it: the whole request, unless the link failed while it was written.
abbrev pub Sends : Result Received FetchFault → (request taken given : List ℕ) → Type 0
Sends (Ok received) request taken given = taken ≡ request
Sends (Err DialFault) request taken given = ⊥
Sends (Err OriginFault) request taken given = (taken ≡ request) ⊎ (IsProperFrontOf taken request × (given ≡ []))
Sends (Err OriginEnded) request taken given = taken ≡ request
Sends (Err OriginMalformed) request taken given = taken ≡ request
Sends (Err OriginTooLong) request taken given = taken ≡ request
Sends (Err TooManyInterim) request taken given = taken ≡ request
Sends (Err Memory) request taken given = taken ≡ request

-- How often a link failed, by what came of it: it did where that is the answer, and else never.
abbrev pub LinkFaults : Result Received FetchFault → ℕ → Type 0
LinkFaults (Err OriginFault) faults = 0 < faults
LinkFaults other faults = faults ≡ 0

-- what is asked of an origin: where, with which text, and whether by HEAD
pub record Asking : Type 0 where
  pub target : Target
  pub request : List ℕ
  pub answers_head : Bool

-- The transcript is of one link to the target, which took the request and gave what this came of.
pub record IsFetched (asking : Asking) (t : Transcript) (outcome : Result Received FetchFault) : Type 0 where
  pub host : t.host ≡ asking.target.host
  pub port : t.port ≡ asking.target.port
  pub sent : Sends outcome asking.request t.sent t.given
  pub received : Receives asking.answers_head outcome t.given t.ended
  pub faults : LinkFaults outcome t.faults

-- The log gains the transcript of the fetch, and no link is left out.
pub record LogsFetched (asking : Asking) (outcome : Result Received FetchFault) (old new : Links Transcript) : Type 0 where
  pub t : Transcript
  pub gains : new ≡ logged old t
  pub fetched : IsFetched asking t outcome

-- The log gains the transcript of the fetch, or nothing where no link was made; no link is left out.
abbrev pub LogsFetch : Asking → Result Received FetchFault → (old new : Links Transcript) → Type 0
LogsFetch asking (Ok received) old new = LogsFetched asking (Ok received) old new
LogsFetch asking (Err DialFault) old new = new ≡ old
LogsFetch asking (Err OriginFault) old new = LogsFetched asking (Err OriginFault) old new
LogsFetch asking (Err OriginEnded) old new = LogsFetched asking (Err OriginEnded) old new
LogsFetch asking (Err OriginMalformed) old new = LogsFetched asking (Err OriginMalformed) old new
LogsFetch asking (Err OriginTooLong) old new = LogsFetched asking (Err OriginTooLong) old new
LogsFetch asking (Err TooManyInterim) old new = LogsFetched asking (Err TooManyInterim) old new
LogsFetch asking (Err Memory) old new = (new ≡ old) ⊎ LogsFetched asking (Err Memory) old new

-- A count of faults rises where a fault of the origin is answered, and else stays.
abbrev pub CountsFetch : ℕ → ℕ → Result Received FetchFault → Type 0
CountsFetch before now (Ok received) = now ≡ before
CountsFetch before now (Err DialFault) = (before ≤ now) × Rose before now
CountsFetch before now (Err OriginFault) = (before ≤ now) × Rose before now
CountsFetch before now (Err OriginEnded) = now ≡ before
CountsFetch before now (Err OriginMalformed) = now ≡ before
CountsFetch before now (Err OriginTooLong) = now ≡ before
CountsFetch before now (Err TooManyInterim) = now ≡ before
CountsFetch before now (Err Memory) = now ≡ before
