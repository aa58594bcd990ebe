-- What reading a request leaves of a client's link.
use Rattle.std.specs.Prelude.{◌≡◌, ◌≢◌, ◌⊎◌, ℕ, Bool, true, false, List, [], ◌++◌, Option, Some, None, Result, Ok, Err}
use Rattle.capture.specs.Methods.{asks_for_head}
use Rattle.capture.specs.declared.refusal.Refusal.{Refusal}
use Rattle.capture.specs.declared.refusal.Refusal.TheVariants.{ConnectRefused, SecureRefused, TargetRefused}
use Rattle.capture.specs.declared.site.Site.{Site}
use Rattle.capture.specs.First.{Requests, NothingBegun, IsFirst}
use Rattle.exchange.specs.Receiving.{BeginsAccounted, StaysAccounted}
use Rattle.exchange.specs.Refusals.{refusal_text, memory_text}
use Rattle.exchange.specs.Aim.{aim_of}
use Rattle.exchange.specs.declared.aim.Aim.{Aim}
use Rattle.exchange.specs.declared.aim.AimFault.{AimFault}
use Rattle.exchange.specs.declared.aim.AimFault.TheVariants as aim_fault
use Rattle.http_head.specs.declared.head.RequestHead.{RequestHead}
use Rattle.http_head.specs.declared.head.RequestMessage.{RequestMessage}
use Rattle.http_wire.specs.Heads.{BeginsWithRequest}
use Rattle.http_wire.specs.Messages.{IsRequest}
use Rattle.outside.specs.declared.gate.Heard.{Heard}
use Rattle.request_answer.specs.Requests.{IsAsked, IsInside, IsInterim, IsRefused, IsUndecided, interim_of}
use Rattle.request_answer.specs.steps.Wire.{Breaks, Writes}
use Rattle.session.specs.steps.Wire.{EndsRefusal, Says, Tries}
use Rattle.request_answer.specs.declared.answering.Asked.{Asked}
use Rattle.session.specs.declared.served.Served.{Served}
use Rattle.session.specs.declared.served.Served.TheVariants.{Done, ClientBroke, ClientEndedEarly, ClientRefused, WantOfMemory}

-- what was heard of a client, and those of the bytes that it gave which nobody has used
pub record Client : Type 0 where
  pub heard : Heard
  pub pending : List ℕ

-- these bytes were taken, and this text was written
pub record HasTaken (from : Client) (wire interim : List ℕ) (to : Client) : Type 0 where
  pub accounts : StaysAccounted from.heard.given from.pending to.heard.given (wire ++ to.pending)
  pub said : Says interim from.heard to.heard

-- One request was read, which goes there. Where it asks to be told that its body is awaited, it was.
pub record HasRead (site : Site) (from : Client) (message : RequestMessage) (aim : Aim) (to : Client) : Type 0 where
  pub wire : List ℕ
  pub interim : List ℕ
  pub asked : IsAsked site wire message aim
  pub interim_is : IsInterim site wire interim
  pub taken : HasTaken from wire interim to

-- The head of a request was read, which goes there, and its body is awaited: where it asks to be told so, it was.
pub record AwaitsRest (site : Site) (from : Client) (stream : List ℕ) (head : RequestHead) (aim : Aim) (to : Client) : Type 0 where
  pub begins : BeginsWithRequest stream head
  pub aimed : aim_of site head.method head.target ≡ Ok aim
  pub taken : HasTaken from stream (interim_of site head) to

-- ---- no request was read

-- nothing has begun but line ends that are skipped
abbrev pub IsBetween : List ℕ → Type 0
IsBetween stream = IsFirst Requests true stream NothingBegun

-- how a connection ends where no more comes behind these bytes
abbrev pub MeetsEnd : Served → Site → List ℕ → Heard → Type 0
MeetsEnd Done site rest now = (now.ended ≡ true) × IsBetween rest × (now.faults ≡ 0)
MeetsEnd ClientBroke site rest now = now.faults ≢ 0
MeetsEnd ClientEndedEarly site rest now = (now.ended ≡ true) × IsInside site rest × (now.faults ≡ 0)
MeetsEnd (ClientRefused refusal) site rest now = ⊥
MeetsEnd WantOfMemory site rest now = ⊥

-- no more comes, and what came is no request
pub record MeetsNoMore (site : Site) (from : Client) (now : Heard) (end : Served) : Type 0 where
  pub rest : List ℕ
  pub interim : List ℕ
  pub undecided : IsUndecided site rest
  pub interim_is : IsInterim site rest interim
  pub taken : HasTaken from rest interim (record { heard = now; pending = [] })
  pub meets : MeetsEnd end site rest now

-- the link failed in the text that asks for the body
pub record BreaksInside (site : Site) (from : Client) (now : Heard) (end : Served) : Type 0 where
  pub begun : List ℕ
  pub head : RequestHead
  pub begins : BeginsWithRequest begun head
  pub to : Client
  pub taken : HasTaken from begun [] to
  pub broke : Breaks (interim_of site head) to.heard now
  pub ends : end ≡ ClientBroke

-- whether a request asks for a head alone; without a head it doesn't
abbrev pub answers_head : Option RequestHead → Bool
answers_head (Some head) = asks_for_head head.method
answers_head None = false

-- what came is refused
pub record RefusesBytes (site : Site) (from : Client) (now : Heard) (end : Served) : Type 0 where
  pub head : Option RequestHead
  pub refusal : Refusal
  pub wire : List ℕ
  pub interim : List ℕ
  pub refused : IsRefused site wire head refusal
  pub interim_is : IsInterim site wire interim
  pub to : Client
  pub taken : HasTaken from wire interim to
  pub ends : EndsRefusal refusal (refusal_text refusal (answers_head head) true) to.heard now end

-- there was no memory
pub record GivesUp (site : Site) (from : Client) (now : Heard) (end : Served) : Type 0 where
  pub wire : List ℕ
  pub interim : List ℕ
  pub interim_is : IsInterim site wire interim ⊎ (interim ≡ [])
  pub to : Client
  pub taken : HasTaken from wire interim to
  pub tries : Tries memory_text to.heard now
  pub ends : end ≡ WantOfMemory

-- how a connection ends that reads no request
pub data ReadsNone (site : Site) (from : Client) (now : Heard) (end : Served) : Type 0 where
  NoMore : (met : MeetsNoMore site from now end) → ReadsNone site from now end
  Breaking : (broke : BreaksInside site from now end) → ReadsNone site from now end
  Refusing : (refused : RefusesBytes site from now end) → ReadsNone site from now end
  GivingUp : (gave_up : GivesUp site from now end) → ReadsNone site from now end

-- ---- one message that is refused

-- a head asks to go somewhere
abbrev pub IsAimed : Site → RequestHead → Type 0
IsAimed site head = (aim : Aim) × (aim_of site head.method head.target ≡ Ok aim)

-- what is written before the body of a message is read: nothing without a head; with one, which goes somewhere, what it asks for
abbrev pub Owes : Site → Option RequestHead → List ℕ → Type 0
Owes site None interim = interim ≡ []
Owes site (Some head) interim = IsAimed site head × (interim ≡ interim_of site head)

-- what came of a client is no message, and this was written before
pub record ComesFaulty (from : Client) (stream interim : List ℕ) (to : Heard) : Type 0 where
  pub accounts : BeginsAccounted from.heard.given from.pending to.given stream
  pub said : Says interim from.heard to

-- ---- a head that is looked at

-- the head asks to go nowhere
abbrev pub IsAimedNowhere : Site → RequestHead → Refusal → Type 0
IsAimedNowhere site head refusal =
    ((aim_of site head.method head.target ≡ Err aim_fault.ConnectRefused) × (refusal ≡ ConnectRefused))
    ⊎ ((aim_of site head.method head.target ≡ Err aim_fault.SecureRefused) × (refusal ≡ SecureRefused))
    ⊎ ((aim_of site head.method head.target ≡ Err aim_fault.TargetRefused) × (refusal ≡ TargetRefused))

-- Where a head goes. It was told that its body is awaited, if it asks for that; or the connection ends: the head goes nowhere, or
-- there was no memory, or the link failed.
abbrev pub LooksAt : Site → RequestHead → Heard → Heard → Result Aim Served → Type 0
LooksAt site head then now (Ok aim) = (aim_of site head.method head.target ≡ Ok aim) × Writes (interim_of site head) then now
LooksAt site head then now (Err end) =
    ((refusal : Refusal) × IsAimedNowhere site head refusal
    × EndsRefusal refusal (refusal_text refusal (asks_for_head head.method) true) then now end)
    ⊎ (Tries memory_text then now × (end ≡ WantOfMemory))
    ⊎ (IsAimed site head × Breaks (interim_of site head) then now × (end ≡ ClientBroke))

-- what refusing a head that goes nowhere leaves
abbrev pub RefusesAim : AimFault → Bool → Heard → Heard → Served → Type 0
RefusesAim aim_fault.ConnectRefused answers_head then now end = EndsRefusal ConnectRefused (refusal_text ConnectRefused answers_head true) then now end
RefusesAim aim_fault.SecureRefused answers_head then now end = EndsRefusal SecureRefused (refusal_text SecureRefused answers_head true) then now end
RefusesAim aim_fault.TargetRefused answers_head then now end = EndsRefusal TargetRefused (refusal_text TargetRefused answers_head true) then now end
RefusesAim aim_fault.Memory answers_head then now end = Tries memory_text then now × (end ≡ WantOfMemory)

-- the request is one that was read, and goes where this head goes
pub record IsBehind (head : RequestHead) (message : RequestMessage) : Type 0 where
  pub stream : List ℕ
  pub request : IsRequest stream message
  pub same_aim : (site : Site) → aim_of site message.head.method message.head.target ≡ aim_of site head.method head.target

-- what comes of reading the body of a request that goes there
abbrev pub ReadsBody : Site → Client → Aim → Client → Result RequestMessage Served → Type 0
ReadsBody site from aim to (Ok message) = HasRead site from message aim to
ReadsBody site from aim to (Err end) = ReadsNone site from to.heard end

-- what comes of reading a request: one, or the connection's end
abbrev pub Reads : Site → Client → Client → Result Asked Served → Type 0
Reads site from to (Ok asked) = HasRead site from asked.message asked.aim to
Reads site from to (Err end) = ReadsNone site from to.heard end
