-- How a connection ends.
use Rattle.std.specs.Prelude.{◌≡◌, ◌≢◌, ◌⊎◌, ℕ, true, false, List, [], ◌∷◌, ◌++◌, Option}
use Rattle.capture.specs.declared.refusal.Refusal.{Refusal}
use Rattle.capture.specs.declared.site.Site.{Site}
use Rattle.capture.specs.First.{Requests, NothingBegun, IsFirst}
use Rattle.exchange.specs.Writing.{GrowsByProperFront}
use Rattle.outside.specs.Calls.{one_more}
use Rattle.outside.specs.declared.gate.Heard.{Heard}
use Rattle.http_head.specs.declared.head.RequestHead.{RequestHead}
use Rattle.http_wire.specs.Heads.{BeginsWithRequest}
use Rattle.request_answer.specs.Requests.{IsInside, IsInterim, interim_of}
use Rattle.request_answer.specs.Rounds.{Round, Refused}
use Rattle.session.specs.Courses.{course_text, is_closed, lacks}
use Rattle.session.specs.declared.served.Served.{Served}
use Rattle.session.specs.declared.served.Served.TheVariants.{Done, ClientBroke, ClientEndedEarly, ClientRefused, WantOfMemory}

-- rounds behind so many requests, and what the client gave behind them
pub record Course : Type 0 where
  pub served : ℕ
  pub rounds : List Round
  pub rest : List ℕ

-- A write of the last answer failed, and no other.
pub record IsCutShort (c : Course) (then now : Heard) : Type 0 where
  pub init : List Round
  pub last : Round
  pub are : c.rounds ≡ init ++ last ∷ []
  pub part : GrowsByProperFront (then.written ++ (course_text init ++ last.interim)) now.written last.text
  pub unwritten : now.failed_writes ≡ one_more then.failed_writes

-- A write failed of the text that a head asks for before its body is read, and no other.
pub record IsCutInside (site : Site) (c : Course) (then now : Heard) : Type 0 where
  pub not_closed : is_closed c.served c.rounds ≡ false
  pub begun : List ℕ
  pub unread : List ℕ
  pub are : c.rest ≡ begun ++ unread
  pub head : RequestHead
  pub begins : BeginsWithRequest begun head
  pub part : GrowsByProperFront (then.written ++ course_text c.rounds) now.written (interim_of site head)
  pub unwritten : now.failed_writes ≡ one_more then.failed_writes

-- All was answered, and the last answer closes.
pub record IsClosed (c : Course) (then now : Heard) : Type 0 where
  pub written : now.written ≡ then.written ++ course_text c.rounds
  pub unfailed : now.failed_writes ≡ then.failed_writes
  pub closed : is_closed c.served c.rounds ≡ true

-- All was answered, and no answer closes; of what is left over at most the text that a head asks for was written.
pub record IsLeftOver (site : Site) (c : Course) (then now : Heard) : Type 0 where
  pub not_closed : is_closed c.served c.rounds ≡ false
  pub interim : List ℕ
  pub interim_is : IsInterim site c.rest interim
  pub written : now.written ≡ then.written ++ (course_text c.rounds ++ interim)
  pub unfailed : now.failed_writes ≡ then.failed_writes

-- How a connection ended says where it stopped. Its link is whole: an answer closed it, which refused the bytes that came or didn't; or
-- the client's end was met, where nothing has begun but line ends that are skipped, or inside a message. Its link failed: in a write of an answer or of the text that
-- asks for a body, or in a read, at such a place. There was no memory: with the answer that says so, whole or in part.
abbrev pub Ends : Served → Site → Course → Heard → Heard → Type 0
Ends Done site c then now =
    (now.faults ≡ 0) × (lacks c.rounds ≡ false)
    × ((init : List Round) (last : Round) (head : Option RequestHead) (refusal : Refusal) → c.rounds ≡ init ++ last ∷ [] → last.outcome ≢ Refused head refusal)
    × (IsClosed c then now ⊎ ((now.ended ≡ true) × IsFirst Requests true c.rest NothingBegun × IsLeftOver site c then now))
Ends ClientBroke site c then now =
    (now.faults ≢ 0) × (lacks c.rounds ≡ false)
    × (IsCutShort c then now ⊎ IsCutInside site c then now
    ⊎ ((IsFirst Requests true c.rest NothingBegun ⊎ IsInside site c.rest) × IsLeftOver site c then now))
Ends ClientEndedEarly site c then now =
    (now.faults ≡ 0) × (lacks c.rounds ≡ false) × (now.ended ≡ true) × IsInside site c.rest × IsLeftOver site c then now
Ends (ClientRefused refusal) site c then now =
    (now.faults ≡ 0) × (lacks c.rounds ≡ false)
    × ((init : List Round) × (last : Round) × (head : Option RequestHead) × (c.rounds ≡ init ++ last ∷ []) × (last.outcome ≡ Refused head refusal))
    × IsClosed c then now
Ends WantOfMemory site c then now = (lacks c.rounds ≡ true) × (IsClosed c then now ⊎ IsCutShort c then now)
