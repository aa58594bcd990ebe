-- What lawful courses promise to those who build on them.
use Rattle.std.specs.Prelude.{◌≡◌, ◌≢◌, ℕ, List, [], ◌∷◌, Contains, IsTrue, length, ⊤}
use Rattle.archive_shelf.specs.Answers.{IsBrought}
use Rattle.archive_shelf.specs.Contents.{Begins}
use Rattle.archive_shelf.specs.Openings.{HasIds}
use Rattle.capture.specs.Captures.{captures, IsPayloadOf}
use Rattle.capture.specs.Growth.{Grows}
use Rattle.capture.specs.Payload.{IsPayload}
use Rattle.capture.specs.declared.site.Site.{Site}
use Rattle.exchange.specs.declared.aim.Aim.TheVariants.{Origin}
use Rattle.http_head.specs.declared.head.Received.{Received}
use Rattle.outside.specs.declared.dialer.Transcript.{Transcript}
use Rattle.request_answer.specs.Exchanges.{Exchange, Passes}
use Rattle.request_answer.specs.Gains.{gains_of}
use Rattle.request_answer.specs.Images.{HasAllIds}
use Rattle.request_answer.specs.Requests.{IsAsked}
use Rattle.request_answer.specs.Rounds.{Round, Exchanged, IsRound, Visited}
use Rattle.session.specs.Courses.{IsCourse, origin_faults, disk_faults}
use Rattle.request_answer.specs.Traces.{Terms, View, CountsMet, IsConsistentView}
use Rattle.capture.specs.declared.captured.Brought.{Brought}
use Rattle.capture.specs.declared.refusal.Refusal.TheVariants.{NoSuch}
use Rattle.index_entry.specs.Facts.{Facts}
use Rattle.index_entry.specs.OfBook.{IsEntryOf}
use Rattle.replay_url.specs.Questions.{Nearest, ForNearest}
use Rattle.request_answer.specs.SiteAnswers.{SiteRequest, Refuses, HasNoMore, Reaches, Replays, IsSiteReply}

-- the book only grows, from round to round and over a course
abbrev pub CoursesGrow : Type 0
CoursesGrow =
    (terms : Terms) (served : ℕ) (was : View) (rounds : List Round) (is : View)
    → IsCourse terms served was rounds is → Grows was.book is.book

-- what is shown only grows
abbrev pub CoursesShowOn : Type 0
CoursesShowOn =
    (terms : Terms) (served : ℕ) (was : View) (rounds : List Round) (is : View)
    → IsCourse terms served was rounds is → Begins was.shown is.shown

-- alone, each round's answer is decided by just the entries of its book
abbrev pub AreConsistent : Terms → List Round → Type 0
AreConsistent terms [] = ⊤
AreConsistent terms (r ∷ rounds) = IsConsistentView terms r.traces.before × AreConsistent terms rounds

-- where that holds of the archive before a course
abbrev pub CoursesStayConsistent : Type 0
CoursesStayConsistent =
    (terms : Terms) (served : ℕ) (was : View) (rounds : List Round) (is : View)
    → IsTrue terms.alone → IsCourse terms served was rounds is → IsConsistentView terms was
    → AreConsistent terms rounds × IsConsistentView terms is

-- where the ids of the last book's captures differ, and that of one more, those of each book on the way do
abbrev pub IdsDifferOnTheWay : Type 0
IdsDifferOnTheWay =
    (terms : Terms) (served : ℕ) (was : View) (rounds : List Round) (is : View)
    → IsCourse terms served was rounds is → HasIds is.book → HasAllIds rounds

-- the counts of faults rise by those that rounds met, and stay where none did
abbrev pub CoursesCountFaults : Type 0
CoursesCountFaults =
    (terms : Terms) (served : ℕ) (was : View) (rounds : List Round) (is : View)
    → IsCourse terms served was rounds is
    → CountsMet (origin_faults rounds) was.dialer_faults is.dialer_faults × CountsMet (disk_faults rounds) was.disk_faults is.disk_faults

-- ---- what a reader of a course may stop at

-- A response that was passed on is in the book that the course leaves, under the number that its capture got, with the payload of the
-- bytes that the origin gave.
abbrev pub PassedOnResponsesStay : Type 0
PassedOnResponsesStay =
    (terms : Terms) (served : ℕ) (was : View) (rounds : List Round) (is : View)
    (r : Round) (e : Exchange) (received : Received) (payload : List ℕ)
    → IsCourse terms served was rounds is → Contains rounds r → r.outcome ≡ Exchanged e (Passes received payload) → IsTrue terms.tells
    → IsPayload received.cut received.framing received.wire payload × IsPayloadOf is.book (length (captures r.traces.before.book)) payload

-- a link was made to the origin of the client's request
pub record IsDialedFor (site : Site) (r : Round) (t : Transcript) : Type 0 where
  pub exchange : Exchange
  pub asked : IsAsked site r.wire exchange.message (Origin exchange.target)
  pub host : t.host ≡ exchange.target.host
  pub port : t.port ≡ exchange.target.port

-- nobody was dialed but the origins of the client's requests
abbrev pub OriginsAloneAreDialed : Type 0
OriginsAloneAreDialed =
    (terms : Terms) (served : ℕ) (was : View) (rounds : List Round) (is : View) (t : Transcript)
    → IsCourse terms served was rounds is → Contains (gains_of rounds).transcripts t
    → (r : Round) × Contains rounds r × IsDialedFor terms.site r t

-- a round that passes no response on leaves the captures as they were
abbrev pub OtherRoundsStoreNothing : Type 0
OtherRoundsStoreNothing =
    (terms : Terms) (served : ℕ) (r : Round)
    → IsRound terms served r → ((e : Exchange) (received : Received) (payload : List ℕ) → r.outcome ≢ Exchanged e (Passes received payload))
    → captures r.traces.after.book ≡ captures r.traces.before.book

-- what is replayed by date is the capture of the entry that was found, also in company
abbrev pub FoundCapturesAreReplayed : Type 0
FoundCapturesAreReplayed =
    (terms : Terms) (q : SiteRequest) (view : View) (sought : Nearest) (brought : Brought)
    → IsSiteReply terms q (Replays (ForNearest sought) brought) view → IsTrue terms.tells
    → (entry : Facts) × Reaches q view.shown sought entry × IsEntryOf view.book entry.number entry × IsBrought view.book entry.number brought

-- a number under which an entry was shown is told as that of no capture, nor as that of the next piece, in no later round, also in company
abbrev pub ShownNumbersAreThere : Type 0
ShownNumbersAreThere =
    (terms : Terms) (served : ℕ) (was : View) (rounds : List Round) (is : View) (r : Round) (q : SiteRequest) (count : ℕ) (entry : Facts)
    → IsCourse terms served was rounds is → Contains rounds r → Contains was.shown entry
    → (r.outcome ≢ Visited q (Refuses (NoSuch entry.number count))) × (r.outcome ≢ Visited q (HasNoMore entry.number))
