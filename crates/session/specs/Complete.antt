-- Which requests are answered. Where no object failed, a lawful round that decided such a request has its answer.
use Rattle.std.specs.Prelude.{◌≡◌, ℕ, ◌-◌, ◌^◌, ◌<◌, ◌≤◌, Bool, true, false, ◌||◌, IsTrue, List, length, Contains, Option, Some, ⊤}
use Rattle.capture.specs.Captures.{captures}
use Rattle.capture.specs.Final.{Arrived, IsArrival}
use Rattle.capture.specs.First.{Message, BodyNeeded}
use Rattle.capture.specs.Methods.{asks_for_head}
use Rattle.capture.specs.declared.refusal.Refusal.{Refusal}
use Rattle.capture.specs.declared.site.Site.{Site}
use Rattle.cdx_query.specs.Reading.{IsQuery}
use Rattle.cdx_query.specs.declared.query.Query.{Query}
use Rattle.index_entry.specs.Queries.{HasNone}
use Rattle.exchange.specs.Texts.{answered}
use Rattle.exchange.specs.declared.aim.Aim.{Aim}
use Rattle.http_head.specs.declared.head.Received.{Received}
use Rattle.http_head.specs.declared.head.RequestHead.{RequestHead}
use Rattle.http_head.specs.declared.head.RequestMessage.{RequestMessage}
use Rattle.outside.specs.declared.dialer.Transcript.{Transcript}
use Rattle.replay_url.specs.Questions.{Question, ForNearest, ForAll, ForQuery, ForNumber, ForPiece, question_of}
use Rattle.replay_url.specs.declared.form.Form.{Form}
use Rattle.request_answer.specs.Exchanges.{Exchange, Reply, Passes, IsPassedOn}
use Rattle.request_answer.specs.Requests.{IsAsked, IsRefused, closes_after}
use Rattle.request_answer.specs.Rounds.{Round, Exchanged, Visited, IsRound, IsTextOf}
use Rattle.request_answer.specs.SiteAnswers.{SiteRequest, SiteReply, Refuses, Redirects, Replays, Lists, Finds, Ships, HasNoMore, Asks}
use Rattle.request_answer.specs.Traces.{Terms, View, Traces}
use Rattle.surt_key.specs.Key.{key_of}
use Rattle.time_text.specs.Texts.{InRange}

-- Neither count of faults rose. A count in 64 bits stands still at its last value.
pub record IsFaultless (traces : Traces) : Type 0 where
  pub dialer : traces.after.dialer_faults ≡ traces.before.dialer_faults
  pub dialer_counts : traces.before.dialer_faults < 2 ^ 64 - 1
  pub disk : traces.after.disk_faults ≡ traces.before.disk_faults
  pub disk_counts : traces.before.disk_faults < 2 ^ 64 - 1

-- ---- origins

-- The origin gave a final response within the limits, behind no more interim ones than are dropped: a whole one, or one that the
-- link's end cut inside its body.
abbrev pub GaveResponse : Exchange → Bool → Transcript → Type 0
GaveResponse e false t = (behind : ℕ) × (used : ℕ) × IsArrival (asks_for_head e.message.head.method) t.ended t.given (Arrived behind (Message used))
GaveResponse e true t =
    (behind : ℕ) × IsArrival (asks_for_head e.message.head.method) t.ended t.given (Arrived behind BodyNeeded) × (t.ended ≡ true)

-- the clock's answer has a text, the origin gave a response, and there is room for its capture
pub record CanBePassedOn (terms : Terms) (e : Exchange) (cut : Bool) (traces : Traces) : Type 0 where
  pub in_range : (date : ℕ) → Contains traces.times date → InRange date
  pub gave : (t : Transcript) → Contains traces.transcripts t → GaveResponse e cut t
  pub room : length (captures traces.before.book) < terms.limits.captures

-- the response was stored and passed on, as it came
pub record GetsResponse (terms : Terms) (served : ℕ) (r : Round) (e : Exchange) (cut : Bool) : Type 0 where
  pub received : Received
  pub payload : List ℕ
  pub outcome_is : r.outcome ≡ Exchanged e (Passes received payload)
  pub passed : IsPassedOn terms e received payload r.traces
  pub cut_is : received.cut ≡ cut
  pub text_is : r.text ≡ answered received payload (asks_for_head e.message.head.method) (received.cut || closes_after served e.message.head)

abbrev pub ResponsesArePassedOn : Type 0
ResponsesArePassedOn =
    (terms : Terms) (served : ℕ) (r : Round) (e : Exchange) (reply : Reply) (cut : Bool)
    → IsRound terms served r → r.outcome ≡ Exchanged e reply → IsTrue terms.tells → IsFaultless r.traces
    → CanBePassedOn terms e cut r.traces → GetsResponse terms served r e cut

-- ---- the site

-- a capture of the URL's key is shown
abbrev pub HasShown : View → List ℕ → Type 0
HasShown view url = (key : List ℕ) → key_of url ≡ Some key → ¬ (HasNone view.shown key)

-- the book has a capture of the number, or one of the URL's key is shown; the text is a query; or the piece is one of the book's, or
-- the next
abbrev pub HasWanted : View → Question → Type 0
HasWanted view (ForNumber number) = number < length (captures view.book)
HasWanted view (ForNearest sought) = HasShown view sought.url
HasWanted view (ForAll url) = HasShown view url
HasWanted view (ForQuery text) = (query : Query) × IsQuery text query
HasWanted view (ForPiece number) = number ≤ length (captures view.book)

-- a redirect, a capture, a list, what a query finds, a piece, or that there is none as yet
abbrev pub IsAnswer : SiteReply → Type 0
IsAnswer (Refuses refusal) = ⊥
IsAnswer (Redirects sought entry) = ⊤
IsAnswer (Replays question brought) = ⊤
IsAnswer (Lists url entries) = ⊤
IsAnswer (Finds query found) = ⊤
IsAnswer (Ships number piece) = ⊤
IsAnswer (HasNoMore number) = ⊤

-- such an answer was decided, and its text was written where memory sufficed
pub record GetsAnswer (terms : Terms) (served : ℕ) (r : Round) (q : SiteRequest) (reply : SiteReply) : Type 0 where
  pub answer : IsAnswer reply
  pub text_is : r.lacked ≡ false → IsTextOf terms (Visited q reply) (closes_after served q.message.head) r.text

abbrev pub CapturesThatAreThereAreReplayed : Type 0
CapturesThatAreThereAreReplayed =
    (terms : Terms) (served : ℕ) (r : Round) (q : SiteRequest) (reply : SiteReply) (form : Form)
    → IsRound terms served r → r.outcome ≡ Visited q reply → IsTrue terms.tells → IsFaultless r.traces
    → Asks q form → HasWanted r.traces.before (question_of form) → GetsAnswer terms served r q reply

-- ---- requests

-- bytes that are one request which goes somewhere aren't refused for themselves
abbrev pub RequestsAreNotRefused : Type 0
RequestsAreNotRefused =
    (site : Site) (wire : List ℕ) (message : RequestMessage) (aim : Aim) (head : Option RequestHead) (refusal : Refusal)
    → IsAsked site wire message aim → ¬ (IsRefused site wire head refusal)
