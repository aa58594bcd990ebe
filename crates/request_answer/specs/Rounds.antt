-- One connection, as rounds of a request and its answer.
use Rattle.std.specs.Prelude.{◌≡◌, ◌≢◌, ◌⊎◌, ℕ, ◌+◌, Bool, true, false, ◌||◌, List, [], ◌∷◌, ◌++◌, length, codes, Option, Some, None, IsTrue, MatchBool, Err}
use Rattle.capture.specs.Captures.{captures}
use Rattle.capture.specs.Methods.{asks_for_head}
use Rattle.capture.specs.declared.refusal.Refusal.{Refusal}
use Rattle.capture.specs.declared.refusal.Refusal.TheVariants.{DialFault, OriginFault, NoCapture, DiskFault}
use Rattle.exchange.specs.declared.aim.Aim.TheVariants.{Origin, Site as ToSite}
use Rattle.exchange.specs.Refusals.{refusal_text, memory_text}
use Rattle.exchange.specs.Texts.{answered}
use Rattle.exchange.specs.declared.fetching.FetchFault.TheVariants as fetch_fault
use Rattle.cdx_query.specs.Answers.{media_type_of}
use Rattle.head_lines.specs.Lines.{status_line, close_line_where}
use Rattle.httparse.specs.Ascii.{crlf_bytes}
use Rattle.http_head.specs.declared.head.RequestHead.{RequestHead}
use Rattle.replay_answer.specs.Mementos.{IsMemento, delivery_of}
use Rattle.replay_url.specs.Questions.{ForNearest, is_as_received, is_by_gate}
use Rattle.timegate.specs.Redirect.{redirect_text}
use Rattle.timemap.specs.LinkList.{timemap_text}
use Rattle.request_answer.specs.Exchanges.{Exchange, Reply, Fails, Passes, Fetched, IsReply}
use Rattle.request_answer.specs.Requests.{IsAsked, IsRefused, IsInterim, closes_after}
use Rattle.request_answer.specs.SiteAnswers.{SiteRequest, SiteReply, Refuses, Redirects, Replays, Lists, Finds, Ships, HasNoMore, IsSiteReply, found_text}
use Rattle.request_answer.specs.Traces.{Terms, View, Traces, IsIdle, CountsMet, StaysView}

-- What was decided of a client's bytes: nothing; they were refused for themselves, with a head or without one; they are a request
-- that goes to an origin, or to the archive's own site.
pub data Outcome : Type 0 where
  Undecided : Outcome
  Refused : (head : Option RequestHead) (refusal : Refusal) → Outcome
  Exchanged : (exchange : Exchange) (reply : Reply) → Outcome
  Visited : (request : SiteRequest) (reply : SiteReply) → Outcome

-- One request and its answer: the client's bytes that it took, what was decided of them, whether there was no memory to go on from
-- there, what that left outside, the text written in the middle of it, and the text of the answer.
pub record Round : Type 0 where
  pub wire : List ℕ
  pub outcome : Outcome
  pub lacked : Bool
  pub traces : Traces
  pub interim : List ℕ
  pub text : List ℕ

-- ---- closing

-- whether the connection closes with an outcome, behind so many requests: also with a response that was cut
abbrev pub closes_outcome : ℕ → Outcome → Bool
closes_outcome served Undecided = true
closes_outcome served (Refused head refusal) = true
closes_outcome served (Exchanged e (Fails refusal)) = closes_after served e.message.head
closes_outcome served (Exchanged e (Passes received payload)) = received.cut || closes_after served e.message.head
closes_outcome served (Visited q reply) = closes_after served q.message.head

-- ---- faults

-- a fault of the dialer or of one of its links was met
abbrev pub origin_fault : Outcome → ℕ
origin_fault (Exchanged e (Fails DialFault)) = 1
origin_fault (Exchanged e (Fails OriginFault)) = 1
origin_fault other = 0

-- a fault of the disk was met
abbrev pub disk_fault : Outcome → ℕ
disk_fault (Exchanged e (Fails DiskFault)) = 1
disk_fault (Visited q (Refuses DiskFault)) = 1
disk_fault other = 0

-- ---- a lawful round

-- What the bytes are, and what followed. Where nothing was decided memory ran out, and nothing was stored: nobody was asked, whatever the bytes are; or they
-- are a request to an origin, and the clock alone was asked, or the clock and that origin, which got the whole request.
abbrev pub IsDecided : Terms → Round → Outcome → Type 0
IsDecided terms r Undecided =
    IsTrue r.lacked × StaysView terms r.traces.before r.traces.after
    × (((r.traces.times ≡ []) × (r.traces.transcripts ≡ []))
    ⊎ ((e : Exchange) × IsAsked terms.site r.wire e.message (Origin e.target)
    × (((now : ℕ) × (r.traces.times ≡ now ∷ []) × (r.traces.transcripts ≡ [])) ⊎ Fetched e (Err fetch_fault.Memory) r.traces)))
IsDecided terms r (Refused head refusal) = IsRefused terms.site r.wire head refusal × IsIdle terms r.traces
IsDecided terms r (Exchanged e reply) =
    IsAsked terms.site r.wire e.message (Origin e.target) × IsReply terms e reply r.traces
IsDecided terms r (Visited q reply) =
    IsAsked terms.site r.wire q.message (ToSite q.address) × IsIdle terms r.traces × IsSiteReply terms q reply r.traces.before

-- The text of an answer, where memory sufficed, by whether the connection closes with it. The type of a list of links is that of RFC 6690, section 7.3;
-- where the next piece is still to come there is nothing as yet (RFC 9110, section 15.3.5).
abbrev pub IsTextOf : Terms → Outcome → Bool → List ℕ → Type 0
IsTextOf terms Undecided closes text = text ≡ memory_text
IsTextOf terms (Refused None refusal) closes text = text ≡ refusal_text refusal false closes
IsTextOf terms (Refused (Some head) refusal) closes text = text ≡ refusal_text refusal (asks_for_head head.method) closes
IsTextOf terms (Exchanged e (Fails refusal)) closes text = text ≡ refusal_text refusal (asks_for_head e.message.head.method) closes
IsTextOf terms (Exchanged e (Passes received payload)) closes text =
    text ≡ answered received payload (asks_for_head e.message.head.method) closes
IsTextOf terms (Visited q (Refuses refusal)) closes text = text ≡ refusal_text refusal (asks_for_head q.message.head.method) closes
IsTextOf terms (Visited q (Redirects sought entry)) closes text =
    text ≡ redirect_text terms.site.base sought.url entry sought.raw (is_by_gate sought) closes
IsTextOf terms (Visited q (Replays question brought)) closes text =
    IsMemento terms.site.base brought (delivery_of (is_as_received question) (asks_for_head q.message.head.method) closes) text
IsTextOf terms (Visited q (Lists url entries)) closes text =
    text ≡ found_text (codes "application/link-format") (timemap_text terms.site.base url entries) (asks_for_head q.message.head.method) closes
IsTextOf terms (Visited q (Finds query found)) closes text =
    text ≡ found_text (media_type_of query.json) found (asks_for_head q.message.head.method) closes
IsTextOf terms (Visited q (Ships number piece)) closes text =
    text ≡ found_text (codes "application/warc") piece (asks_for_head q.message.head.method) closes
IsTextOf terms (Visited q (HasNoMore number)) closes text =
    text ≡ status_line 204 (codes "No Content") ++ close_line_where closes ++ crlf_bytes

-- the number of the capture that was stored
abbrev pub numbers_by : Outcome → View → List ℕ
numbers_by Undecided before = []
numbers_by (Refused head refusal) before = []
numbers_by (Exchanged e (Fails refusal)) before = []
numbers_by (Exchanged e (Passes received payload)) before = length (captures before.book) ∷ []
numbers_by (Visited q reply) before = []

-- A lawful round, behind so many requests. The counts of faults rose by what it met, and else stayed. Memory may run out before anything is decided, or
-- for the text of an answer of the site's: where it did nothing was stored, and nothing was refused, since no memory is needed to refuse.
pub record IsRound (terms : Terms) (served : ℕ) (r : Round) : Type 0 where
  pub decided : IsDecided terms r r.outcome
  pub dialer : CountsMet (origin_fault r.outcome) r.traces.before.dialer_faults r.traces.after.dialer_faults
  pub disk : CountsMet (disk_fault r.outcome) r.traces.before.disk_faults r.traces.after.disk_faults
  pub lacking : IsTrue r.lacked → (r.outcome ≡ Undecided)
      ⊎ ((q : SiteRequest) × (reply : SiteReply) × (r.outcome ≡ Visited q reply) × ((refusal : Refusal) → reply ≢ Refuses refusal))
  pub interim_is : IsInterim terms.site r.wire r.interim ⊎ (IsTrue r.lacked × (r.interim ≡ []))
  pub text_is : MatchBool r.lacked (r.text ≡ memory_text) (IsTextOf terms r.outcome (closes_outcome served r.outcome) r.text)

-- ---- courses

-- the answer is taken from the entries that are shown
abbrev pub is_from_shown : Outcome → Bool
is_from_shown (Visited q (Refuses NoCapture)) = true
is_from_shown (Visited q (Redirects sought entry)) = true
is_from_shown (Visited q (Replays (ForNearest sought) brought)) = true
is_from_shown (Visited q (Lists url entries)) = true
is_from_shown (Visited q (Finds query found)) = true
is_from_shown other = false
