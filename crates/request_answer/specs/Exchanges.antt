-- A request that goes to an origin, and how it is answered (RFC 9110, sections 3.7 and 7.6). Refusals come in this order: for the
-- clock, for the dialer, for what the origin sent, for want of room, for the disk.
use Rattle.std.specs.Prelude.{◌≡◌, ◌⊎◌, ℕ, ◌<◌, ◌≤◌, List, [], ◌∷◌, length, IsTrue, Result, Ok, Err, Some, None}
use Rattle.index_entry.specs.OfBook.{AreEntries}
use Rattle.archive_shelf.specs.Answers.{IsDamaged, HasVolumeAlone}
use Rattle.archive_shelf.specs.Comparing.{CanRefer, RefersAsShown, RefersByDigest}
use Rattle.archive_shelf.specs.Contents.{LeadsShown}
use Rattle.archive_shelf.specs.Storing.{Gains, as_stored, Storing, stored_by}
use Rattle.archive_shelf.specs.declared.receipt.Receipt.{Receipt}
use Rattle.capture.specs.Captures.{captures, IsPayloadOf}
use Rattle.capture.specs.Methods.{asks_for_head}
use Rattle.capture.specs.Payload.{IsPayload}
use Rattle.capture.specs.declared.captured.Taken.{Taken}
use Rattle.capture.specs.declared.refusal.Refusal.{Refusal}
use Rattle.capture.specs.declared.refusal.Refusal.TheVariants.{ClockRange, DialFault, OriginFault, OriginEnded, OriginMalformed, OriginTooLong, TooManyInterim, Full, DiskFault, Damaged}
use Rattle.exchange.specs.Fetches.{IsFetched}
use Rattle.exchange.specs.Texts.{forwarded}
use Rattle.exchange.specs.declared.aim.Target.{Target}
use Rattle.exchange.specs.declared.fetching.FetchFault.{FetchFault}
use Rattle.exchange.specs.declared.fetching.FetchFault.TheVariants as fetch_fault
use Rattle.http_head.specs.declared.head.Received.{Received}
use Rattle.http_head.specs.declared.head.RequestMessage.{RequestMessage}
use Rattle.outside.specs.declared.dialer.Transcript.{Transcript}
use Rattle.time_text.specs.Texts.{InRange}
use Rattle.request_answer.specs.Traces.{Terms, Traces, StaysView}

-- a request, and the origin that it goes to
pub record Exchange : Type 0 where
  pub message : RequestMessage
  pub target : Target

-- How the request is answered: by a refusal, or by the origin's response, with this payload.
pub data Reply : Type 0 where
  Fails : (refusal : Refusal) → Reply
  Passes : (received : Received) (payload : List ℕ) → Reply

-- The clock gave one answer, which has a text, and one link was made and hung up, over which the request came to this: a response,
-- whole or cut, or why there is none.
pub record Fetched (e : Exchange) (result : Result Received FetchFault) (traces : Traces) : Type 0 where
  pub date : ℕ
  pub timed : traces.times ≡ date ∷ []
  pub in_range : InRange date
  pub t : Transcript
  pub linked : traces.transcripts ≡ t ∷ []
  pub fetched : IsFetched (record {
    target = e.target;
    request = forwarded e.message e.target;
    answers_head = asks_for_head e.message.head.method;
  }) t result

-- the capture of an exchange: what the client asked and when, what went to the origin, and what came back
abbrev pub taken_of : Exchange → ℕ → Received → Taken
taken_of e date received = record {
  method = e.message.head.method;
  uri = e.target.uri;
  date = date;
  request = forwarded e.message e.target;
  head = received.head.text;
  wire = received.wire;
  cut = received.cut;
}

-- ---- refusals

-- a response has come, and there is room for its capture
pub record HasRoom (terms : Terms) (e : Exchange) (traces : Traces) : Type 0 where
  pub received : Received
  pub fetched : Fetched e (Ok received) traces
  pub room : length (captures traces.before.book) < terms.limits.captures

-- ---- the response

-- The origin's response was passed on, and it is the archive's last capture: there was room, it alone was gained, by the rule of
-- storing, with its entry if it has one, and its payload there is that of the bytes that the link gave. Whatever is told, what it refers to
-- has the digest of its payload. Alone what is shown are the entries of the book.
pub record IsPassedOn (terms : Terms) (e : Exchange) (received : Received) (payload : List ℕ) (traces : Traces) : Type 0 where
  pub fetched : Fetched e (Ok received) traces
  pub payload_is : IsPayload received.cut received.framing received.wire payload
  pub room : length (captures traces.before.book) < terms.limits.captures
  pub receipt : Receipt
  pub number_is : receipt.number ≡ length (captures traces.before.book)
  pub refers : CanRefer received.cut traces.before.book receipt.same_as
  pub by_digest : RefersByDigest traces.before.book (taken_of e fetched.date received) receipt.same_as
  pub as_shown : RefersAsShown traces.after.shown (taken_of e fetched.date received) receipt.same_as
  pub gained : Gains traces.before.book (as_stored (taken_of e fetched.date received) receipt.same_as) traces.after.book
  pub by_rule : IsTrue terms.tells
      → (storing : Storing terms.limits.volume_bytes traces.before.book (taken_of e fetched.date received))
      × (receipt.same_as ≡ storing.same) × (traces.after.book ≡ stored_by storing)
  pub there : IsTrue terms.tells → IsPayloadOf traces.after.book receipt.number payload
  pub shown : LeadsShown terms.alone (Some receipt.number) traces.before.shown traces.after.shown
  pub consistent : IsTrue terms.alone → IsTrue terms.tells → AreEntries traces.after.book traces.after.shown

-- ---- the reply

-- The reply follows from what the exchange left. A refusal has its cause in the clock, whose answer has no text, so that nobody was
-- dialed; in that no link was made; in what came over the one link in place of a response; in the limit of the archive, which has as
-- many captures as there may be; in the disk; or in what was read of an earlier capture, to be compared, and is damaged. Where the disk failed nothing was
-- stored, but a volume that the capture needs may be there; and what is shown is alone still the entries of the book.
abbrev pub IsReply : Terms → Exchange → Reply → Traces → Type 0
IsReply terms e (Fails (ClockRange now)) traces =
    (traces.times ≡ now ∷ []) × (InRange now → ⊥) × (traces.transcripts ≡ []) × StaysView terms traces.before traces.after
IsReply terms e (Fails DialFault) traces =
    (date : ℕ) × (traces.times ≡ date ∷ []) × InRange date × (traces.transcripts ≡ []) × StaysView terms traces.before traces.after
IsReply terms e (Fails OriginFault) traces = Fetched e (Err fetch_fault.OriginFault) traces × StaysView terms traces.before traces.after
IsReply terms e (Fails OriginEnded) traces = Fetched e (Err fetch_fault.OriginEnded) traces × StaysView terms traces.before traces.after
IsReply terms e (Fails OriginMalformed) traces = Fetched e (Err fetch_fault.OriginMalformed) traces × StaysView terms traces.before traces.after
IsReply terms e (Fails OriginTooLong) traces = Fetched e (Err fetch_fault.OriginTooLong) traces × StaysView terms traces.before traces.after
IsReply terms e (Fails TooManyInterim) traces = Fetched e (Err fetch_fault.TooManyInterim) traces × StaysView terms traces.before traces.after
IsReply terms e (Fails (Full count limit)) traces =
    (received : Received) × Fetched e (Ok received) traces × (count ≡ length (captures traces.before.book)) × (limit ≡ terms.limits.captures)
    × (limit ≤ count) × StaysView terms traces.before traces.after
IsReply terms e (Fails DiskFault) traces =
    (room : HasRoom terms e traces)
    × ((traces.after.book ≡ traces.before.book)
    ⊎ HasVolumeAlone terms.tells terms.limits.volume_bytes traces.before.book (taken_of e room.fetched.date room.received) traces.after.book)
    × LeadsShown terms.alone None traces.before.shown traces.after.shown
    × (IsTrue terms.alone → IsTrue terms.tells → AreEntries traces.after.book traces.after.shown)
IsReply terms e (Fails (Damaged number kept found)) traces =
    HasRoom terms e traces × (number < length (captures traces.before.book)) × IsDamaged terms.tells kept found
    × StaysView terms traces.before traces.after
IsReply terms e (Fails other) traces = ⊥
IsReply terms e (Passes received payload) traces = IsPassedOn terms e received payload traces
