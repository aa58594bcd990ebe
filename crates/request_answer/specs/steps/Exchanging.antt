-- What the steps of an exchange with an origin leave: the clock's answer, what the dialer's link gave, and the capture that is stored.
use Rattle.std.specs.Prelude.{◌≡◌, ℕ, Bool, true, false, ◌||◌, List, [], ◌∷◌, ◌++◌, Option, Some, None, Result, Ok, Err, IsTrue}
use Rattle.archive_shelf.specs.Contents.{Leads}
use Rattle.archive_shelf.specs.declared.fault.StoreFault.{StoreFault}
use Rattle.archive_shelf.specs.Told.{ShowsItsBook, StoresOn, Told}
use Rattle.archive_shelf.specs.declared.receipt.Receipt.{Receipt}
use Rattle.capture.specs.Methods.{asks_for_head}
use Rattle.capture.specs.Payload.{IsPayload}
use Rattle.capture.specs.declared.book.Book.{Book}
use Rattle.capture.specs.declared.captured.Taken.{Taken}
use Rattle.capture.specs.declared.memory.Memory.{Memory}
use Rattle.capture.specs.declared.site.Site.{Site}
use Rattle.exchange.specs.Fetches.{Asking, IsFetched}
use Rattle.exchange.specs.Refusals.{refusal_text}
use Rattle.exchange.specs.Texts.{answered, forwarded}
use Rattle.exchange.specs.declared.aim.Aim.TheVariants.{Origin}
use Rattle.http_head.specs.declared.head.Received.{Received}
use Rattle.outside.specs.Records.{Links}
use Rattle.outside.specs.declared.dialer.Transcript.{Transcript}
use Rattle.request_answer.specs.steps.Answering.{Answers, Incoming}
use Rattle.request_answer.specs.Gains.{Setting, World}
use Rattle.request_answer.specs.steps.Declining.{Declines, refusal_by_store}
use Rattle.request_answer.specs.Exchanges.{Exchange, Reply, Fails, Passes}
use Rattle.request_answer.specs.Images.{KeepsImages}
use Rattle.request_answer.specs.Requests.{IsAsked, IsInterim, closes_after}
use Rattle.request_answer.specs.Rounds.{Round, Exchanged, IsDecided, disk_fault, numbers_by, origin_fault, Outcome, Undecided}
use Rattle.request_answer.specs.Traces.{Terms, Traces, View, CountsMet, terms_of, view_of}
use Rattle.request_answer.specs.steps.Givens.{Given, with_body}
use Rattle.request_answer.specs.declared.exchanging.Proxied.{Proxied}
use Rattle.request_answer.specs.declared.passing.Ready.{Ready}
use Rattle.request_answer.specs.declared.passing.Rest.{Rest}
use Rattle.request_answer.specs.declared.passing.Rest.TheVariants as rests

-- the request, and the origin that it goes to
abbrev pub exchange_of : Proxied → Exchange
exchange_of proxied = record { message = proxied.message; target = proxied.target }

-- what is asked of the origin
abbrev pub asking_of : Exchange → Asking
asking_of e = record {
  target = e.target;
  request = forwarded e.message e.target;
  answers_head = asks_for_head e.message.head.method;
}

-- ---- answers

-- what is written behind the text that is ready, by the payload of the response
abbrev pub body_of : Rest → List ℕ → Option (List ℕ)
body_of rests.Nothing payload = None
body_of rests.Payload payload = Some payload

-- The answer passes the response on, with the payload of its wire. One that was cut closes the connection.
pub record PassesOn (received : Received) (answers_head closes : Bool) (answer : Given) : Type 0 where
  pub payload : List ℕ
  pub payload_is : IsPayload received.cut received.framing received.wire payload
  pub text_is : answer.text ≡ answered received payload answers_head (received.cut || closes)
  pub closes_is : answer.closes ≡ (received.cut || closes)

-- the answer that is ready, by the payload of the response
abbrev pub given_of : Ready → List ℕ → Given
given_of ready payload = record { text = with_body ready.text (body_of ready.rest payload); closes = ready.closes }

-- the answer by what a store said: the one that is ready, where the capture is stored
abbrev pub FollowsStore : Given → Bool → Bool → Result Receipt StoreFault → Result Given Memory → Type 0
FollowsStore ready answers_head closes (Ok receipt) result = result ≡ Ok ready
FollowsStore ready answers_head closes (Err fault) result = Declines (refusal_by_store fault) answers_head closes result

-- ---- the outside

-- What clock and dialer tell of an exchange: the clock's answers, the transcripts of the links that were hung up, and the count of
-- the dialer's faults before and behind it.
pub record Around : Type 0 where
  pub times : List ℕ
  pub transcripts : List Transcript
  pub faults_before : ℕ
  pub faults_now : ℕ

-- a response came over the one link, behind the clock's one answer
pub record HasCome (e : Exchange) (date : ℕ) (received : Received) (around : Around) : Type 0 where
  pub timed : around.times ≡ date ∷ []
  pub t : Transcript
  pub linked : around.transcripts ≡ t ∷ []
  pub fetched : IsFetched (asking_of e) t (Ok received)
  pub steady : around.faults_now ≡ around.faults_before

-- what a dialer tells, and a shelf
pub record Beyond : Type 1 where
  pub links : Links Transcript
  pub faults : ℕ
  pub shelf : Told

-- the capture was given to the shelf, once, and the answer follows from what that said
pub record Keeps (alone : Bool) (taken : Taken) (ready : Given) (answers_head closes : Bool) (result : Result Given Memory) (was is : Told) : Type 0 where
  pub said : Result Receipt StoreFault
  pub stores : StoresOn alone taken was is said
  pub shows : ShowsItsBook alone is
  pub follows : FollowsStore ready answers_head closes said result

-- whether a response was passed on that was cut
abbrev pub is_cut_off : Reply → Bool
is_cut_off (Fails refusal) = false
is_cut_off (Passes received payload) = received.cut

-- the text of a reply
abbrev pub reply_text : Exchange → Reply → Bool → List ℕ
reply_text e (Fails refusal) closes = refusal_text refusal (asks_for_head e.message.head.method) closes
reply_text e (Passes received payload) closes = answered received payload (asks_for_head e.message.head.method) closes

-- what was decided: a reply, or nothing
abbrev pub outcome_of : Exchange → Option Reply → Outcome
outcome_of e None = Undecided
outcome_of e (Some reply) = Exchanged e reply

module _ (alone : Bool) (site : Site) (e : Exchange) where
  -- what holds while the request is answered
  abbrev pub terms_in : Told → Terms
  terms_in shelf = terms_of site alone shelf.contents

  -- what was seen when the reply was decided: this book
  abbrev pub view_before : Around → Book → Told → View
  view_before around found was = record {
    book = found;
    shown = was.contents.shown;
    dialer_faults = around.faults_before;
    disk_faults = was.faults;
  }

  -- what the exchange left outside
  abbrev pub traces_of : Around → Book → Told → Told → Traces
  traces_of around found was is = record {
    times = around.times;
    transcripts = around.transcripts;
    before = view_before around found was;
    after = view_of is.contents around.faults_now is.faults;
  }

  -- the round that was made
  abbrev pub round_of : Incoming → Option Reply → Bool → Traces → List ℕ → Round
  round_of incoming reply lacked traces text = record {
    wire = incoming.wire;
    outcome = outcome_of e reply;
    lacked = lacked;
    traces = traces;
    interim = incoming.interim;
    text = text;
  }

  -- what was decided of the request follows from what the exchange left, whatever bytes it came in
  abbrev pub IsLeft : Told → Bool → Option Reply → Traces → Type 0
  IsLeft was lacked reply traces =
      (incoming : Incoming) (text : List ℕ) → IsAsked site incoming.wire e.message (Origin e.target)
      → IsDecided (terms_in was) (round_of incoming reply lacked traces text) (outcome_of e reply)

  -- how the request is answered follows from what clock, dialer and shelf left
  pub record Replies (lacked : Bool) (reply : Option Reply) (around : Around) (was is : Told) : Type 0 where
    pub found : Book
    pub led : Leads alone was.contents.seen found
    pub by : IsLeft was lacked reply (traces_of around found was is)
    pub lacking : IsTrue lacked → reply ≡ None
    pub dialer : CountsMet (origin_fault (outcome_of e reply)) around.faults_before around.faults_now
    pub disk : CountsMet (disk_fault (outcome_of e reply)) was.faults is.faults
    pub stored : is.contents ≡ record was.contents {
      seen = is.contents.seen;
      shown = is.contents.shown;
      mine = was.contents.mine ++ numbers_by (outcome_of e reply) (view_before around found was);
    }
    pub images : (incoming : Incoming) (text : List ℕ)
        → KeepsImages (terms_in was) (round_of incoming reply lacked (traces_of around found was is) text ∷ []) was is

  -- the answer is the text of such a reply
  pub record HasReply (around : Around) (closes : Bool) (answer : Given) (was is : Told) : Type 0 where
    pub reply : Reply
    pub replies : Replies false (Some reply) around was is
    pub text_is : answer.text ≡ reply_text e reply (is_cut_off reply || closes)
    pub closes_is : answer.closes ≡ (is_cut_off reply || closes)

  -- what comes of the request: the answer that is its reply, or want of memory
  abbrev pub Comes : Around → Bool → Result Given Memory → Told → Told → Type 0
  Comes around closes (Ok answer) was is = HasReply around closes answer was is
  Comes around closes (Err memory) was is = (reply : Option Reply) × Replies true reply around was is

  -- the request was answered behind the clock's answer, and the dialer's log gained the transcripts of its links
  pub record Asks (closes : Bool) (date : ℕ) (result : Result Given Memory) (was is : Beyond) : Type 0 where
    pub transcripts : List Transcript
    pub logged : is.links ≡ record was.links { log = was.links.log ++ transcripts }
    pub comes : Comes (record {
      times = date ∷ [];
      transcripts = transcripts;
      faults_before = was.faults;
      faults_now = is.faults;
    }) closes result was.shelf is.shelf

module _ (alone : Bool) (setting : Setting) where
  -- what comes of a request to an origin
  abbrev pub AnswersProxied : Exchange → Bool → Result Given Memory → World → World → Type 0
  AnswersProxied e closes result was is =
      (incoming : Incoming) → closes ≡ closes_after incoming.served e.message.head
      → IsAsked setting.site incoming.wire e.message (Origin e.target) → IsInterim setting.site incoming.wire incoming.interim
      → Answers alone setting incoming result was is
