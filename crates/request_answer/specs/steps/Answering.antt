-- What answering a request leaves.
use Rattle.std.specs.Prelude.{◌≡◌, ◌≢◌, ℕ, Bool, true, false, List, Option, Result, Ok, Err}
use Rattle.archive_shelf.specs.Told.{Told}
use Rattle.capture.specs.declared.memory.Memory.{Memory}
use Rattle.capture.specs.declared.refusal.Refusal.{Refusal}
use Rattle.exchange.specs.Refusals.{memory_text}
use Rattle.exchange.specs.declared.aim.Aim.TheVariants.{Site as ToSite}
use Rattle.http_head.specs.declared.head.RequestHead.{RequestHead}
use Rattle.outside.specs.Records.{Links}
use Rattle.outside.specs.declared.dialer.Transcript.{Transcript}
use Rattle.outside.specs.declared.gate.Heard.{Heard}
use Rattle.request_answer.specs.Gains.{Setting, World}
use Rattle.request_answer.specs.steps.Making.{IsMade}
use Rattle.request_answer.specs.Requests.{IsAsked, IsInterim, closes_after}
use Rattle.request_answer.specs.Rounds.{Outcome, Refused, closes_outcome}
use Rattle.request_answer.specs.SiteAnswers.{SiteRequest}
use Rattle.request_answer.specs.Traces.{Traces}
use Rattle.request_answer.specs.steps.Givens.{Given}
use Rattle.capture.specs.declared.site.Site.{Site}
use Rattle.exchange.specs.Aim.{HasShortHost, aim_of}
use Rattle.http_wire.specs.Messages.{IsRequest}
use Rattle.request_answer.specs.declared.answering.Asked.{Asked}

-- Whatever the link tells, what is asked is one request that was read, and it goes there; the host of an origin is short.
pub record IsWellAsked (site : Site) (asked : Asked) : Type 0 where
  pub stream : List ℕ
  pub request : IsRequest stream asked.message
  pub aimed : aim_of site asked.message.head.method asked.message.head.target ≡ Ok asked.aim
  pub short : HasShortHost asked.aim

-- a request that is to be answered: how many were served before it, the client's bytes that it took, and the text that was written
-- in the middle of them
pub record Incoming : Type 0 where
  pub served : ℕ
  pub wire : List ℕ
  pub interim : List ℕ

module _ (alone : Bool) (setting : Setting) where
  -- a lawful round was made of it, with this text, or there was no memory to go on from what was decided
  pub record MakesRound (incoming : Incoming) (lacked : Bool) (text : List ℕ) (was is : World) : Type 0 where
    pub outcome : Outcome
    pub traces : Traces
    pub made : IsMade alone setting incoming.served (record {
      wire = incoming.wire;
      outcome = outcome;
      lacked = lacked;
      traces = traces;
      interim = incoming.interim;
      text = text;
    }) was is
    pub unrefused : (head : Option RequestHead) (refusal : Refusal) → outcome ≢ Refused head refusal

  -- a lawful round was made of it, whose text this is, after which the connection closes as is told
  pub record IsAnswered (incoming : Incoming) (answer : Given) (was is : World) : Type 0 where
    pub makes : MakesRound incoming false answer.text was is
    pub closes_is : closes_outcome incoming.served makes.outcome ≡ answer.closes

  -- what comes of a request
  abbrev pub Answers : Incoming → Result Given Memory → World → World → Type 0
  Answers incoming (Ok answer) was is = IsAnswered incoming answer was is
  Answers incoming (Err memory) was is = MakesRound incoming true memory_text was is

  -- what comes of a request to the site, which clock and origins don't see
  abbrev pub AnswersVisit : SiteRequest → Bool → Result Given Memory → Told → Told → Type 0
  AnswersVisit q closes result was is =
      (incoming : Incoming) (then now : Heard) (answers : List ℕ) (links : Links Transcript) (faults : ℕ)
      → closes ≡ closes_after incoming.served q.message.head
      → IsAsked setting.site incoming.wire q.message (ToSite q.address) → IsInterim setting.site incoming.wire incoming.interim
      → Answers incoming result
      (record { heard = then; answers = answers; links = links; dialer_faults = faults; shelf = was })
      (record { heard = now; answers = answers; links = links; dialer_faults = faults; shelf = is })
