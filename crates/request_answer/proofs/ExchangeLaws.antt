-- What the steps of an exchange with an origin make of a round.
use Rattle.std.proofs.Common.{◌≡◌, ◌≢◌, inl, inr, ℕ, ◌-◌, ◌^◌, ◌<◌, Bool, true, false, ◌||◌, IsTrue, IsErr, List, [], ◌∷◌, ◌++◌, length, Result, Ok, Err, refl, sym, ◌∙◌, ap, subst, Option, Some, None}
use Rattle.std.proofs.lemmas.List.{append-nil}
use Rattle.std.specs.Prelude.{MatchBool}
use Rattle.archive_shelf.proofs.CallLaws.{shown_itself, stays_itself, writes_nothing_itself}
use Rattle.archive_shelf.specs.Contents.{Contents, Stays}
use Rattle.archive_shelf.specs.Openings.{IsEarlier}
use Rattle.archive_shelf.specs.Told.{Told, WritesNothing}
use Rattle.capture.specs.Methods.{asks_for_head}
use Rattle.capture.specs.declared.memory.Memory.{Memory}
use Rattle.capture.specs.declared.refusal.Refusal.{Refusal}
use Rattle.capture.specs.declared.refusal.Refusal.TheVariants.{ClockRange}
use Rattle.capture.specs.declared.site.Site.{Site}
use Rattle.exchange.specs.Refusals.{refusal_text, memory_text}
use Rattle.exchange.specs.declared.aim.Aim.TheVariants.{Origin}
use Rattle.outside.specs.declared.dialer.Transcript.{Transcript}
use Rattle.time_text.specs.Texts.{InRange}
use Rattle.http_head.specs.declared.head.RequestHead.{RequestHead}
use Rattle.request_answer.specs.steps.Making.{terms_at}
use Rattle.request_answer.specs.steps.Answering.{Incoming, MakesRound}
use Rattle.request_answer.specs.Gains.{Setting, World}
use Rattle.request_answer.specs.Exchanges.{Exchange, Reply, Fails, Passes}
use Rattle.request_answer.specs.steps.Declining.{IsRefusing}
use Rattle.request_answer.specs.steps.Exchanging.{AnswersProxied, Around, Comes, Replies, is_cut_off, reply_text, round_of, traces_of, view_before, IsLeft, outcome_of}
use Rattle.request_answer.specs.Images.{NoDeed, deed_of}
use Rattle.request_answer.specs.Requests.{IsAsked, IsInterim, closes_after}
use Rattle.request_answer.specs.Rounds.{Refused, Exchanged, disk_fault, numbers_by, origin_fault, IsTextOf, closes_outcome, is_from_shown}
use Rattle.request_answer.specs.Traces.{CountsMet, Terms}
use Rattle.request_answer.specs.steps.Givens.{Given}
use Rattle.request_answer.proofs.CountLaws.{none_met, sufficed}
use Rattle.request_answer.proofs.StoreLaws.{images_unwritten}

-- ---- the round

-- what clock and dialer tell between two moments
abbrev pub around_of : List ℕ → List Transcript → World → World → Around
around_of times transcripts was is = record {
  times = times;
  transcripts = transcripts;
  faults_before = was.dialer_faults;
  faults_now = is.dialer_faults;
}

-- the text of a reply, and whether the connection closes with it
pub is_text_of : (terms : Terms) (served : ℕ) (e : Exchange) (reply : Reply) (text : List ℕ)
    → text ≡ reply_text e reply (is_cut_off reply || closes_after served e.message.head) → IsTextOf terms (Exchanged e reply) (closes_outcome served (Exchanged e reply)) text
is_text_of terms served e (Fails refusal) text h = h
is_text_of terms served e (Passes received payload) text h = h

pub text_is_of : (terms : Terms) (served : ℕ) (e : Exchange) (reply : Reply) (text : List ℕ) → IsTextOf terms (Exchanged e reply) (closes_outcome served (Exchanged e reply)) text
    → text ≡ reply_text e reply (is_cut_off reply || closes_after served e.message.head)
text_is_of terms served e (Fails refusal) text h = h
text_is_of terms served e (Passes received payload) text h = h

closes_with : (served : ℕ) (e : Exchange) (reply : Reply)
    → (is_cut_off reply || closes_after served e.message.head) ≡ closes_outcome served (Exchanged e reply)
closes_with served e (Fails refusal) = refl
closes_with served e (Passes received payload) = refl

unshown : (e : Exchange) (reply : Option Reply) → is_from_shown (outcome_of e reply) ≡ false
unshown e None = refl
unshown e (Some reply) = refl

unrefused : (e : Exchange) (reply : Option Reply) (head : Option RequestHead) (refusal : Refusal) → outcome_of e reply ≢ Refused head refusal
unrefused e None head refusal is = cc
unrefused e (Some reply) head refusal is = cc

-- a lawful round was made, where its text is told
made : (alone : Bool) (setting : Setting) (e : Exchange) (incoming : Incoming) (lacked : Bool) (reply : Option Reply) (times : List ℕ)
    (transcripts : List Transcript) (text : List ℕ) (was is : World)
    → IsAsked setting.site incoming.wire e.message (Origin e.target) → IsInterim setting.site incoming.wire incoming.interim
    → (IsTrue setting.clock_tells → length is.answers < 2 ^ 64 - 1 → is.answers ≡ was.answers ++ times)
    → is.links ≡ record was.links { log = was.links.log ++ transcripts }
    → Replies alone setting.site e lacked reply (around_of times transcripts was is) was.shelf is.shelf
    → MatchBool lacked (text ≡ memory_text) (IsTextOf (terms_at alone setting was.shelf) (outcome_of e reply) (closes_outcome incoming.served (outcome_of e reply)) text)
    → MakesRound alone setting incoming lacked text was is
made alone setting e incoming lacked reply times transcripts text was is asked known answers logged h text_is = record {
  outcome = outcome_of e reply;
  traces = traces_of alone setting.site e (around_of times transcripts was is) h.found was.shelf is.shelf;
  made = record {
    lawful = record {
      decided = h.by incoming text asked;
      dialer = h.dialer;
      disk = h.disk;
      lacking = λ lacked. inl (ap (λ (x : Option Reply). outcome_of e x) (h.lacking lacked));
      interim_is = inl known;
      text_is = text_is;
    };
    leads = record {
      book = h.led;
      shown = shown_itself alone was.shelf.contents.shown;
      same_dialer = refl;
      same_disk = refl;
    };
    knows = λ tells from. let bad : ⊥ = cc (unshown e reply, from) in absurd bad;
    left = refl;
    gained = record { asked = answers; logged = logged; stored = h.stored };
    images = h.images incoming text;
  };
  unrefused = unrefused e reply;
}

-- what came of a request answers it
pub comes_answers : (alone : Bool) (setting : Setting) (e : Exchange) (closes : Bool) (result : Result Given Memory) (times : List ℕ)
    (transcripts : List Transcript) (was is : World)
    → (IsTrue setting.clock_tells → length is.answers < 2 ^ 64 - 1 → is.answers ≡ was.answers ++ times)
    → is.links ≡ record was.links { log = was.links.log ++ transcripts }
    → Comes alone setting.site e (around_of times transcripts was is) closes result was.shelf is.shelf
    → AnswersProxied alone setting e closes result was is
unfolding made
comes_answers alone setting e closes (Ok answer) times transcripts was is answers logged h incoming closing asked known = record {
  makes = made alone setting e incoming false (Some h.reply) times transcripts answer.text was is asked known answers logged h.replies
      (is_text_of (terms_at alone setting was.shelf) incoming.served e h.reply answer.text
      (h.text_is ∙ ap (λ (b : Bool). reply_text e h.reply (is_cut_off h.reply || b)) closing));
  closes_is = sym (h.closes_is ∙ ap (λ (b : Bool). is_cut_off h.reply || b) closing ∙ closes_with incoming.served e h.reply);
}
comes_answers alone setting e closes (Err memory) times transcripts was is answers logged h incoming closing asked known =
    made alone setting e incoming true h.0 times transcripts memory_text was is asked known answers logged h.1 refl

-- ---- the reply

-- a refusal
pub refused_comes : (alone : Bool) (site : Site) (e : Exchange) (refusal : Refusal) (asks closes : Bool) (around : Around)
    (result : Result Given Memory) (was is : Told) → asks ≡ asks_for_head e.message.head.method
    → Replies alone site e false (Some (Fails refusal)) around was is → IsRefusing refusal asks closes result
    → Comes alone site e around closes result was is
refused_comes alone site e refusal asks closes around result was is same h refusing =
    subst (λ (r : Result Given Memory). Comes alone site e around closes r was is) (sym refusing) (record {
      reply = Fails refusal;
      replies = h;
      text_is = ap (λ (b : Bool). refusal_text refusal b closes) same;
      closes_is = refl;
    })

-- no answer, for want of memory
pub lacking_comes : (alone : Bool) (site : Site) (e : Exchange) (closes : Bool) (around : Around) (result : Result Given Memory)
    (was is : Told) → Replies alone site e true None around was is → IsErr result → Comes alone site e around closes result was is
lacking_comes alone site e closes around (Ok answer) was is h err = let bad : ⊥ = cc in absurd bad
lacking_comes alone site e closes around (Err memory) was is h err = (None, h)

-- ---- nothing was written

pub none_stored : (a b : Contents) (numbers : List ℕ) → numbers ≡ [] → b ≡ record a { seen = b.seen; shown = b.shown }
    → b ≡ record a { seen = b.seen; shown = b.shown; mine = a.mine ++ numbers }
none_stored a b numbers none e =
    e ∙ ap (λ (l : List ℕ). record a { seen = b.seen; shown = b.shown; mine = l }) (sym (ap (λ (l : List ℕ). a.mine ++ l) none ∙ append-nil a.mine))

-- a reply that stored nothing
pub unwritten : (alone : Bool) (site : Site) (e : Exchange) (lacked : Bool) (reply : Option Reply) (around : Around) (was is : Told)
    → IsEarlier is.crash → Stays alone was.contents is.contents → WritesNothing alone was is → deed_of (outcome_of e reply) ≡ NoDeed
    → numbers_by (outcome_of e reply) (view_before alone site e around is.contents.seen was) ≡ []
    → (IsTrue lacked → reply ≡ None)
    → CountsMet (origin_fault (outcome_of e reply)) around.faults_before around.faults_now
    → CountsMet (disk_fault (outcome_of e reply)) was.faults is.faults
    → IsLeft alone site e was lacked reply (traces_of alone site e around is.contents.seen was is)
    → Replies alone site e lacked reply around was is
unwritten alone site e lacked reply around was is earlier stays quiet deed none undecided dialer disk by = record {
  found = is.contents.seen;
  led = stays.seen;
  by = by;
  lacking = undecided;
  dialer = dialer;
  disk = disk;
  stored = none_stored was.contents is.contents
      (numbers_by (outcome_of e reply) (view_before alone site e around is.contents.seen was)) none stays.others;
  images = λ incoming text. images_unwritten alone site
      (round_of alone site e incoming reply lacked (traces_of alone site e around is.contents.seen was is) text) was is deed earlier quiet;
}

-- ---- the shelf wasn't called

-- a reply that the shelf has no part in
pub untouched : (alone : Bool) (site : Site) (e : Exchange) (lacked : Bool) (reply : Option Reply) (around : Around) (shelf : Told)
    → IsEarlier shelf.crash → deed_of (outcome_of e reply) ≡ NoDeed
    → numbers_by (outcome_of e reply) (view_before alone site e around shelf.contents.seen shelf) ≡ []
    → (IsTrue lacked → reply ≡ None)
    → CountsMet (origin_fault (outcome_of e reply)) around.faults_before around.faults_now
    → CountsMet (disk_fault (outcome_of e reply)) shelf.faults shelf.faults
    → IsLeft alone site e shelf lacked reply (traces_of alone site e around shelf.contents.seen shelf shelf)
    → Replies alone site e lacked reply around shelf shelf
untouched alone site e lacked reply around shelf earlier deed none undecided dialer disk by =
    unwritten alone site e lacked reply around shelf shelf earlier (stays_itself alone shelf.contents) (writes_nothing_itself alone shelf)
    deed none undecided dialer disk by

-- ---- nobody was dialed

-- the clock was asked, and nobody else
abbrev pub clock_alone : ℕ → ℕ → Around
clock_alone now faults = record { times = now ∷ []; transcripts = []; faults_before = faults; faults_now = faults }

-- the clock's answer has no text
pub past_the_clock : (alone : Bool) (site : Site) (e : Exchange) (now faults : ℕ) (shelf : Told)
    → IsEarlier shelf.crash → (InRange now → ⊥) → Replies alone site e false (Some (Fails (ClockRange now))) (clock_alone now faults) shelf shelf
past_the_clock alone site e now faults shelf earlier past =
    untouched alone site e false (Some (Fails (ClockRange now))) (clock_alone now faults) shelf earlier refl refl sufficed (none_met faults) (none_met shelf.faults)
    (λ incoming text asked. (asked, (refl, past, refl, record { book = refl; shown = shown_itself alone shelf.contents.shown })))

-- there was no memory to compose the request
pub unsent : (alone : Bool) (site : Site) (e : Exchange) (now faults : ℕ) (shelf : Told)
    → IsEarlier shelf.crash → Replies alone site e true None (clock_alone now faults) shelf shelf
unsent alone site e now faults shelf earlier =
    untouched alone site e true None (clock_alone now faults) shelf earlier refl refl (λ lacking. refl) (none_met faults) (none_met shelf.faults)
    (λ incoming text asked. (refl, record { book = refl; shown = shown_itself alone shelf.contents.shown }, inr (e, asked, inl (now, refl, refl))))
