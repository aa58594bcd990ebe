-- Requests that are answered.
use Rattle.std.proofs.Common.{◌≡◌, ◌≢◌, ◌⊎◌, inl, inr, ℕ, ◌-◌, ◌^◌, ◌<◌, Bool, true, false, IsTrue, IsFalse, List, [], ◌∷◌, Contains, Option, Some, None, refl, sym, ◌∙◌, subst, arith, lit<}
use Rattle.std.specs.Prelude.{MatchBool}
use Rattle.capture.specs.Faults.{RoseBy}
use Rattle.capture.specs.Final.{Arrival, Arrived, IsArrival}
use Rattle.capture.specs.Final as final
use Rattle.capture.specs.Methods.{asks_for_head}
use Rattle.capture.specs.First.{First, Message, Refused as RefusedFirst, HeadNeeded, BodyNeeded}
use Rattle.capture.specs.declared.framing.MessageFault.{MessageFault}
use Rattle.capture.specs.declared.framing.MessageFault.TheVariants as message_fault
use Rattle.capture.specs.declared.refusal.Refusal.{Refusal}
use Rattle.capture.specs.declared.refusal.Refusal.TheVariants.{Malformed, TargetRefused, BadTime, BadAcceptDatetime, BadQuery, NotAForm, NoCapture, NoSuch, MethodRefused, BodyTooLong, HeadTooLong, ClockRange, ConnectRefused, SecureRefused, CodingRefused, DialFault, OriginFault, OriginEnded, OriginMalformed, OriginTooLong, TooManyInterim, Full, DiskFault, Damaged}
use Rattle.exchange.specs.Fetches.{ComesTo, ArrivesWhole, ArrivesCut}
use Rattle.exchange.specs.Refusals.{memory_text}
use Rattle.http_head.specs.declared.head.Received.{Received}
use Rattle.outside.specs.declared.dialer.Transcript.{Transcript}
use Rattle.http_wire.specs.Decisions.{ArrivalsAreOne}
use Rattle.session.specs.Complete.{IsFaultless, GaveResponse, CanBePassedOn, GetsResponse, ResponsesArePassedOn}
use Rattle.request_answer.specs.Exchanges.{Exchange, Reply, Fails, Passes, IsReply}
use Rattle.request_answer.specs.Rounds.{Round, Outcome, Undecided, Exchanged, Visited, IsRound, IsDecided, IsTextOf, closes_outcome, origin_fault, disk_fault}
use Rattle.request_answer.specs.SiteAnswers.{SiteRequest, SiteReply, Refuses}
use Rattle.request_answer.specs.Traces.{Terms, Traces, CountsMet}

-- ---- faults

-- a count that rose isn't the same, below its last value
pub rose_not : {P : Type 0} (before now : ℕ) → RoseBy 1 before now → now ≡ before → before < 2 ^ 64 - 1 → P
rose_not before now rose same below = let bad : ⊥ = omega (arith, rose, same, below) in absurd bad

pub told_not_untold : {P : Type 0} (b : Bool) → IsTrue b → IsFalse b → P
told_not_untold b t f = let bad : ⊥ = cc in absurd bad

-- ---- what came of an origin's stream

-- whether a response came whole or cut, by what a stream came to
abbrev first_cut : First → Option Bool
first_cut (Message used) = Some false
first_cut BodyNeeded = Some true
first_cut other = None

abbrev came_cut : Arrival → Option Bool
came_cut (Arrived behind first) = first_cut first
came_cut final.TooManyInterim = None

-- what such a stream came to
record Came (e : Exchange) (cut : Bool) (t : Transcript) : Type 0 where
  pub arrival : Arrival
  pub is : IsArrival (asks_for_head e.message.head.method) t.ended t.given arrival
  pub cut_is : came_cut arrival ≡ Some cut

came : (e : Exchange) (cut : Bool) (t : Transcript) → GaveResponse e cut t → Came e cut t
came e false t (behind, used, is) = record { arrival = Arrived behind (Message used); is = is; cut_is = refl }
came e true t (behind, is, met) = record { arrival = Arrived behind BodyNeeded; is = is; cut_is = refl }

-- it came to nothing else
came_once : (e : Exchange) (cut : Bool) (t : Transcript) (other : Arrival) → ArrivalsAreOne → GaveResponse e cut t
    → IsArrival (asks_for_head e.message.head.method) t.ended t.given other → came_cut other ≡ Some cut
came_once e cut t other once gave is =
    let h : Came e cut t = came e cut t gave in
    subst (λ (a : Arrival). came_cut a ≡ Some cut) (once (asks_for_head e.message.head.method) t.ended t.given h.arrival other h.is is) h.cut_is

came_not : {P : Type 0} (cut : Bool) → None ≡ Some cut → P
came_not cut e = let bad : ⊥ = cc in absurd bad

just_cut : (b cut : Bool) → Some b ≡ Some cut → b ≡ cut
just_cut b cut e = cc

head_needed_not : {P : Type 0} (e : Exchange) (cut : Bool) (t : Transcript) → ArrivalsAreOne → GaveResponse e cut t
    → ComesTo (asks_for_head e.message.head.method) t.ended t.given HeadNeeded → P
head_needed_not e cut t once gave (at, other) = came_not cut (came_once e cut t (Arrived at HeadNeeded) once gave other)

refusal_not : {P : Type 0} (e : Exchange) (cut : Bool) (t : Transcript) (fault : MessageFault) → ArrivalsAreOne → GaveResponse e cut t
    → ComesTo (asks_for_head e.message.head.method) t.ended t.given (RefusedFirst fault) → P
refusal_not e cut t fault once gave (at, other) = came_not cut (came_once e cut t (Arrived at (RefusedFirst fault)) once gave other)

interims_not : {P : Type 0} (e : Exchange) (cut : Bool) (t : Transcript) → ArrivalsAreOne → GaveResponse e cut t
    → IsArrival (asks_for_head e.message.head.method) t.ended t.given final.TooManyInterim → P
interims_not e cut t once gave other = came_not cut (came_once e cut t final.TooManyInterim once gave other)

-- the response that was received is whole or cut as it came
received_so : (e : Exchange) (cut : Bool) (t : Transcript) (received : Received) → ArrivalsAreOne → GaveResponse e cut t
    → ArrivesWhole (asks_for_head e.message.head.method) t.ended t.given received ⊎ ArrivesCut (asks_for_head e.message.head.method) t.ended t.given received → received.cut ≡ cut
received_so e cut t received once gave (inl all) =
    all.whole ∙ just_cut false cut (came_once e cut t (Arrived all.behind (Message all.used)) once gave all.arrival)
received_so e cut t received once gave (inr part) =
    part.cut ∙ just_cut true cut (came_once e cut t (Arrived part.behind BodyNeeded) once gave (rw (sym part.met) at part.arrival))

-- the one transcript
only_one : (ts : List Transcript) (t : Transcript) → ts ≡ t ∷ [] → Contains ts t
only_one ts t e = subst (λ (l : List Transcript). Contains l t) (sym e) (0, lit< tt, refl)

only_time : (ts : List ℕ) (t : ℕ) → ts ≡ t ∷ [] → Contains ts t
only_time ts t e = subst (λ (l : List ℕ). Contains l t) (sym e) (0, lit< tt, refl)

gave_of : (terms : Terms) (e : Exchange) (cut : Bool) (traces : Traces) (t : Transcript) → CanBePassedOn terms e cut traces → traces.transcripts ≡ t ∷ []
    → GaveResponse e cut t
gave_of terms e cut traces t can only = can.gave t (only_one traces.transcripts t only)

-- ---- no refusal is lawful

no_failure : {P : Type 0} (terms : Terms) (e : Exchange) (cut : Bool) (refusal : Refusal) (traces : Traces) → ArrivalsAreOne → IsTrue terms.tells → IsFaultless traces
    → CountsMet (origin_fault (Exchanged e (Fails refusal))) traces.before.dialer_faults traces.after.dialer_faults
    → CountsMet (disk_fault (Exchanged e (Fails refusal))) traces.before.disk_faults traces.after.disk_faults
    → CanBePassedOn terms e cut traces → IsReply terms e (Fails refusal) traces → P
no_failure terms e cut (ClockRange now) traces once tells whole origin disk can h =
    absurd (h.1 (can.in_range now (only_time traces.times now h.0)))
no_failure terms e cut DialFault traces once tells whole origin disk can h = rose_not _ _ origin.rose whole.dialer whole.dialer_counts
no_failure terms e cut OriginFault traces once tells whole origin disk can h = rose_not _ _ origin.rose whole.dialer whole.dialer_counts
no_failure terms e cut OriginEnded traces once tells whole origin disk can h =
    head_needed_not e cut h.0.t once (gave_of terms e cut traces h.0.t can h.0.linked) h.0.fetched.received.1
no_failure terms e cut OriginMalformed traces once tells whole origin disk can h = elim h.0.fetched.received [
  | inl wrong ↦ refusal_not e cut h.0.t message_fault.Malformed once (gave_of terms e cut traces h.0.t can h.0.linked) wrong
  | inr coded ↦ refusal_not e cut h.0.t message_fault.CodingRefused once (gave_of terms e cut traces h.0.t can h.0.linked) coded
]
no_failure terms e cut OriginTooLong traces once tells whole origin disk can h = elim h.0.fetched.received [
  | inl head ↦ refusal_not e cut h.0.t message_fault.HeadTooLong once (gave_of terms e cut traces h.0.t can h.0.linked) head
  | inr body ↦ refusal_not e cut h.0.t message_fault.BodyTooLong once (gave_of terms e cut traces h.0.t can h.0.linked) body
]
no_failure terms e cut TooManyInterim traces once tells whole origin disk can h =
    interims_not e cut h.0.t once (gave_of terms e cut traces h.0.t can h.0.linked) h.0.fetched.received
no_failure terms e cut (Full count limit) traces once tells whole origin disk can h =
    let bad : ⊥ = omega (arith, h.4, h.3, h.2, can.room) in absurd bad
no_failure terms e cut DiskFault traces once tells whole origin disk can h = rose_not _ _ disk.rose whole.disk whole.disk_counts
no_failure terms e cut (Damaged number kept found) traces once tells whole origin disk can h = told_not_untold terms.tells tells h.2.untold
no_failure terms e cut (NoSuch number count) traces once tells whole origin disk can h = absurd h
no_failure terms e cut Malformed traces once tells whole origin disk can h = absurd h
no_failure terms e cut TargetRefused traces once tells whole origin disk can h = absurd h
no_failure terms e cut BadQuery traces once tells whole origin disk can h = absurd h
no_failure terms e cut BadTime traces once tells whole origin disk can h = absurd h
no_failure terms e cut BadAcceptDatetime traces once tells whole origin disk can h = absurd h
no_failure terms e cut NotAForm traces once tells whole origin disk can h = absurd h
no_failure terms e cut NoCapture traces once tells whole origin disk can h = absurd h
no_failure terms e cut MethodRefused traces once tells whole origin disk can h = absurd h
no_failure terms e cut BodyTooLong traces once tells whole origin disk can h = absurd h
no_failure terms e cut HeadTooLong traces once tells whole origin disk can h = absurd h
no_failure terms e cut ConnectRefused traces once tells whole origin disk can h = absurd h
no_failure terms e cut SecureRefused traces once tells whole origin disk can h = absurd h
no_failure terms e cut CodingRefused traces once tells whole origin disk can h = absurd h

-- ---- the response

-- what a lawful round of an exchange says
pub record OfExchange (terms : Terms) (served : ℕ) (r : Round) (e : Exchange) (reply : Reply) : Type 0 where
  pub replied : IsReply terms e reply r.traces
  pub sufficed : ¬ (IsTrue r.lacked)
  pub origin : CountsMet (origin_fault (Exchanged e reply)) r.traces.before.dialer_faults r.traces.after.dialer_faults
  pub disk : CountsMet (disk_fault (Exchanged e reply)) r.traces.before.disk_faults r.traces.after.disk_faults
  pub text_is : IsTrue r.lacked ⊎ IsTextOf terms (Exchanged e reply) (closes_outcome served (Exchanged e reply)) r.text

by_lacked : (b : Bool) (P Q : Type 0) → MatchBool b P Q → IsTrue b ⊎ Q
by_lacked true P Q h = inl refl
by_lacked false P Q h = inr h

pub text_by : (b : Bool) (P Q : Type 0) → b ≡ false → MatchBool b P Q → Q
text_by true P Q e h = let bad : ⊥ = cc in absurd bad
text_by false P Q e h = h

-- an answer to an exchange isn't given up for want of memory
exchange_has_memory : (r : Round) (e : Exchange) (reply : Reply) → r.outcome ≡ Exchanged e reply
    → (r.outcome ≡ Undecided) ⊎ ((q : SiteRequest) × (other : SiteReply) × (r.outcome ≡ Visited q other) × ((refusal : Refusal) → other ≢ Refuses refusal))
    → ⊥
exchange_has_memory r e reply is (inl none) = cc
exchange_has_memory r e reply is (inr (q, other, also, unrefused)) = cc

of_exchange : (terms : Terms) (served : ℕ) (r : Round) (e : Exchange) (reply : Reply) → IsRound terms served r → r.outcome ≡ Exchanged e reply
    → OfExchange terms served r e reply
of_exchange terms served r e reply lawful is = record {
  replied = (subst (λ (o : Outcome). IsDecided terms r o) is lawful.decided).1;
  sufficed = λ lacked. exchange_has_memory r e reply is (lawful.lacking lacked);
  origin = subst (λ (o : Outcome). CountsMet (origin_fault o) r.traces.before.dialer_faults r.traces.after.dialer_faults) is lawful.dialer;
  disk = subst (λ (o : Outcome). CountsMet (disk_fault o) r.traces.before.disk_faults r.traces.after.disk_faults) is lawful.disk;
  text_is = by_lacked r.lacked _ _ (subst (λ (o : Outcome). MatchBool r.lacked (r.text ≡ memory_text) (IsTextOf terms o (closes_outcome served o) r.text)) is lawful.text_is);
}

gets : (terms : Terms) (served : ℕ) (r : Round) (e : Exchange) (reply : Reply) (cut : Bool) → ArrivalsAreOne → IsTrue terms.tells → IsFaultless r.traces
    → CanBePassedOn terms e cut r.traces → r.outcome ≡ Exchanged e reply → OfExchange terms served r e reply
    → GetsResponse terms served r e cut
gets terms served r e (Fails refusal) cut once tells whole can is h = no_failure terms e cut refusal r.traces once tells whole h.origin h.disk can h.replied
gets terms served r e (Passes received payload) cut once tells whole can is h = elim h.text_is [
  | inl lacked ↦ absurd (h.sufficed lacked)
  | inr text_is ↦ let passed = h.replied in
      record {
        received = received;
        payload = payload;
        outcome_is = is;
        passed = passed;
        cut_is = received_so e cut passed.fetched.t received once (gave_of terms e cut r.traces passed.fetched.t can passed.fetched.linked) passed.fetched.fetched.received;
        text_is = text_is;
      }
]

pub passed_on : ArrivalsAreOne → ResponsesArePassedOn
passed_on once terms served r e reply cut lawful is tells whole can =
    gets terms served r e reply cut once tells whole can is (of_exchange terms served r e reply lawful is)
