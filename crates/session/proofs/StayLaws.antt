-- What a reader of a course may stop at.
use Rattle.std.proofs.Common.{◌≡◌, inl, inr, ℕ, zero, suc, ◌+◌, ◌<◌, List, [], ◌∷◌, length, get_or, refl, sym, ◌∙◌, ap, subst, arith, lit<}
use Rattle.std.specs.Prelude.{Contains, Result, Ok, Err}
use Rattle.std.proofs.lemmas.List.Elements.{Contains-append_left, Contains-append_right, Contains-append_cases}
use Rattle.archive_shelf.proofs.StoringLaws.{captures_stay}
use Rattle.capture.specs.Captures.{captures, IsPayloadOf}
use Rattle.capture.specs.Growth.{Grows}
use Rattle.capture.specs.GrowthLaws.{GrowthKeepsPayloads}
use Rattle.capture.specs.declared.book.Book.{Book}
use Rattle.capture.specs.declared.refusal.Refusal.{Refusal}
use Rattle.capture.specs.declared.refusal.Refusal.TheVariants.{Malformed, TargetRefused, BadTime, BadAcceptDatetime, BadQuery, NotAForm, NoCapture, NoSuch, MethodRefused, BodyTooLong, HeadTooLong, ClockRange, ConnectRefused, SecureRefused, CodingRefused, DialFault, OriginFault, OriginEnded, OriginMalformed, OriginTooLong, TooManyInterim, Full, DiskFault, Damaged}
use Rattle.capture.specs.declared.site.Site.{Site}
use Rattle.exchange.specs.declared.aim.Aim.TheVariants.{Origin}
use Rattle.exchange.specs.declared.fetching.FetchFault.{FetchFault}
use Rattle.exchange.specs.declared.fetching.FetchFault.TheVariants as fetch_fault
use Rattle.http_head.specs.declared.head.Received.{Received}
use Rattle.outside.specs.declared.dialer.Transcript.{Transcript}
use Rattle.request_answer.specs.Exchanges.{Exchange, Fails, Passes, Fetched, IsPassedOn, IsReply}
use Rattle.request_answer.specs.Gains.{gains_of}
use Rattle.session.specs.Laws.{IsDialedFor, OriginsAloneAreDialed, OtherRoundsStoreNothing, PassedOnResponsesStay}
use Rattle.request_answer.specs.Requests.{IsAsked}
use Rattle.request_answer.specs.Rounds.{Round, Outcome, Undecided, Refused, Exchanged, Visited, IsDecided, IsRound}
use Rattle.session.specs.Courses.{IsCourse}
use Rattle.request_answer.specs.Traces.{StaysView, Terms, Traces, View}
use Rattle.session.proofs.GrowingLaws.{Growing, courses_grow, failure_leaves}

-- ---- a round of a course

pub only_this : {A : Type 0} (a x : A) → Contains (a ∷ []) x → a ≡ x
only_this a x (k, within, is) = by_place k within is where
  by_place : (k : ℕ) → k < length (a ∷ []) → get_or (a ∷ []) k x ≡ x → a ≡ x
  by_place zero within is = is
  by_place (suc k) within is = absurd (omega (arith, within))

pub record IsIn (terms : Terms) (r : Round) : Type 0 where
  pub served : ℕ
  pub lawful : IsRound terms served r

pub lawful_in : (terms : Terms) (served : ℕ) (was : View) (rounds : List Round) (is : View) (x : Round) → IsCourse terms served was rounds is
    → Contains rounds x → IsIn terms x
lawful_in terms served was [] is x course there = absurd (omega (arith, there.1))
lawful_in terms served was (r ∷ rounds) is x (lawful, leads, knows, last, others) there = elim (Contains-append_cases (r ∷ []) rounds x there) [
  | inl here ↦ subst (IsIn terms) (only_this r x here) (record { served = served; lawful = lawful })
  | inr later ↦ lawful_in terms (served + 1) r.traces.after rounds is x others later
]

-- the book grows from it on
grows_behind : Growing → (terms : Terms) (served : ℕ) (was : View) (rounds : List Round) (is : View) (x : Round) → IsCourse terms served was rounds is
    → Contains rounds x → Grows x.traces.after.book is.book
grows_behind laws terms served was [] is x course there = absurd (omega (arith, there.1))
grows_behind laws terms served was (r ∷ rounds) is x (lawful, leads, knows, last, others) there = elim (Contains-append_cases (r ∷ []) rounds x there) [
  | inl here ↦ subst (λ (y : Round). Grows y.traces.after.book is.book) (only_this r x here) (courses_grow laws terms (served + 1) r.traces.after rounds is others)
  | inr later ↦ grows_behind laws terms (served + 1) r.traces.after rounds is x others later
]

pub passed_stays : Growing → GrowthKeepsPayloads → PassedOnResponsesStay
passed_stays laws payloads terms served was rounds is r e received payload course there passes tells =
    let found : IsIn terms r = lawful_in terms served was rounds is r course there in
    let passed : IsPassedOn terms e received payload r.traces = (subst (λ (o : Outcome). IsDecided terms r o) passes found.lawful.decided).1 in (
      passed.payload_is,
      payloads r.traces.after.book is.book (length (captures r.traces.before.book)) payload (grows_behind laws terms served was rounds is r course there)
          (subst (λ (n : ℕ). IsPayloadOf r.traces.after.book n payload) passed.number_is (passed.there tells)),
    )

-- ---- who was dialed

nobody : {P : Type 0} (ts : List Transcript) (t : Transcript) → ts ≡ [] → Contains ts t → P
nobody ts t e there = let none : Contains [] t = subst (λ (l : List Transcript). Contains l t) e there in absurd (omega (arith, none.1))

module _ (site : Site) (r : Round) (t : Transcript) (there : Contains r.traces.transcripts t) where
  one_dialed : (e : Exchange) (link : Transcript) → IsAsked site r.wire e.message (Origin e.target) → r.traces.transcripts ≡ link ∷ []
      → link.host ≡ e.target.host → link.port ≡ e.target.port → IsDialedFor site r t
  one_dialed e link asked only host port =
      let same : link ≡ t = only_this link t (subst (λ (l : List Transcript). Contains l t) only there) in
      record {
        exchange = e;
        asked = asked;
        host = sym (ap (λ (x : Transcript). x.host) same) ∙ host;
        port = sym (ap (λ (x : Transcript). x.port) same) ∙ port;
      }

  fetched_from : (e : Exchange) (result : Result Received FetchFault) → IsAsked site r.wire e.message (Origin e.target) → Fetched e result r.traces → IsDialedFor site r t
  fetched_from e result asked h = one_dialed e h.t asked h.linked h.fetched.host h.fetched.port

  failure_dialed : (terms : Terms) (e : Exchange) (refusal : Refusal) → IsAsked site r.wire e.message (Origin e.target)
      → IsReply terms e (Fails refusal) r.traces → IsDialedFor site r t
  failure_dialed terms e (ClockRange now) asked h = nobody r.traces.transcripts t h.2 there
  failure_dialed terms e DialFault asked h = nobody r.traces.transcripts t h.3 there
  failure_dialed terms e OriginFault asked h = fetched_from e (Err fetch_fault.OriginFault) asked h.0
  failure_dialed terms e OriginEnded asked h = fetched_from e (Err fetch_fault.OriginEnded) asked h.0
  failure_dialed terms e OriginMalformed asked h = fetched_from e (Err fetch_fault.OriginMalformed) asked h.0
  failure_dialed terms e OriginTooLong asked h = fetched_from e (Err fetch_fault.OriginTooLong) asked h.0
  failure_dialed terms e TooManyInterim asked h = fetched_from e (Err fetch_fault.TooManyInterim) asked h.0
  failure_dialed terms e (Full count limit) asked h = fetched_from e (Ok h.0) asked h.1
  failure_dialed terms e DiskFault asked h = fetched_from e (Ok h.0.received) asked h.0.fetched
  failure_dialed terms e (Damaged number kept found) asked h = fetched_from e (Ok h.0.received) asked h.0.fetched
  failure_dialed terms e (NoSuch number count) asked h = absurd h
  failure_dialed terms e Malformed asked h = absurd h
  failure_dialed terms e TargetRefused asked h = absurd h
  failure_dialed terms e BadQuery asked h = absurd h
  failure_dialed terms e BadTime asked h = absurd h
  failure_dialed terms e BadAcceptDatetime asked h = absurd h
  failure_dialed terms e NotAForm asked h = absurd h
  failure_dialed terms e NoCapture asked h = absurd h
  failure_dialed terms e MethodRefused asked h = absurd h
  failure_dialed terms e BodyTooLong asked h = absurd h
  failure_dialed terms e HeadTooLong asked h = absurd h
  failure_dialed terms e ConnectRefused asked h = absurd h
  failure_dialed terms e SecureRefused asked h = absurd h
  failure_dialed terms e CodingRefused asked h = absurd h

dialed : (terms : Terms) (r : Round) (t : Transcript) (outcome : Outcome) → IsDecided terms r outcome → Contains r.traces.transcripts t
    → IsDialedFor terms.site r t
dialed terms r t Undecided (lacking, stays, inl (untimed, none)) there = nobody r.traces.transcripts t none there
dialed terms r t Undecided (lacking, stays, inr (e, asked, inl (now, timed, none))) there = nobody r.traces.transcripts t none there
dialed terms r t Undecided (lacking, stays, inr (e, asked, inr fetched)) there = fetched_from terms.site r t there e (Err fetch_fault.Memory) asked fetched
dialed terms r t (Refused head refusal) h there = nobody r.traces.transcripts t h.1.transcripts there
dialed terms r t (Exchanged e (Fails refusal)) h there = failure_dialed terms.site r t there terms e refusal h.0 h.1
dialed terms r t (Exchanged e (Passes received payload)) h there = fetched_from terms.site r t there e (Ok received) h.0 h.1.fetched
dialed terms r t (Visited q reply) h there = nobody r.traces.transcripts t h.1.transcripts there

pub origins_dialed : OriginsAloneAreDialed
origins_dialed terms served was [] is t course there = absurd (omega (arith, there.1))
origins_dialed terms served was (r ∷ rounds) is t (lawful, leads, knows, last, others) there =
    elim (Contains-append_cases r.traces.transcripts (gains_of rounds).transcripts t there) [
      | inl here ↦ (r, Contains-append_left (r ∷ []) rounds r (0, lit< tt, refl), dialed terms r t r.outcome lawful.decided here)
      | inr later ↦ let found = origins_dialed terms (served + 1) r.traces.after rounds is t others later in
          (found.0, Contains-append_right (r ∷ []) rounds found.0 found.1, found.2)
    ]

-- ---- nothing is stored

denied_stores_none : (terms : Terms) (e : Exchange) (traces : Traces) → IsReply terms e (Fails DiskFault) traces
    → captures traces.after.book ≡ captures traces.before.book
denied_stores_none terms e traces h = elim h.1 [
  | inl same ↦ ap (λ (book : Book). captures book) same
  | inr alone ↦ ap (λ (book : Book). captures book) alone.volume ∙ captures_stay traces.before.book.volumes _
]

pub others_store_none : OtherRoundsStoreNothing
others_store_none terms served r lawful other = of r.outcome refl lawful.decided where
  same : StaysView terms r.traces.before r.traces.after → captures r.traces.after.book ≡ captures r.traces.before.book
  same stays = ap (λ (book : Book). captures book) stays.book

  of : (outcome : Outcome) → r.outcome ≡ outcome → IsDecided terms r outcome → captures r.traces.after.book ≡ captures r.traces.before.book
  of Undecided e (lacking, stays, how) = same stays
  of (Refused head refusal) e h = same h.1.untouched
  of (Exchanged exchange (Fails refusal)) e h = elim (failure_leaves terms exchange refusal r.traces h.1) [
    | inl stays ↦ same stays
    | inr refused ↦ denied_stores_none terms exchange r.traces refused
  ]
  of (Exchanged exchange (Passes received payload)) e h = absurd (other exchange received payload e)
  of (Visited q reply) e h = same h.1.untouched
