-- A request that goes to an origin is answered in one way, by what its link gave and when.
use Rattle.std.proofs.Common.{◌≡◌, ◌⊎◌, inl, inr, ℕ, ◌<◌, ◌≤◌, Bool, IsTrue, List, [], ◌∷◌, ◌++◌, length, take, drop, Option, Some, None, Ok, Err, refl, sym, ◌∙◌, ap, subst, arith}
use Rattle.std.proofs.lemmas.List.{append_cancel_left}
use Rattle.archive_shelf.proofs.CallLaws.{shown_same}
use Rattle.archive_shelf.specs.Answers.{IsByRule}
use Rattle.archive_shelf.specs.Laws.{CapturesAreStoredOneWay}
use Rattle.archive_shelf.specs.declared.receipt.Receipt.{Receipt}
use Rattle.capture.specs.BodyLaws.{WiresHaveOnePayload}
use Rattle.capture.specs.Captures.{captures}
use Rattle.capture.specs.Fields.{named_values}
use Rattle.capture.specs.Final.{Arrival, Arrived, IsArrival}
use Rattle.capture.specs.Final as final
use Rattle.capture.specs.First.{First, Message, Refused as RefusedFirst, NothingBegun, HeadNeeded, BodyNeeded, Responses, HeadTells}
use Rattle.capture.specs.Message.{IsResponseHeadText}
use Rattle.capture.specs.Methods.{asks_for_head}
use Rattle.capture.specs.Payload.{IsPayload}
use Rattle.capture.specs.declared.book.Book.{Book}
use Rattle.capture.specs.declared.captured.Taken.{Taken}
use Rattle.capture.specs.declared.framing.MessageFault.TheVariants as message_fault
use Rattle.capture.specs.declared.refusal.Refusal.{Refusal}
use Rattle.capture.specs.declared.refusal.Refusal.TheVariants.{Malformed, TargetRefused, BadTime, BadAcceptDatetime, BadQuery, NotAForm, NoCapture, NoSuch, MethodRefused, BodyTooLong, HeadTooLong, ClockRange, ConnectRefused, SecureRefused, CodingRefused, DialFault, OriginFault, OriginEnded, OriginMalformed, OriginTooLong, TooManyInterim, Full, DiskFault, Damaged}
use Rattle.index_entry.specs.Facts.{Facts}
use Rattle.index_entry.specs.OfBook.{AreEntries, BooksHaveOneListOfEntries}
use Rattle.exchange.specs.Fetches.{ArrivesWhole, ArrivesCut}
use Rattle.exchange.specs.declared.fetching.FetchFault.{FetchFault}
use Rattle.http_head.specs.declared.head.Received.{Received}
use Rattle.httparse.specs.Grammar as grammar
use Rattle.http_wire.proofs.OneHead.{one_head as one_text, one_parse, one_skipped, one_told, same_ok}
use Rattle.http_wire.specs.Decisions.{ArrivalsAreOne}
use Rattle.http_wire.specs.Messages.{IsResponse}
use Rattle.outside.specs.declared.dialer.Transcript.{Transcript}
use Rattle.request_answer.specs.Exchanges.{Exchange, Reply, Fails, Passes, Fetched, IsPassedOn, IsReply, taken_of}
use Rattle.request_answer.specs.Rounds.{disk_fault, Exchanged}
use Rattle.request_answer.specs.Traces.{StaysView, Terms, Traces}
use Rattle.session.proofs.CompleteLaws.{told_not_untold}
use Rattle.session.proofs.OneRequest.{fields_once, version_once}
use Rattle.time_text.specs.Texts.{InRange}

-- what lower crates promise of responses and of storing
pub record Answering : Type 0 where
  pub arrivals : ArrivalsAreOne
  pub payloads : WiresHaveOnePayload
  pub ways : CapturesAreStoredOneWay
  pub entries : BooksHaveOneListOfEntries

-- ---- responses

-- a stream holds one response
one_response : (asks : Bool) (stream : List ℕ) (r s : Received) → IsResponse asks stream r → IsResponse asks stream s → r.cut ≡ s.cut → r ≡ s
one_response asks stream r s a b cut =
    let text : r.head.text ≡ s.head.text = one_text stream a.skipped b.skipped r.head.text s.head.text a.front b.front in
    let skipped : a.skipped ≡ b.skipped = one_skipped a.skipped b.skipped r.head.text s.head.text (sym a.front ∙ b.front) in
    let own = a.holds.1 in
    let reads : IsResponseHeadText s.head.text a.holds.0 = subst (λ (t : List ℕ). IsResponseHeadText t a.holds.0) text own.reads in
    let parse : a.holds.0 ≡ b.holds.0 = one_parse s.head.text a.holds.0 b.holds.0 reads b.holds.1.reads in
    let version : r.head.version ≡ s.head.version =
    version_once r.head.version s.head.version (own.version ∙ ap (λ (g : grammar.ResponseHead). g.minor) parse ∙ sym b.holds.1.version) in
    let status : r.head.status ≡ s.head.status = own.status ∙ ap (λ (g : grammar.ResponseHead). grammar.status_code g) parse ∙ sym b.holds.1.status in
    let reason : r.head.reason ≡ s.head.reason =
    own.reason ∙ ap (λ (g : grammar.ResponseHead). grammar.reason_phrase g.reason) parse ∙ sym b.holds.1.reason in
    let fields : r.head.fields ≡ s.head.fields =
    fields_once r.head.fields s.head.fields (own.fields ∙ ap (λ (g : grammar.ResponseHead). named_values g.fields) parse ∙ sym b.holds.1.fields) in
    let wire : r.wire ≡ s.wire =
    append_cancel_left r.head.text r.wire s.wire
    (sym a.composed ∙ ap (λ k. drop k stream) skipped ∙ b.composed ∙ ap (λ (t : List ℕ). t ++ s.wire) (sym text)) in
    let framing : r.framing ≡ s.framing =
    same_ok r.framing s.framing
    (one_told (Responses asks) r.head.text (Ok r.framing) (Ok s.framing) a.tells
    (subst (λ (t : List ℕ). HeadTells (Responses asks) t (Ok s.framing)) (sym text) b.tells)) in
    λ i. record {
      head = record { version = version i; status = status i; reason = reason i; fields = fields i; text = text i };
      framing = framing i;
      wire = wire i;
      cut = cut i;
    }

behind_same : (k j : ℕ) (a b : First) → Arrived k a ≡ Arrived j b → k ≡ j
behind_same k j a b e = cc

whole_used_same : (k j n m : ℕ) → Arrived k (Message n) ≡ Arrived j (Message m) → n ≡ m
whole_used_same k j n m e = cc

whole_isnt_cut : {P : Type 0} (k j n : ℕ) → Arrived k (Message n) ≡ Arrived j BodyNeeded → P
whole_isnt_cut k j n e = let bad : ⊥ = cc in absurd bad

-- where a cut response came, the end was met
cut_arrival : (asks ended : Bool) (given : List ℕ) (r : Received) (h : ArrivesCut asks ended given r) → IsArrival asks ended given (Arrived h.behind BodyNeeded)
cut_arrival asks ended given r h = subst (λ (b : Bool). IsArrival asks b given (Arrived h.behind BodyNeeded)) (sym h.met) h.arrival

one_received : ArrivalsAreOne → (asks ended : Bool) (given : List ℕ) (r s : Received)
    → ArrivesWhole asks ended given r ⊎ ArrivesCut asks ended given r → ArrivesWhole asks ended given s ⊎ ArrivesCut asks ended given s → r ≡ s
one_received one asks ended given r s (inl a) (inl b) =
    let same = one asks ended given (Arrived a.behind (Message a.used)) (Arrived b.behind (Message b.used)) a.arrival b.arrival in
    let behind : a.behind ≡ b.behind = behind_same a.behind b.behind (Message a.used) (Message b.used) same in
    let used : a.used ≡ b.used = whole_used_same a.behind b.behind a.used b.used same in
    let stream : take a.used (drop a.behind given) ≡ take b.used (drop b.behind given) =
    ap (λ k. take a.used (drop k given)) behind ∙ ap (λ n. take n (drop b.behind given)) used in
    one_response asks (take a.used (drop a.behind given)) r s a.response (subst (λ (t : List ℕ). IsResponse asks t s) (sym stream) b.response) (a.whole ∙ sym b.whole)
one_received one asks ended given r s (inl a) (inr b) =
    whole_isnt_cut a.behind b.behind a.used
    (one asks ended given (Arrived a.behind (Message a.used)) (Arrived b.behind BodyNeeded) a.arrival (cut_arrival asks ended given s b))
one_received one asks ended given r s (inr a) (inl b) =
    whole_isnt_cut b.behind a.behind b.used
    (one asks ended given (Arrived b.behind (Message b.used)) (Arrived a.behind BodyNeeded) b.arrival (cut_arrival asks ended given r a))
one_received one asks ended given r s (inr a) (inr b) =
    let same = one asks ended given (Arrived a.behind BodyNeeded) (Arrived b.behind BodyNeeded) (cut_arrival asks ended given r a) (cut_arrival asks ended given s b) in
    let behind : a.behind ≡ b.behind = behind_same a.behind b.behind BodyNeeded BodyNeeded same in
    one_response asks (drop a.behind given) r s a.response (subst (λ k. IsResponse asks (drop k given) s) (sym behind) b.response) (a.cut ∙ sym b.cut)

-- ---- what came of an origin's stream

-- why there is no response, by what the stream came to
abbrev vain_first : First → Option Refusal
vain_first (Message used) = None
vain_first (RefusedFirst message_fault.Malformed) = Some OriginMalformed
vain_first (RefusedFirst message_fault.HeadTooLong) = Some OriginTooLong
vain_first (RefusedFirst message_fault.BodyTooLong) = Some OriginTooLong
vain_first (RefusedFirst message_fault.CodingRefused) = Some OriginMalformed
vain_first NothingBegun = None
vain_first HeadNeeded = Some OriginEnded
vain_first BodyNeeded = None

abbrev vain_of : Arrival → Option Refusal
vain_of (Arrived behind first) = vain_first first
vain_of final.TooManyInterim = Some TooManyInterim

-- what the stream of the link came to
record Came (asks : Bool) (t : Transcript) (why : Option Refusal) : Type 0 where
  pub arrival : Arrival
  pub is : IsArrival asks t.ended t.given arrival
  pub why_is : vain_of arrival ≡ why

came_once : ArrivalsAreOne → (asks : Bool) (t : Transcript) (why other : Option Refusal) → Came asks t why → Came asks t other → why ≡ other
came_once one asks t why other a b = sym a.why_is ∙ ap vain_of (one asks t.ended t.given a.arrival b.arrival a.is b.is) ∙ b.why_is

-- a response came of it
came_response : (asks : Bool) (t : Transcript) (r : Received) → ArrivesWhole asks t.ended t.given r ⊎ ArrivesCut asks t.ended t.given r → Came asks t None
came_response asks t r (inl h) = record { arrival = Arrived h.behind (Message h.used); is = h.arrival; why_is = refl }
came_response asks t r (inr h) = record { arrival = Arrived h.behind BodyNeeded; is = cut_arrival asks t.ended t.given r h; why_is = refl }

-- ---- the clock's one answer, and the one link

-- the clock answered once, and the answer has a text
record Dated (times : List ℕ) : Type 0 where
  pub date : ℕ
  pub only : times ≡ date ∷ []
  pub in_range : InRange date

-- the request went to the origin, and no response came of it
record InVain (terms : Terms) (e : Exchange) (refusal : Refusal) (traces : Traces) : Type 0 where
  pub dated : Dated traces.times
  pub t : Transcript
  pub linked : traces.transcripts ≡ t ∷ []
  pub came : Came (asks_for_head e.message.head.method) t (Some refusal)
  pub unfailed : t.faults ≡ 0
  pub untouched : StaysView terms traces.before traces.after

-- the clock's answer has no text, and nobody was dialed
record IsPastTheClock (terms : Terms) (now : ℕ) (traces : Traces) : Type 0 where
  pub asked : traces.times ≡ now ∷ []
  pub past : InRange now → ⊥
  pub none : traces.transcripts ≡ []
  pub untouched : StaysView terms traces.before traces.after

-- no link was made
record WasNotDialed (terms : Terms) (traces : Traces) : Type 0 where
  pub dated : Dated traces.times
  pub none : traces.transcripts ≡ []
  pub untouched : StaysView terms traces.before traces.after

-- a response has come, but there are as many captures as there may be
record IsFull (terms : Terms) (e : Exchange) (count limit : ℕ) (traces : Traces) : Type 0 where
  pub received : Received
  pub fetched : Fetched e (Ok received) traces
  pub count_is : count ≡ length (captures traces.before.book)
  pub limit_is : limit ≡ terms.limits.captures
  pub full : limit ≤ count
  pub untouched : StaysView terms traces.before traces.after

-- the link to the origin failed
record Broke (terms : Terms) (traces : Traces) : Type 0 where
  pub dated : Dated traces.times
  pub t : Transcript
  pub linked : traces.transcripts ≡ t ∷ []
  pub failed : 0 < t.faults
  pub untouched : StaysView terms traces.before traces.after

-- how a request was answered, where the disk didn't fail
data Went (terms : Terms) (e : Exchange) (reply : Reply) (traces : Traces) : Type 0 where
  PastTheClock : (now : ℕ) (is : reply ≡ Fails (ClockRange now)) (past : IsPastTheClock terms now traces) → Went terms e reply traces
  NotDialed : (is : reply ≡ Fails DialFault) (none : WasNotDialed terms traces) → Went terms e reply traces
  LinkBroke : (is : reply ≡ Fails OriginFault) (broke : Broke terms traces) → Went terms e reply traces
  AskedInVain : (refusal : Refusal) (is : reply ≡ Fails refusal) (vain : InVain terms e refusal traces) → Went terms e reply traces
  WasFull : (count limit : ℕ) (is : reply ≡ Fails (Full count limit)) (full : IsFull terms e count limit traces) → Went terms e reply traces
  WasPassed : (received : Received) (payload : List ℕ) (is : reply ≡ Passes received payload) (passed : IsPassedOn terms e received payload traces)
      → Went terms e reply traces

vain : (terms : Terms) (e : Exchange) (fault : FetchFault) (refusal : Refusal) (traces : Traces) (h : Fetched e (Err fault) traces)
    → StaysView terms traces.before traces.after → Came (asks_for_head e.message.head.method) h.t (Some refusal) → h.t.faults ≡ 0 → InVain terms e refusal traces
vain terms e fault refusal traces h untouched came unfailed = record {
  dated = record { date = h.date; only = h.timed; in_range = h.in_range };
  t = h.t;
  linked = h.linked;
  came = came;
  unfailed = unfailed;
  untouched = untouched;
}

one_met : {P : Type 0} → ◌≡◌ {A = ℕ} 1 0 → P
one_met e = absurd (omega (arith, e))

failure_went : (terms : Terms) (e : Exchange) (refusal : Refusal) (traces : Traces) → IsTrue terms.tells → disk_fault (Exchanged e (Fails refusal)) ≡ 0
    → IsReply terms e (Fails refusal) traces → Went terms e (Fails refusal) traces
failure_went terms e (ClockRange now) traces tells disk h = PastTheClock now refl (record { asked = h.0; past = h.1; none = h.2; untouched = h.3 })
failure_went terms e DialFault traces tells disk h =
    NotDialed refl (record { dated = record { date = h.0; only = h.1; in_range = h.2 }; none = h.3; untouched = h.4 })
failure_went terms e OriginFault traces tells disk h =
    LinkBroke refl (record {
      dated = record { date = h.0.date; only = h.0.timed; in_range = h.0.in_range };
      t = h.0.t;
      linked = h.0.linked;
      failed = h.0.fetched.faults;
      untouched = h.1;
    })
failure_went terms e OriginEnded traces tells disk h =
    let came = h.0.fetched.received in
    AskedInVain OriginEnded refl (vain terms e _ OriginEnded traces h.0 h.1 (record { arrival = Arrived came.1.0 HeadNeeded; is = came.1.1; why_is = refl }) h.0.fetched.faults)
failure_went terms e OriginMalformed traces tells disk h = elim h.0.fetched.received [
  | inl wrong ↦ AskedInVain OriginMalformed refl (vain terms e _ OriginMalformed traces h.0 h.1
      (record { arrival = Arrived wrong.0 (RefusedFirst message_fault.Malformed); is = wrong.1; why_is = refl }) h.0.fetched.faults)
  | inr coded ↦ AskedInVain OriginMalformed refl (vain terms e _ OriginMalformed traces h.0 h.1
      (record { arrival = Arrived coded.0 (RefusedFirst message_fault.CodingRefused); is = coded.1; why_is = refl }) h.0.fetched.faults)
]
failure_went terms e OriginTooLong traces tells disk h = elim h.0.fetched.received [
  | inl head ↦ AskedInVain OriginTooLong refl (vain terms e _ OriginTooLong traces h.0 h.1
      (record { arrival = Arrived head.0 (RefusedFirst message_fault.HeadTooLong); is = head.1; why_is = refl }) h.0.fetched.faults)
  | inr body ↦ AskedInVain OriginTooLong refl (vain terms e _ OriginTooLong traces h.0 h.1
      (record { arrival = Arrived body.0 (RefusedFirst message_fault.BodyTooLong); is = body.1; why_is = refl }) h.0.fetched.faults)
]
failure_went terms e TooManyInterim traces tells disk h =
    AskedInVain TooManyInterim refl (vain terms e _ TooManyInterim traces h.0 h.1
    (record { arrival = final.TooManyInterim; is = h.0.fetched.received; why_is = refl }) h.0.fetched.faults)
failure_went terms e (Full count limit) traces tells disk h =
    WasFull count limit refl (record { received = h.0; fetched = h.1; count_is = h.2; limit_is = h.3; full = h.4; untouched = h.5 })
failure_went terms e DiskFault traces tells disk h = one_met disk
failure_went terms e (Damaged number kept found) traces tells disk h = told_not_untold terms.tells tells h.2.untold
failure_went terms e (NoSuch number count) traces tells disk h = absurd h
failure_went terms e Malformed traces tells disk h = absurd h
failure_went terms e TargetRefused traces tells disk h = absurd h
failure_went terms e BadQuery traces tells disk h = absurd h
failure_went terms e BadTime traces tells disk h = absurd h
failure_went terms e BadAcceptDatetime traces tells disk h = absurd h
failure_went terms e NotAForm traces tells disk h = absurd h
failure_went terms e NoCapture traces tells disk h = absurd h
failure_went terms e MethodRefused traces tells disk h = absurd h
failure_went terms e BodyTooLong traces tells disk h = absurd h
failure_went terms e HeadTooLong traces tells disk h = absurd h
failure_went terms e ConnectRefused traces tells disk h = absurd h
failure_went terms e SecureRefused traces tells disk h = absurd h
failure_went terms e CodingRefused traces tells disk h = absurd h

went : (terms : Terms) (e : Exchange) (reply : Reply) (traces : Traces) → IsTrue terms.tells
    → disk_fault (Exchanged e reply) ≡ 0 → IsReply terms e reply traces → Went terms e reply traces
went terms e (Fails refusal) traces tells disk h = failure_went terms e refusal traces tells disk h
went terms e (Passes received payload) traces tells disk h = WasPassed received payload refl h

-- ---- dials that failed

fails_once : (a b : Refusal) → Fails a ≡ Fails b → a ≡ b
fails_once a b e = cc

passes_isnt_fails : {P : Type 0} (received : Received) (payload : List ℕ) (refusal : Refusal) → Passes received payload ≡ Fails refusal → P
passes_isnt_fails received payload refusal e = let bad : ⊥ = cc in absurd bad

clock_isnt_dial : {P : Type 0} (now : ℕ) → ClockRange now ≡ DialFault → P
clock_isnt_dial now e = let bad : ⊥ = cc in absurd bad

link_isnt_dial : {P : Type 0} → OriginFault ≡ DialFault → P
link_isnt_dial e = let bad : ⊥ = cc in absurd bad

full_isnt_dial : {P : Type 0} (count limit : ℕ) → Full count limit ≡ DialFault → P
full_isnt_dial count limit e = let bad : ⊥ = cc in absurd bad

ended_isnt_dial : {P : Type 0} → Some OriginEnded ≡ Some DialFault → P
ended_isnt_dial e = let bad : ⊥ = cc in absurd bad

wrong_isnt_dial : {P : Type 0} → Some OriginMalformed ≡ Some DialFault → P
wrong_isnt_dial e = let bad : ⊥ = cc in absurd bad

long_isnt_dial : {P : Type 0} → Some OriginTooLong ≡ Some DialFault → P
long_isnt_dial e = let bad : ⊥ = cc in absurd bad

many_isnt_dial : {P : Type 0} → Some TooManyInterim ≡ Some DialFault → P
many_isnt_dial e = let bad : ⊥ = cc in absurd bad

none_isnt_dial : {P : Type 0} → None ≡ Some DialFault → P
none_isnt_dial e = let bad : ⊥ = cc in absurd bad

vain_isnt_dial : {P : Type 0} (arrival : Arrival) → vain_of arrival ≡ Some DialFault → P
vain_isnt_dial (Arrived behind (Message used)) e = none_isnt_dial e
vain_isnt_dial (Arrived behind (RefusedFirst message_fault.Malformed)) e = wrong_isnt_dial e
vain_isnt_dial (Arrived behind (RefusedFirst message_fault.HeadTooLong)) e = long_isnt_dial e
vain_isnt_dial (Arrived behind (RefusedFirst message_fault.BodyTooLong)) e = long_isnt_dial e
vain_isnt_dial (Arrived behind (RefusedFirst message_fault.CodingRefused)) e = wrong_isnt_dial e
vain_isnt_dial (Arrived behind NothingBegun) e = none_isnt_dial e
vain_isnt_dial (Arrived behind HeadNeeded) e = ended_isnt_dial e
vain_isnt_dial (Arrived behind BodyNeeded) e = none_isnt_dial e
vain_isnt_dial final.TooManyInterim e = many_isnt_dial e

-- a reply that says that nobody could be dialed is of no other way
only_dial : (terms : Terms) (e : Exchange) (reply : Reply) (traces : Traces) → Went terms e reply traces → reply ≡ Fails DialFault → WasNotDialed terms traces
only_dial terms e reply traces (PastTheClock now is past) d = clock_isnt_dial now (fails_once (ClockRange now) DialFault (sym is ∙ d))
only_dial terms e reply traces (NotDialed is none) d = none
only_dial terms e reply traces (LinkBroke is broke) d = link_isnt_dial (fails_once OriginFault DialFault (sym is ∙ d))
only_dial terms e reply traces (AskedInVain refusal is h) d =
    vain_isnt_dial h.came.arrival (h.came.why_is ∙ ap (λ (x : Refusal). Some x) (fails_once refusal DialFault (sym is ∙ d)))
only_dial terms e reply traces (WasFull count limit is full) d = full_isnt_dial count limit (fails_once (Full count limit) DialFault (sym is ∙ d))
only_dial terms e reply traces (WasPassed received payload is h) d = passes_isnt_fails received payload DialFault (sym is ∙ d)

-- both say so, or neither does
pub record DialedAlike (reply other : Reply) : Type 0 where
  pub forth : reply ≡ Fails DialFault → other ≡ Fails DialFault
  pub back : other ≡ Fails DialFault → reply ≡ Fails DialFault

some_isnt_none_linked : {P : Type 0} (t : Transcript) (ts : List Transcript) → ts ≡ [] → ts ≡ t ∷ [] → P
some_isnt_none_linked t ts e d = let bad : ⊥ = cc in absurd bad

one_date : (times : List ℕ) (n m : ℕ) → times ≡ n ∷ [] → times ≡ m ∷ [] → n ≡ m
one_date times n m e d = cc

-- which is so where times and transcripts are the same
dial_told : (terms : Terms) (e d : Exchange) (reply other : Reply) (u v : Traces) → Went terms e reply u → Went terms d other v → u.times ≡ v.times
    → u.transcripts ≡ v.transcripts → reply ≡ Fails DialFault → other ≡ Fails DialFault
dial_told terms e d reply other u v a b times transcripts dialed = of b where
  none : WasNotDialed terms u
  none = only_dial terms e reply u a dialed

  nothing : v.transcripts ≡ []
  nothing = sym transcripts ∙ none.none

  of : Went terms d other v → other ≡ Fails DialFault
  of (PastTheClock now is past) =
      absurd (past.past (subst InRange (one_date v.times none.dated.date now (sym times ∙ none.dated.only) past.asked) none.dated.in_range))
  of (NotDialed is h) = is
  of (LinkBroke is h) = some_isnt_none_linked h.t v.transcripts nothing h.linked
  of (AskedInVain refusal is h) = some_isnt_none_linked h.t v.transcripts nothing h.linked
  of (WasFull count limit is h) = some_isnt_none_linked h.fetched.t v.transcripts nothing h.fetched.linked
  of (WasPassed received payload is h) = some_isnt_none_linked h.fetched.t v.transcripts nothing h.fetched.linked

pub dialed_alike : (terms : Terms) (e d : Exchange) (reply other : Reply) (u v : Traces) → IsTrue terms.tells → disk_fault (Exchanged e reply) ≡ 0
    → disk_fault (Exchanged d other) ≡ 0 → IsReply terms e reply u → IsReply terms d other v → u.times ≡ v.times → u.transcripts ≡ v.transcripts
    → DialedAlike reply other
dialed_alike terms e d reply other u v tells disk stored a b times transcripts =
    let own = went terms e reply u tells disk a in
    let its = went terms d other v tells stored b in
    record {
      forth = dial_told terms e d reply other u v own its times transcripts;
      back = dial_told terms d e other reply v u its own (sym times) (sym transcripts);
    }

failed_isnt_whole : {P : Type 0} (t s : Transcript) → t ≡ s → 0 < t.faults → s.faults ≡ 0 → P
failed_isnt_whole t s same failed none =
    let bad : ⊥ = omega (arith, failed, ap (λ (x : Transcript). x.faults) same, none) in absurd bad

-- ---- two replies

-- The same answer, and what both leave of the times and the transcripts that are still to come; the same book, and alone the same entries.
pub record SameReply (alone : Bool) (reply other : Reply) (u v : Traces) (times later : List ℕ) (transcripts further : List Transcript) : Type 0 where
  pub reply_is : reply ≡ other
  pub times_are : times ≡ later
  pub transcripts_are : transcripts ≡ further
  pub book : u.after.book ≡ v.after.book
  pub shown : IsTrue alone → u.after.shown ≡ v.after.shown

first_is : {A : Type 0} (xs ys more later : List A) (x y : A) → xs ≡ x ∷ [] → ys ≡ y ∷ [] → xs ++ more ≡ ys ++ later → x ≡ y
first_is xs ys more later x y e d same =
    let h : x ∷ more ≡ y ∷ later = sym (ap (λ (l : List _). l ++ more) e) ∙ same ∙ ap (λ (l : List _). l ++ later) d in cc

rest_is : {A : Type 0} (xs ys more later : List A) (x y : A) → xs ≡ x ∷ [] → ys ≡ y ∷ [] → xs ++ more ≡ ys ++ later → more ≡ later
rest_is xs ys more later x y e d same =
    let h : x ∷ more ≡ y ∷ later = sym (ap (λ (l : List _). l ++ more) e) ∙ same ∙ ap (λ (l : List _). l ++ later) d in cc

pub none_is : {A : Type 0} (xs ys more later : List A) → xs ≡ [] → ys ≡ [] → xs ++ more ≡ ys ++ later → more ≡ later
none_is xs ys more later e d same = sym (ap (λ (l : List _). l ++ more) e) ∙ same ∙ ap (λ (l : List _). l ++ later) d

some_same : (a b : Refusal) → Some a ≡ Some b → a ≡ b
some_same a b e = cc

some_isnt_none : {P : Type 0} (a : Refusal) → Some a ≡ None → P
some_isnt_none a e = let bad : ⊥ = cc in absurd bad

-- the book after a capture was stored
stored_once : CapturesAreStoredOneWay → (limit : ℕ) (book other : Book) (taken took : Taken) (a b : Receipt) (after behind : Book) → book ≡ other → taken ≡ took
    → IsByRule limit book taken a after → IsByRule limit other took b behind → after ≡ behind
stored_once one limit book other taken took a b after behind e d h k =
    let same : IsByRule limit book taken b behind =
    subst (λ (x : Book). IsByRule limit x taken b behind) (sym e) (subst (λ (t : Taken). IsByRule limit other t b behind) (sym d) k) in
    h.2 ∙ (one limit book taken h.0 same.0).stored ∙ sym same.2

entries_once : BooksHaveOneListOfEntries → (book other : Book) (shown also : List Facts) → book ≡ other → AreEntries book shown → AreEntries other also
    → shown ≡ also
entries_once one book other shown also e h k = one book shown also h (subst (λ (x : Book). AreEntries x also) (sym e) k)

module _ (laws : Answering) (terms : Terms) (e : Exchange) (u v : Traces) (times later : List ℕ) (transcripts further : List Transcript)
    (tells : IsTrue terms.tells) (book : u.before.book ≡ v.before.book) (shown : u.before.shown ≡ v.before.shown)
    (timed : u.times ++ times ≡ v.times ++ later) (linked : u.transcripts ++ transcripts ≡ v.transcripts ++ further) where
  same_stays : (reply other : Reply) → reply ≡ other → times ≡ later → transcripts ≡ further → StaysView terms u.before u.after
      → StaysView terms v.before v.after → SameReply terms.alone reply other u v times later transcripts further
  same_stays reply other is t l a b = record {
    reply_is = is;
    times_are = t;
    transcripts_are = l;
    book = a.book ∙ book ∙ sym b.book;
    shown = λ alone. shown_same terms.alone u.before.shown u.after.shown alone a.shown ∙ shown
        ∙ sym (shown_same terms.alone v.before.shown v.after.shown alone b.shown);
  }

  -- a time without a text isn't one that has one
  apart : {P : Type 0} (now : ℕ) → IsPastTheClock terms now u → (d : Dated v.times) → P
  apart now past d = absurd (past.past (subst InRange (sym (first_is u.times v.times times later now d.date past.asked d.only timed)) d.in_range))

  apart_too : {P : Type 0} (now : ℕ) → IsPastTheClock terms now v → (d : Dated u.times) → P
  apart_too now past d = absurd (past.past (subst InRange (first_is u.times v.times times later d.date now d.only past.asked timed) d.in_range))

  fetched_dated : (received : Received) (traces : Traces) → Fetched e (Ok received) traces → Dated traces.times
  fetched_dated received traces h = record { date = h.date; only = h.timed; in_range = h.in_range }

  -- a response came of one, and none of the other
  came_both : {P : Type 0} (refusal : Refusal) (t s : Transcript) → t ≡ s → Came (asks_for_head e.message.head.method) t (Some refusal) → Came (asks_for_head e.message.head.method) s None → P
  came_both refusal t s same a b =
      some_isnt_none refusal (came_once laws.arrivals (asks_for_head e.message.head.method) s (Some refusal) None (subst (λ (x : Transcript). Came (asks_for_head e.message.head.method) x (Some refusal)) same a) b)

  link_same : (t s : Transcript) → u.transcripts ≡ t ∷ [] → v.transcripts ≡ s ∷ [] → t ≡ s
  link_same t s a b = first_is u.transcripts v.transcripts transcripts further t s a b linked

  link_rest : (t s : Transcript) → u.transcripts ≡ t ∷ [] → v.transcripts ≡ s ∷ [] → transcripts ≡ further
  link_rest t s a b = rest_is u.transcripts v.transcripts transcripts further t s a b linked

  time_rest : (d : Dated u.times) (c : Dated v.times) → times ≡ later
  time_rest d c = rest_is u.times v.times times later d.date c.date d.only c.only timed

  full_same : (reply other : Reply) (count limit counted most : ℕ) → reply ≡ Fails (Full count limit) → other ≡ Fails (Full counted most)
      → IsFull terms e count limit u → IsFull terms e counted most v → reply ≡ other
  full_same reply other count limit counted most is also a b =
      let counts : count ≡ counted = a.count_is ∙ ap (λ (x : Book). length (captures x)) book ∙ sym b.count_is in
      let limits : limit ≡ most = a.limit_is ∙ sym b.limit_is in
      is ∙ ap (λ n. Fails (Full n limit)) counts ∙ ap (λ n. Fails (Full counted n)) limits ∙ sym also

  room_for : {P : Type 0} (count limit : ℕ) → IsFull terms e count limit u → length (captures v.before.book) < terms.limits.captures → P
  room_for count limit full room =
      let bad : ⊥ = omega (arith, full.full, full.limit_is, full.count_is, room, ap (λ (x : Book). length (captures x)) book) in absurd bad

  room_for_too : {P : Type 0} (count limit : ℕ) → IsFull terms e count limit v → length (captures u.before.book) < terms.limits.captures → P
  room_for_too count limit full room =
      let bad : ⊥ = omega (arith, full.full, full.limit_is, full.count_is, room, ap (λ (x : Book). length (captures x)) book) in absurd bad

  passed_same : (reply other : Reply) (received came : Received) (payload paid : List ℕ) → reply ≡ Passes received payload → other ≡ Passes came paid
      → IsPassedOn terms e received payload u → IsPassedOn terms e came paid v → SameReply terms.alone reply other u v times later transcripts further
  passed_same reply other received came payload paid is also a b =
      let link : a.fetched.t ≡ b.fetched.t = link_same a.fetched.t b.fetched.t a.fetched.linked b.fetched.linked in
      let date : a.fetched.date ≡ b.fetched.date = first_is u.times v.times times later a.fetched.date b.fetched.date a.fetched.timed b.fetched.timed timed in
      let t = b.fetched.t in
      let came_here = subst (λ (x : Transcript). ArrivesWhole (asks_for_head e.message.head.method) x.ended x.given received ⊎ ArrivesCut (asks_for_head e.message.head.method) x.ended x.given received)
      link a.fetched.fetched.received in
      let same : received ≡ came = one_received laws.arrivals (asks_for_head e.message.head.method) t.ended t.given received came came_here b.fetched.fetched.received in
      let paid_here : IsPayload came.cut came.framing came.wire payload =
      subst (λ (x : Received). IsPayload x.cut x.framing x.wire payload) same a.payload_is in
      let payloads : payload ≡ paid = laws.payloads came.cut came.framing came.wire payload paid paid_here b.payload_is in
      let taken : taken_of e a.fetched.date received ≡ taken_of e b.fetched.date came =
      ap (λ n. taken_of e n received) date ∙ ap (λ (x : Received). taken_of e b.fetched.date x) same in
      let after : u.after.book ≡ v.after.book =
      stored_once laws.ways terms.limits.volume_bytes u.before.book v.before.book (taken_of e a.fetched.date received) (taken_of e b.fetched.date came)
      a.receipt b.receipt u.after.book v.after.book book taken (a.by_rule tells) (b.by_rule tells) in
      record {
        reply_is = is ∙ ap (λ (x : Received). Passes x payload) same ∙ ap (λ (p : List ℕ). Passes came p) payloads ∙ sym also;
        times_are = time_rest (fetched_dated received u a.fetched) (fetched_dated came v b.fetched);
        transcripts_are = link_rest a.fetched.t b.fetched.t a.fetched.linked b.fetched.linked;
        book = after;
        shown = λ alone. entries_once laws.entries u.after.book v.after.book u.after.shown v.after.shown after (a.consistent alone tells) (b.consistent alone tells);
      }

  -- nobody could be dialed, by both
  dialed_both : (reply other : Reply) → reply ≡ Fails DialFault → other ≡ Fails DialFault → WasNotDialed terms u → WasNotDialed terms v
      → SameReply terms.alone reply other u v times later transcripts further
  dialed_both reply other is also h k =
      same_stays reply other (is ∙ sym also)
      (time_rest h.dated k.dated)
      (none_is u.transcripts v.transcripts transcripts further h.none k.none linked) h.untouched k.untouched

  both_went : (reply other : Reply) → DialedAlike reply other → Went terms e reply u → Went terms e other v → SameReply terms.alone reply other u v times later transcripts further
  both_went reply other dials (PastTheClock now is past) (PastTheClock then also gone) =
      let same : now ≡ then = first_is u.times v.times times later now then past.asked gone.asked timed in
      same_stays reply other (is ∙ ap (λ n. Fails (ClockRange n)) same ∙ sym also)
      (rest_is u.times v.times times later now then past.asked gone.asked timed)
      (none_is u.transcripts v.transcripts transcripts further past.none gone.none linked) past.untouched gone.untouched
  both_went reply other dials (PastTheClock now is past) (AskedInVain refusal also h) = apart now past h.dated
  both_went reply other dials (PastTheClock now is past) (WasFull count limit also full) = apart now past (fetched_dated full.received v full.fetched)
  both_went reply other dials (PastTheClock now is past) (WasPassed received payload also h) = apart now past (fetched_dated received v h.fetched)
  both_went reply other dials (AskedInVain refusal is h) (PastTheClock now also past) = apart_too now past h.dated
  both_went reply other dials (AskedInVain refusal is h) (AskedInVain why also k) =
      let link : h.t ≡ k.t = link_same h.t k.t h.linked k.linked in
      let same : refusal ≡ why = some_same refusal why (came_once laws.arrivals (asks_for_head e.message.head.method) k.t (Some refusal) (Some why)
      (subst (λ (x : Transcript). Came (asks_for_head e.message.head.method) x (Some refusal)) link h.came) k.came) in
      same_stays reply other (is ∙ ap (λ (x : Refusal). Fails x) same ∙ sym also) (time_rest h.dated k.dated) (link_rest h.t k.t h.linked k.linked)
      h.untouched k.untouched
  both_went reply other dials (AskedInVain refusal is h) (WasFull count limit also full) =
      came_both refusal h.t full.fetched.t (link_same h.t full.fetched.t h.linked full.fetched.linked) h.came
      (came_response (asks_for_head e.message.head.method) full.fetched.t full.received full.fetched.fetched.received)
  both_went reply other dials (AskedInVain refusal is h) (WasPassed received payload also k) =
      came_both refusal h.t k.fetched.t (link_same h.t k.fetched.t h.linked k.fetched.linked) h.came
      (came_response (asks_for_head e.message.head.method) k.fetched.t received k.fetched.fetched.received)
  both_went reply other dials (WasFull count limit is full) (PastTheClock now also past) = apart_too now past (fetched_dated full.received u full.fetched)
  both_went reply other dials (WasFull count limit is full) (AskedInVain refusal also h) =
      came_both refusal h.t full.fetched.t (sym (link_same full.fetched.t h.t full.fetched.linked h.linked)) h.came
      (came_response (asks_for_head e.message.head.method) full.fetched.t full.received full.fetched.fetched.received)
  both_went reply other dials (WasFull count limit is full) (WasFull counted most also filled) =
      same_stays reply other (full_same reply other count limit counted most is also full filled)
      (time_rest (fetched_dated full.received u full.fetched) (fetched_dated filled.received v filled.fetched))
      (link_rest full.fetched.t filled.fetched.t full.fetched.linked filled.fetched.linked) full.untouched filled.untouched
  both_went reply other dials (WasFull count limit is full) (WasPassed received payload also h) = room_for count limit full h.room
  both_went reply other dials (WasPassed received payload is h) (PastTheClock now also past) = apart_too now past (fetched_dated received u h.fetched)
  both_went reply other dials (WasPassed received payload is h) (AskedInVain refusal also k) =
      came_both refusal k.t h.fetched.t (sym (link_same h.fetched.t k.t h.fetched.linked k.linked)) k.came
      (came_response (asks_for_head e.message.head.method) h.fetched.t received h.fetched.fetched.received)
  both_went reply other dials (WasPassed received payload is h) (WasFull count limit also full) = room_for_too count limit full h.room
  both_went reply other dials (WasPassed received payload is h) (WasPassed came paid also k) = passed_same reply other received came payload paid is also h k
  both_went reply other dials (NotDialed is none) way =
      dialed_both reply other is (dials.forth is) none (only_dial terms e other v way (dials.forth is))
  both_went reply other dials (PastTheClock now is past) (NotDialed also none) =
      dialed_both reply other (dials.back also) also (only_dial terms e reply u (PastTheClock now is past) (dials.back also)) none
  both_went reply other dials (LinkBroke is broke) (NotDialed also none) =
      dialed_both reply other (dials.back also) also (only_dial terms e reply u (LinkBroke is broke) (dials.back also)) none
  both_went reply other dials (AskedInVain refusal is h) (NotDialed also none) =
      dialed_both reply other (dials.back also) also (only_dial terms e reply u (AskedInVain refusal is h) (dials.back also)) none
  both_went reply other dials (WasFull count limit is full) (NotDialed also none) =
      dialed_both reply other (dials.back also) also (only_dial terms e reply u (WasFull count limit is full) (dials.back also)) none
  both_went reply other dials (WasPassed received payload is h) (NotDialed also none) =
      dialed_both reply other (dials.back also) also (only_dial terms e reply u (WasPassed received payload is h) (dials.back also)) none
  both_went reply other dials (PastTheClock now is past) (LinkBroke also k) = apart now past k.dated
  both_went reply other dials (LinkBroke is h) (PastTheClock now also past) = apart_too now past h.dated
  both_went reply other dials (LinkBroke is h) (LinkBroke also k) =
      same_stays reply other (is ∙ sym also) (time_rest h.dated k.dated) (link_rest h.t k.t h.linked k.linked) h.untouched k.untouched
  both_went reply other dials (LinkBroke is h) (AskedInVain refusal also k) =
      failed_isnt_whole h.t k.t (link_same h.t k.t h.linked k.linked) h.failed k.unfailed
  both_went reply other dials (LinkBroke is h) (WasFull count limit also full) =
      failed_isnt_whole h.t full.fetched.t (link_same h.t full.fetched.t h.linked full.fetched.linked) h.failed full.fetched.fetched.faults
  both_went reply other dials (LinkBroke is h) (WasPassed received payload also k) =
      failed_isnt_whole h.t k.fetched.t (link_same h.t k.fetched.t h.linked k.fetched.linked) h.failed k.fetched.fetched.faults
  both_went reply other dials (AskedInVain refusal is h) (LinkBroke also k) =
      failed_isnt_whole k.t h.t (sym (link_same h.t k.t h.linked k.linked)) k.failed h.unfailed
  both_went reply other dials (WasFull count limit is full) (LinkBroke also k) =
      failed_isnt_whole k.t full.fetched.t (sym (link_same full.fetched.t k.t full.fetched.linked k.linked)) k.failed full.fetched.fetched.faults
  both_went reply other dials (WasPassed received payload is h) (LinkBroke also k) =
      failed_isnt_whole k.t h.fetched.t (sym (link_same h.fetched.t k.t h.fetched.linked k.linked)) k.failed h.fetched.fetched.faults

  -- the replies of two lawful rounds are one, where the disk didn't fail in them
  pub one_reply : (reply other : Reply) → DialedAlike reply other → disk_fault (Exchanged e reply) ≡ 0 → disk_fault (Exchanged e other) ≡ 0
      → IsReply terms e reply u → IsReply terms e other v → SameReply terms.alone reply other u v times later transcripts further
  one_reply reply other dials disk stored a b = both_went reply other dials (went terms e reply u tells disk a) (went terms e other v tells stored b)
