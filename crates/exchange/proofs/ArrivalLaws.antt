-- The final response of a stream, behind its interim ones.
use Rattle.std.proofs.Common.{◌≡◌, ℕ, ◌+◌, ◌<◌, ◌≤◌, Bool, true, false, List, [], ◌∷◌, ◌++◌, length, take, drop, Option, Some, None, Ok, Err, inl, inr, refl, sym, ap, subst, ◌∙◌, arith, append_assoc, append-nil, length-append, length-drop}
use Rattle.std.specs.Prelude.{Result, All, ⊤}
use Rattle.std.specs.List.{flat_map}
use Rattle.std.proofs.Math.Seq.{take-append_seam, drop-append_seam}
use Rattle.std.proofs.lemmas.Bool.{lt-ltb}
use Rattle.std.proofs.lemmas.Grind.{flat_map-append}
use Rattle.std.proofs.lemmas.List.Elements.{All-cons, All-nil, All-append}
use Rattle.httparse.specs.Grammar.{ResponseHead, status_code}
use Rattle.capture.specs.Body.{IsBody, IsCutWire, IsWire}
use Rattle.capture.specs.Final.{IsInterim, BeginsWithInterim, BehindInterims, Arrived, IsArrival}
use Rattle.capture.specs.First.{Responses, First, Message, Refused, NothingBegun, HeadNeeded, BodyNeeded, IsFirst, BehindHead, RefusesBody, BeginsBody, fault_at_head}
use Rattle.capture.specs.Framing.{response_framing}
use Rattle.capture.specs.Head.{front_of, Head}
use Rattle.capture.specs.Message.{IsResponseHeadText}
use Rattle.capture.specs.declared.framing.Framing.{Framing}
use Rattle.capture.specs.declared.framing.Framing.TheVariants.{Empty}
use Rattle.capture.specs.declared.framing.FramingFault.{FramingFault}
use Rattle.capture.specs.declared.framing.MessageFault.{MessageFault}
use Rattle.capture.specs.declared.framing.MessageFault.TheVariants as message_fault
use Rattle.capture.specs.declared.limits.TheConstants.{INTERIM_LIMIT}
use Rattle.http_head.specs.FrontLaws.{HeadsStay}
use Rattle.http_head.specs.declared.head.Received.{Received}
use Rattle.http_wire.specs.Messages.{IsResponse}
use Rattle.exchange.specs.Fetches.{ComesTo, Receives, Sends}
use Rattle.exchange.specs.steps.Responses.{Answers, Inflow, Yields, GoesOnWith}
use Rattle.exchange.specs.declared.fetching.FetchFault.{FetchFault}
use Rattle.exchange.specs.declared.fetching.FetchFault.TheVariants.{DialFault, OriginFault, OriginEnded, OriginMalformed, OriginTooLong, TooManyInterim, Memory}
use Rattle.http_wire.proofs.FrontParts.{parts_of_head}
use Rattle.http_wire.proofs.OneHead.{no_head_in_more, no_head_is_none, no_head_too_long, one_head, one_parse}

abbrev pub inflow : List ℕ → List ℕ → Inflow
inflow given window = record { given = given; window = window }

-- ---- interim responses

-- an interim response tells no body
interim_framing : (answers_head : Bool) (h : ResponseHead) → status_code h < 200 → response_framing answers_head h ≡ Ok Empty
interim_framing true h low = refl
interim_framing false h low = rw (lt-ltb (status_code h) 200 low) refl

-- an interim response that stands first
pub record InterimFirst (stream : List ℕ) : Type 0 where
  pub skipped : ℕ
  pub head_text : List ℕ
  pub parsed : ResponseHead
  pub front : front_of stream ≡ Head skipped head_text
  pub head : IsResponseHeadText head_text parsed
  pub interim : status_code parsed < 200

pub interim_first : HeadsStay → (stream : List ℕ) → BeginsWithInterim stream → InterimFirst stream
interim_first stay stream begins =
    let text = begins.0 in
    let rest = begins.1 in
    let interim = begins.2 in
    record {
      skipped = interim.skipped;
      head_text = interim.head_text;
      parsed = interim.parsed;
      front = ap front_of begins.3 ∙ stay text rest interim.skipped interim.head_text interim.front;
      head = interim.head;
      interim = interim.interim;
    }

-- where it stands, its head tells no body
interim_tells : (answers_head : Bool) (stream : List ℕ) (told : Result Framing FramingFault) (end : ℕ) (rest : List ℕ)
    → InterimFirst stream → BehindHead (Responses answers_head) stream told end rest → told ≡ Ok Empty
interim_tells answers_head stream told end rest interim head =
    let text : head.text ≡ interim.head_text = one_head stream head.skipped interim.skipped head.text interim.head_text head.front interim.front in
    let h = head.tells.0 in
    let same : h ≡ interim.parsed = one_parse interim.head_text h interim.parsed (subst (λ t. IsResponseHeadText t h) text head.tells.1) interim.head in
    sym head.tells.2 ∙ ap (response_framing answers_head) same ∙ interim_framing answers_head interim.parsed interim.interim

-- what may stand first where no interim response does
abbrev pub IsFinal : First → Type 0
IsFinal (Message used) = ⊥
IsFinal (Refused fault) = ⊤
IsFinal NothingBegun = ⊥
IsFinal HeadNeeded = ⊤
IsFinal BodyNeeded = ⊤

abbrev ok_framing : Framing → Result Framing FramingFault
ok_framing framing = Ok framing

abbrev none_fault : Option MessageFault
none_fault = None

is_empty : (framing : Framing) → ok_framing framing ≡ ok_framing Empty → framing ≡ Empty
is_empty framing e = cc

-- a head that tells no body has no fault
empty_has_no_fault : (told : Result Framing FramingFault) (fault : MessageFault) → told ≡ Ok Empty → fault_at_head told ≡ Some fault → ⊥
empty_has_no_fault told fault is due = none_is_not_some (sym (ap fault_at_head is) ∙ due)
  where
    none_is_not_some : none_fault ≡ Some fault → ⊥
    none_is_not_some e = cc

no_interim : HeadsStay → (answers_head ended : Bool) (stream : List ℕ) (first : First) → IsFinal first
    → IsFirst (Responses answers_head) ended stream first → InterimFirst stream → ⊥
no_interim stay answers_head ended stream (Message used) final is interim = final
no_interim stay answers_head ended stream NothingBegun final is interim = final
no_interim stay answers_head ended stream HeadNeeded final (inl nothing) interim =
    no_head_is_none interim.skipped interim.head_text (sym nothing.0 ∙ interim.front)
no_interim stay answers_head ended stream HeadNeeded final (inr more) interim =
    no_head_in_more interim.skipped interim.head_text (sym more ∙ interim.front)
no_interim stay answers_head ended stream BodyNeeded final body interim =
    let tells = interim_tells answers_head stream (Ok body.framing) body.end body.rest interim body.head in
    subst (λ f. BeginsBody f ended body.rest) (is_empty body.framing tells) body.body
no_interim stay answers_head ended stream (Refused fault) final (inl too_long) interim =
    no_head_too_long interim.skipped interim.head_text (sym too_long.0 ∙ interim.front)
no_interim stay answers_head ended stream (Refused fault) final (inr (inl none)) interim =
    let text = one_head stream none.0.skipped interim.skipped none.0.text interim.head_text none.0.front interim.front in
    none.0.none interim.parsed (subst (λ t. IsResponseHeadText t interim.parsed) (sym text) interim.head)
no_interim stay answers_head ended stream (Refused fault) final (inr (inr (inl head))) interim =
    empty_has_no_fault head.framing fault (interim_tells answers_head stream head.framing head.end head.rest interim head.head) head.told
no_interim stay answers_head ended stream (Refused fault) final (inr (inr (inr body))) interim =
    let tells = interim_tells answers_head stream (Ok body.framing) body.end body.rest interim body.head in
    subst (λ f. RefusesBody f body.rest fault) (is_empty body.framing tells) body.body

-- a final response is no interim one
final_is_no_interim : HeadsStay → (answers_head : Bool) (stream text behind : List ℕ) (received : Received) → stream ≡ text ++ behind
    → IsResponse answers_head text received → 200 ≤ received.head.status → InterimFirst stream → ⊥
final_is_no_interim stay answers_head stream text behind received composed response final interim =
    let front : front_of stream ≡ Head response.skipped received.head.text =
    ap front_of composed ∙ stay text behind response.skipped received.head.text response.front in
    let same = one_head stream response.skipped interim.skipped received.head.text interim.head_text front interim.front in
    let h = response.holds.0 in
    let is = response.holds.1 in
    let parsed : h ≡ interim.parsed =
    one_parse received.head.text h interim.parsed is.reads (subst (λ t. IsResponseHeadText t interim.parsed) (sym same) interim.head) in
    omega (arith, final, is.status, ap status_code parsed, interim.interim)

-- a response of a lower status is an interim one
wire_is_empty : (cut : Bool) (framing : Framing) (wire : List ℕ) → framing ≡ Empty → IsWire cut framing wire → wire ≡ []
wire_is_empty false framing wire is body = subst (λ f. IsBody f wire) is body
wire_is_empty true framing wire is body = absurd (subst (λ f. IsCutWire f wire) is body)

interim_is_one : (answers_head : Bool) (text : List ℕ) (received : Received) → IsResponse answers_head text received
    → received.head.status < 200 → IsInterim text
interim_is_one answers_head text received response low =
    let h = response.holds.0 in
    let is = response.holds.1 in
    let k = response.tells.0 in
    let same : k ≡ h = one_parse received.head.text k h response.tells.1 is.reads in
    let status : status_code h < 200 = omega (arith, low, is.status) in
    let framing : received.framing ≡ Empty =
    is_empty received.framing (sym response.tells.2 ∙ ap (response_framing answers_head) same ∙ interim_framing answers_head h status) in
    let none = wire_is_empty received.cut received.framing received.wire framing response.wire_is in
    let composed : drop response.skipped text ≡ received.head.text =
    response.composed ∙ ap (λ w. received.head.text ++ w) none ∙ append-nil received.head.text in
    let parts = parts_of_head text response.skipped received.head.text response.front in
    record {
      skipped = response.skipped;
      head_text = received.head.text;
      parsed = h;
      front = response.front;
      all = omega (arith, ap length composed, length-drop response.skipped text, parts.fits);
      head = is.reads;
      interim = status;
    }

-- ---- the interim responses so far

-- so many interim responses were dropped, and the bytes behind them stand in the window
pub record Awaits (given window : List ℕ) (many : ℕ) : Type 0 where
  pub interims : List (List ℕ)
  pub each : All IsInterim interims
  pub many_is : length interims ≡ many
  pub composed : given ≡ flat_map (λ text. text) interims ++ window

pub awaits_first : (given window : List ℕ) → given ≡ [] → window ≡ [] → Awaits given window 0
awaits_first given window nothing empty = record {
  interims = [];
  each = All-nil IsInterim;
  many_is = refl;
  composed = nothing ∙ sym empty;
}

-- what was done, and what came behind it
abbrev dropped : (given window : List ℕ) (many : ℕ) → Awaits given window many → List ℕ
dropped given window many awaits = flat_map (λ text. text) awaits.interims

pub awaits_next : (answers_head ended : Bool) (given window given_now window_now : List ℕ) (many : ℕ) (received : Received)
    (awaits : Awaits given window many)
    → GoesOnWith answers_head (Ok received) (dropped given window many awaits) (inflow given_now window_now) ended
    → received.head.status < 200 → Awaits given_now window_now (many + 1)
awaits_next answers_head ended given window given_now window_now many received awaits further low =
    let first = further.yields in
    let done = dropped given window many awaits in
    let one : List (List ℕ) = first.text ∷ [] in
    let text : flat_map (λ text. text) (awaits.interims ++ one) ≡ done ++ first.text =
    flat_map-append (λ text. text) awaits.interims one ∙ ap (λ t. done ++ t) (append-nil first.text) in
    let each : All IsInterim one = All-cons IsInterim first.text [] (interim_is_one answers_head first.text received first.response low) (All-nil IsInterim) in
    record {
      interims = awaits.interims ++ one;
      each = All-append IsInterim awaits.interims one awaits.each each;
      many_is = omega (arith, length-append awaits.interims one, awaits.many_is);
      composed = further.composed ∙ ap (λ s. done ++ s) first.composed ∙ sym (append_assoc done first.text window_now)
          ∙ ap (λ t. t ++ window_now) (sym text);
    }

-- ---- what the stream comes to

behind_interims : (given window given_now stream : List ℕ) (many : ℕ) (awaits : Awaits given window many) → many ≤ INTERIM_LIMIT
    → given_now ≡ dropped given window many awaits ++ stream → BehindInterims given_now awaits.interims stream
behind_interims given window given_now stream many awaits few composed = record {
  each = awaits.each;
  few = omega (arith, few, awaits.many_is);
  composed = composed;
}

comes_to : HeadsStay → (answers_head ended : Bool) (given window given_now stream : List ℕ) (many : ℕ) (awaits : Awaits given window many)
    (first : First) → many ≤ INTERIM_LIMIT → given_now ≡ dropped given window many awaits ++ stream → IsFinal first
    → IsFirst (Responses answers_head) ended stream first → ComesTo answers_head ended given_now first
comes_to stay answers_head ended given window given_now stream many awaits first few composed final is =
    let done = dropped given window many awaits in
    let lengths : length done + length stream ≡ length given_now = sym (ap length composed ∙ length-append done stream) in
    let few_are = behind_interims given window given_now stream many awaits few composed in
    let none : BeginsWithInterim stream → ⊥ = λ begins. no_interim stay answers_head ended stream first final is (interim_first stay stream begins) in
    (length done, (awaits.interims, stream, few_are, none, lengths, is))

pub fails : HeadsStay → (answers_head ended : Bool) (given window given_now window_now : List ℕ) (many : ℕ) (fault : FetchFault)
    (awaits : Awaits given window many) → many ≤ INTERIM_LIMIT
    → GoesOnWith answers_head (Err fault) (dropped given window many awaits) (inflow given_now window_now) ended
    → Receives answers_head (Err fault) given_now ended
fails stay answers_head ended given window given_now window_now many fault awaits few further =
    by_fault fault further.yields
  where
    to : (e : Bool) (first : First) → IsFinal first → IsFirst (Responses answers_head) e further.stream first
        → ComesTo answers_head e given_now first
    to e first final is = comes_to stay answers_head e given window given_now further.stream many awaits first few further.composed final is

    by_fault : (f : FetchFault) → Yields answers_head (Err f) further.stream window_now ended → Receives answers_head (Err f) given_now ended
    by_fault DialFault yields = yields
    by_fault OriginFault (inl head) = inl (to false HeadNeeded tt head)
    by_fault OriginFault (inr body) = inr (to false BodyNeeded tt body)
    by_fault OriginEnded yields = (yields.0, to ended HeadNeeded tt yields.1)
    by_fault OriginMalformed (inl first) = inl (to ended (Refused message_fault.Malformed) tt first)
    by_fault OriginMalformed (inr first) = inr (to ended (Refused message_fault.CodingRefused) tt first)
    by_fault OriginTooLong (inl first) = inl (to ended (Refused message_fault.HeadTooLong) tt first)
    by_fault OriginTooLong (inr first) = inr (to ended (Refused message_fault.BodyTooLong) tt first)
    by_fault TooManyInterim yields = absurd yields
    by_fault Memory yields = tt

pub too_many : (answers_head ended : Bool) (given window given_now window_now : List ℕ) (many : ℕ) (received : Received)
    (awaits : Awaits given window many) → many ≡ INTERIM_LIMIT
    → GoesOnWith answers_head (Ok received) (dropped given window many awaits) (inflow given_now window_now) ended
    → received.head.status < 200 → Receives answers_head (Err TooManyInterim) given_now ended
too_many answers_head ended given window given_now window_now many received awaits full further low =
    let first = further.yields in
    let few : many ≤ INTERIM_LIMIT = omega (arith, full) in
    let few_are = behind_interims given window given_now further.stream many awaits few further.composed in
    let is_one = interim_is_one answers_head first.text received first.response low in
    (awaits.interims, further.stream, few_are, awaits.many_is ∙ full, (first.text, window_now, is_one, first.composed))

pub arrives : HeadsStay → (answers_head ended : Bool) (given window given_now window_now : List ℕ) (many : ℕ) (received : Received)
    (awaits : Awaits given window many) → many ≤ INTERIM_LIMIT
    → GoesOnWith answers_head (Ok received) (dropped given window many awaits) (inflow given_now window_now) ended
    → 200 ≤ received.head.status → Receives answers_head (Ok received) given_now ended
arrives stay answers_head ended given window given_now window_now many received awaits few further final =
    by_cut received.cut refl
  where
    done : List ℕ
    done = dropped given window many awaits

    stream_at : drop (length done) given_now ≡ further.stream
    stream_at = ap (drop (length done)) further.composed ∙ drop-append_seam done further.stream

    to : (e : Bool) (first : First) → IsFirst (Responses answers_head) e further.stream first
        → IsArrival answers_head e given_now (Arrived (length done) first)
    to e first is =
        let few_are = behind_interims given window given_now further.stream many awaits few further.composed in
        let none : BeginsWithInterim further.stream → ⊥ = λ begins. final_is_no_interim stay answers_head further.stream further.yields.text window_now received
        further.yields.composed further.yields.response final (interim_first stay further.stream begins) in
        let lengths = sym (ap length further.composed ∙ length-append done further.stream) in
        (awaits.interims, further.stream, few_are, none, lengths, is)

    text_at : take (length further.yields.text) (drop (length done) given_now) ≡ further.yields.text
    text_at = ap (take (length further.yields.text)) (stream_at ∙ further.yields.composed)
        ∙ take-append_seam further.yields.text window_now

    by_cut : (cut : Bool) → received.cut ≡ cut → Receives answers_head (Ok received) given_now ended
    by_cut false is = inl (record {
      behind = length done;
      used = length further.yields.text;
      arrival = to ended (Message (length further.yields.text)) (further.yields.whole is);
      response = subst (λ t. IsResponse answers_head t received) (sym text_at) further.yields.response;
      whole = is;
    })
    by_cut true is =
        let cut = further.yields.cut is in
        let all : drop (length done) given_now ≡ further.yields.text =
        stream_at ∙ further.yields.composed ∙ ap (λ w. further.yields.text ++ w) cut.1 ∙ append-nil further.yields.text in
        inr (record {
          behind = length done;
          met = cut.0;
          arrival = to true BodyNeeded cut.2;
          response = subst (λ t. IsResponse answers_head t received) (sym all) further.yields.response;
          cut = is;
        })

-- ---- the request

-- a fetch that read from its link had sent the whole request
pub all_sent : (answers_head ended : Bool) (result : Result Received FetchFault) (request taken given : List ℕ) → taken ≡ request
    → Receives answers_head result given ended → Sends result request taken given
all_sent answers_head ended (Ok received) request taken given all receives = all
all_sent answers_head ended (Err DialFault) request taken given all receives = receives
all_sent answers_head ended (Err OriginFault) request taken given all receives = inl all
all_sent answers_head ended (Err OriginEnded) request taken given all receives = all
all_sent answers_head ended (Err OriginMalformed) request taken given all receives = all
all_sent answers_head ended (Err OriginTooLong) request taken given all receives = all
all_sent answers_head ended (Err TooManyInterim) request taken given all receives = all
all_sent answers_head ended (Err Memory) request taken given all receives = all

-- what was told of any bytes before is told behind the interim responses
pub further_from : (answers_head other ended : Bool) (result : Result Received FetchFault) (given window given_now window_now : List ℕ) (many : ℕ)
    (awaits : Awaits given window many) → other ≡ answers_head → Answers other result (inflow given window) (inflow given_now window_now) ended
    → GoesOnWith answers_head result (dropped given window many awaits) (inflow given_now window_now) ended
further_from answers_head other ended result given window given_now window_now many awaits same answers =
    subst (λ a. GoesOnWith a result (dropped given window many awaits) (inflow given_now window_now) ended) same
    (answers (dropped given window many awaits) awaits.composed)

-- from a link that gave nothing a head is to come
pub comes_to_nothing : HeadsStay → (answers_head : Bool) (given : List ℕ) → given ≡ [] → ComesTo answers_head false given HeadNeeded
unfolding awaits_first
comes_to_nothing stay answers_head given e =
    comes_to stay answers_head false given [] given [] 0 (awaits_first given [] e refl) HeadNeeded (omega arith) e tt
    (inl (refl, λ is. cc))
