-- What came of a client's link makes of reading a request.
use Rattle.std.proofs.Common.{◌≡◌, ◌≢◌, inl, inr, ℕ, ◌+◌, ◌-◌, Bool, true, false, List, [], ◌++◌, length, drop, Option, Some, None, Result, Ok, Err, refl, sym, ◌∙◌, ap, subst, arith, append_assoc, length-append}
use Rattle.std.proofs.Math.Seq.{drop-append_seam}
use Rattle.httparse.proofs.GrammarLemmas.{request_unique}
use Rattle.httparse.specs.Grammar.{RequestHead as GrammarHead, ReadsRequest}
use Rattle.std.specs.Prelude.{IsSome, codes, IfOk, OnOk, IfErr, is_ok, ◌&&◌, if◌then◌else◌}
use Rattle.capture.specs.First.{Requests, Refused, NothingBegun, HeadNeeded, IsFirst, BehindHead, IsNoHead, BeginsBody}
use Rattle.capture.specs.Head.{front_of}
use Rattle.capture.specs.Head as head_front
use Rattle.capture.specs.Message.{IsRequestHeadText}
use Rattle.capture.specs.Methods.{asks_for_head}
use Rattle.capture.specs.declared.framing.Framing.{Framing}
use Rattle.capture.specs.declared.framing.Framing.TheVariants.{Empty, Length, Chunked, ToEnd}
use Rattle.capture.specs.declared.framing.MessageFault.{MessageFault}
use Rattle.capture.specs.declared.refusal.Refusal.{Refusal}
use Rattle.capture.specs.declared.refusal.Refusal.TheVariants as refusals
use Rattle.capture.specs.declared.site.Site.{Site}
use Rattle.exchange.specs.Receiving.{BeginsAccounted, StaysAccounted}
use Rattle.exchange.specs.Refusals.{refusal_text, memory_text}
use Rattle.exchange.specs.Aim.{HasShortHost, IsAim, aim_of}
use Rattle.exchange.specs.declared.aim.Aim.{Aim}
use Rattle.exchange.specs.declared.aim.AimFault.{AimFault}
use Rattle.exchange.specs.declared.aim.AimFault.TheVariants as aim_fault
use Rattle.http_head.specs.declared.head.RequestHead.{RequestHead}
use Rattle.http_head.specs.declared.head.RequestMessage.{RequestMessage}
use Rattle.http_head.specs.declared.head.WireFault.{WireFault}
use Rattle.http_head.specs.declared.head.WireFault.TheVariants.{EndedEarly, Memory}
use Rattle.http_wire.specs.Heads.{BeginsWithRequest, HoldsHead}
use Rattle.http_wire.specs.Messages.{IsRequest}
use Rattle.http_wire.specs.Reading.{Standing, Open, Failed, EndsInside, IsUndecided as WireUndecided, LacksHead as WireLacksHead}
use Rattle.outside.specs.declared.gate.Heard.{Heard}
use Rattle.session.specs.steps.Reads.{Client, HasTaken, HasRead, AwaitsRest, ReadsNone, NoMore, Breaking, Refusing, GivingUp, Owes, ComesFaulty, IsBehind, LooksAt, ReadsBody, RefusesAim, IsAimed, IsAimedNowhere, answers_head, Reads}
use Rattle.request_answer.specs.steps.Answering.{IsWellAsked}
use Rattle.request_answer.specs.Requests.{IsInside, IsInterim, IsRefused, IsUndecided, interim_of, refusal_of}
use Rattle.request_answer.specs.steps.Wire.{Writes}
use Rattle.session.specs.steps.Wire.{EndsRefusal, Says, Tries}
use Rattle.request_answer.specs.declared.answering.Asked.{Asked}
use Rattle.session.specs.declared.served.Served.{Served}
use Rattle.session.specs.declared.served.Served.TheVariants.{Done, ClientBroke, ClientEndedEarly, WantOfMemory}
use Rattle.session.proofs.SayLaws.{says_first, says_same}
use Rattle.session.specs.steps.Heads.{waits_for_answer}
use Rattle.outside.specs.Gate.{heard_of}
use Rattle.outside.specs.Link.{Traffic}

-- ---- fronts

nothing_isnt_head : {P : Type 0} (stream text : List ℕ) (skipped : ℕ) → front_of stream ≡ head_front.Nothing → front_of stream ≡ head_front.Head skipped text → P
nothing_isnt_head stream text skipped e f = let bad : ⊥ = cc in absurd bad

more_isnt_head : {P : Type 0} (stream text : List ℕ) (skipped : ℕ) → front_of stream ≡ head_front.More → front_of stream ≡ head_front.Head skipped text → P
more_isnt_head stream text skipped e f = let bad : ⊥ = cc in absurd bad

pub long_isnt_head : {P : Type 0} (stream text : List ℕ) (skipped : ℕ) → front_of stream ≡ head_front.TooLong → front_of stream ≡ head_front.Head skipped text → P
long_isnt_head stream text skipped e f = let bad : ⊥ = cc in absurd bad

pub one_text : (stream text other : List ℕ) (k j : ℕ) → front_of stream ≡ head_front.Head k text → front_of stream ≡ head_front.Head j other → text ≡ other
one_text stream text other k j e f = cc

-- a stream in which nothing has begun has no head
pub between_lacks : (stream : List ℕ) → front_of stream ≡ head_front.Nothing → (head : RequestHead) → ¬ (BeginsWithRequest stream head)
between_lacks stream e head begins = nothing_isnt_head stream head.text begins.skipped e begins.front

-- nor has one of which no head is a request's
no_head_lacks : (stream : List ℕ) → ((skipped : ℕ) (text : List ℕ) → front_of stream ≡ head_front.Head skipped text → IsNoHead Requests text) → (head : RequestHead) → ¬ (BeginsWithRequest stream head)
no_head_lacks stream none head begins = none begins.skipped head.text begins.front begins.holds.0 begins.holds.1.reads

wire_lacks : (stream : List ℕ) (standing : Standing) → standing ≢ Failed Memory → WireLacksHead Requests stream standing
    → (skipped : ℕ) (text : List ℕ) → front_of stream ≡ head_front.Head skipped text → IsNoHead Requests text
wire_lacks stream standing n (inl failed) = absurd (n failed)
wire_lacks stream standing n (inr none) = none

-- a head that tells something is a head
told_isnt_none : {P : Type 0} (stream : List ℕ) (framing : _) (end : ℕ) (rest : List ℕ) → BehindHead Requests stream framing end rest
    → ((skipped : ℕ) (text : List ℕ) → front_of stream ≡ head_front.Head skipped text → IsNoHead Requests text) → P
told_isnt_none stream framing end rest h none = absurd (none h.skipped h.text h.front h.tells.0 h.tells.1)

-- ---- accounts

-- what is read begins with the bytes of the message, and goes on with others
pub begins_rest : (given pending now stream : List ℕ) → BeginsAccounted given pending now stream
    → (rest : List ℕ) × StaysAccounted given pending now (stream ++ rest)
begins_rest given pending now stream h = (drop (length given - length pending + length stream) now, at) where
  at : StaysAccounted given pending now (stream ++ drop (length given - length pending + length stream) now)
  at done e =
      let f = h done e in
      let long : length given ≡ length done + length pending = ap (λ (x : List ℕ). length x) e ∙ length-append done pending in
      let n : length given - length pending + length stream ≡ length (done ++ stream) = omega (arith, long, length-append done stream) in
      let rest_is : drop (length given - length pending + length stream) now ≡ f.rest =
      ap (λ k. drop k now) n ∙ ap (λ (x : List ℕ). drop (length (done ++ stream)) x) f.splits ∙ drop-append_seam (done ++ stream) f.rest in
      f.splits ∙ append_assoc done stream f.rest ∙ ap (λ (x : List ℕ). done ++ (stream ++ x)) (sym rest_is)

-- ---- the client's end, and a fault of its link

-- the client ended, and nothing has begun
pub ended_between : (site : Site) (from : Client) (stream window : List ℕ) (now : Heard) → IsFirst Requests true stream NothingBegun → window ≡ []
    → StaysAccounted from.heard.given from.pending now.given (stream ++ window) → Says [] from.heard now → now.ended ≡ true → now.faults ≡ 0
    → ReadsNone site from now Done
ended_between site from stream window now between none accounts said ended whole = NoMore (record {
  rest = stream;
  interim = [];
  undecided = inl between;
  interim_is = inr (between_lacks stream between.0, refl);
  taken = record { accounts = rw none at accounts; said = said };
  meets = (ended, between, whole);
})

-- what is undecided in a stream without a head
undecided_without : (site : Site) (stream : List ℕ) → ((skipped : ℕ) (text : List ℕ) → front_of stream ≡ head_front.Head skipped text → IsNoHead Requests text)
    → WireUndecided Requests false stream → IsUndecided site stream
undecided_without site stream none (inl between) = inl between
undecided_without site stream none (inr (inl head)) = inr (inl head)
undecided_without site stream none (inr (inr body)) = told_isnt_none stream _ _ _ body.head none

needs_not : {P : Type 0} (stream : List ℕ) (head : RequestHead) → BeginsWithRequest stream head → IsFirst Requests false stream HeadNeeded → P
needs_not stream head begins (inl (nothing, other)) = absurd (other refl)
needs_not stream head begins (inr more) = more_isnt_head stream head.text begins.skipped more begins.front

-- and in one with a head that goes somewhere
undecided_behind : (site : Site) (stream : List ℕ) (head : RequestHead) → BeginsWithRequest stream head → IsAimed site head
    → WireUndecided Requests false stream → IsUndecided site stream
undecided_behind site stream head begins aimed (inl between) = nothing_isnt_head stream head.text begins.skipped between.0 begins.front
undecided_behind site stream head begins aimed (inr (inl needed)) = needs_not stream head begins needed
undecided_behind site stream head begins aimed (inr (inr body)) = inr (inr (head, begins, aimed, body))

-- the link failed before a head had come
pub broke_without : (site : Site) (from : Client) (stream window : List ℕ) (now : Heard)
    → ((skipped : ℕ) (text : List ℕ) → front_of stream ≡ head_front.Head skipped text → IsNoHead Requests text) → WireUndecided Requests false stream
    → window ≡ [] → StaysAccounted from.heard.given from.pending now.given (stream ++ window) → Says [] from.heard now → now.faults ≢ 0
    → ReadsNone site from now ClientBroke
broke_without site from stream window now lacks undecided none accounts said broke = NoMore (record {
  rest = stream;
  interim = [];
  undecided = undecided_without site stream lacks undecided;
  interim_is = inr (no_head_lacks stream lacks, refl);
  taken = record { accounts = rw none at accounts; said = said };
  meets = broke;
})

-- the link failed behind a head that goes somewhere
pub broke_behind : (site : Site) (from : Client) (stream window : List ℕ) (head : RequestHead) (now : Heard) → BeginsWithRequest stream head
    → IsAimed site head → WireUndecided Requests false stream → window ≡ []
    → StaysAccounted from.heard.given from.pending now.given (stream ++ window) → Says (interim_of site head) from.heard now → now.faults ≢ 0
    → ReadsNone site from now ClientBroke
broke_behind site from stream window head now begins aimed undecided none accounts said broke = NoMore (record {
  rest = stream;
  interim = interim_of site head;
  undecided = undecided_behind site stream head begins aimed undecided;
  interim_is = inl ((head, begins, refl));
  taken = record { accounts = rw none at accounts; said = said };
  meets = broke;
})

-- ---- what is no message

-- what is written before a body is just what is owed
interim_known : (site : Site) (stream : List ℕ) (standing : Standing) (head : Option RequestHead) (interim : List ℕ) → standing ≢ Failed Memory
    → HoldsHead stream standing head → Owes site head interim → IsInterim site stream interim
interim_known site stream standing None interim n holds owed = inr (no_head_lacks stream (wire_lacks stream standing n holds), owed)
interim_known site stream standing (Some head) interim n holds owed = inl ((head, holds, owed.1))

goes_on_false : (framing : Framing) (stream : List ℕ) → BeginsBody framing true stream → BeginsBody framing false stream
goes_on_false Empty stream h = absurd h
goes_on_false (Length n) stream h = h
goes_on_false Chunked stream h = h
goes_on_false ToEnd stream (e, short) = let bad : ⊥ = cc in absurd bad

inside : (site : Site) (stream : List ℕ) (standing : Standing) (head : Option RequestHead) (interim : List ℕ) → standing ≢ Failed Memory
    → HoldsHead stream standing head → Owes site head interim → EndsInside Requests stream → IsInside site stream
inside site stream standing None interim n holds owed (inl needed) = inl needed
inside site stream standing None interim n holds owed (inr body) = told_isnt_none stream _ _ _ body.head (wire_lacks stream standing n holds)
inside site stream standing (Some head) interim n holds owed (inl needed) = needs_not stream head holds needed
inside site stream standing (Some head) interim n holds owed (inr body) = inr (
  head,
  holds,
  owed.0,
  record {
    framing = body.framing;
    end = body.end;
    rest = body.rest;
    head = body.head;
    body = goes_on_false body.framing body.rest body.body;
  },
)

pub not_memory : (fault : WireFault) (standing : Standing) → standing ≡ Failed fault → fault ≢ Memory → standing ≢ Failed Memory
not_memory fault standing e n f = n cc

-- the head is the one that was looked at
pub still_owed : (site : Site) (old new : Option RequestHead) (head : RequestHead) (aim : Aim) → old ≡ Some head → new ≡ old
    → aim_of site head.method head.target ≡ Ok aim → Owes site new (interim_of site head)
still_owed site old new head aim e same aimed =
    subst (λ (o : Option RequestHead). Owes site o (interim_of site head)) (sym (same ∙ e)) ((aim, aimed), refl)

-- nothing is owed without a head
pub owes_none : (site : Site) (held : Option RequestHead) → held ≡ None → Owes site held []
owes_none site held e = subst (λ (o : Option RequestHead). Owes site o []) (sym e) refl

-- the client ended inside a message
pub ended_early : (site : Site) (from : Client) (stream window interim : List ℕ) (standing : Standing) (head : Option RequestHead) (to : Heard)
    → standing ≡ Failed EndedEarly → HoldsHead stream standing head → Owes site head interim → EndsInside Requests stream → window ≡ []
    → StaysAccounted from.heard.given from.pending to.given (stream ++ window) → Says interim from.heard to
    → to.ended ≡ true → to.faults ≡ 0 → ReadsNone site from to ClientEndedEarly
ended_early site from stream window interim standing head to failed holds owed ends none accounts said met whole =
    let n : standing ≢ Failed Memory = not_memory EndedEarly standing failed (λ e. let bad : ⊥ = cc in bad) in
    let within : IsInside site stream = inside site stream standing head interim n holds owed ends in
    NoMore (record {
      rest = stream;
      interim = interim;
      undecided = inr within;
      interim_is = interim_known site stream standing head interim n holds owed;
      taken = record { accounts = rw none at accounts; said = said };
      meets = (met, within, whole);
    })

-- before its head had come
pub ended_before_head : (site : Site) (from : Client) (stream window : List ℕ) (standing : Standing) (head : Option RequestHead) (now : Heard)
    → standing ≡ Failed EndedEarly → HoldsHead stream standing head → head ≡ None → EndsInside Requests stream → window ≡ []
    → StaysAccounted from.heard.given from.pending now.given (stream ++ window) → Says [] from.heard now
    → now.ended ≡ true → now.faults ≡ 0 → ReadsNone site from now ClientEndedEarly
ended_before_head site from stream window standing head now failed holds e ends none accounts same met whole =
    ended_early site from stream window [] standing head now failed holds (owes_none site head e) ends none accounts
    same met whole

-- behind a head that goes somewhere
pub ended_behind_head : (site : Site) (from mid : Client) (stream grown window : List ℕ) (standing : Standing) (held old : Option RequestHead)
    (head : RequestHead) (aim : Aim) (now : Heard) → AwaitsRest site from stream head aim mid
    → standing ≡ Failed EndedEarly → HoldsHead grown standing held → old ≡ Some head → held ≡ old → EndsInside Requests grown → window ≡ []
    → StaysAccounted mid.heard.given (stream ++ mid.pending) now.given (grown ++ window) → Says [] mid.heard now
    → now.ended ≡ true → now.faults ≡ 0 → ReadsNone site from now ClientEndedEarly
ended_behind_head site from mid stream grown window standing held old head aim now h failed holds e same_head ends none accounts same met whole =
    ended_early site from grown window (interim_of site head) standing held now failed holds
    (still_owed site old held head aim e same_head h.aimed) ends none (λ done f. accounts done (h.taken.accounts done f))
    (says_same _ _ _ _ h.taken.said same) met whole

-- there was no memory to read on
pub out_of_memory : (site : Site) (from : Client) (stream interim : List ℕ) (standing : Standing) (head : Option RequestHead) (to now : Heard)
    → HoldsHead stream standing head → Owes site head interim → ComesFaulty from stream interim to → Tries memory_text to now
    → ReadsNone site from now WantOfMemory
out_of_memory site from stream interim standing None to now holds owed h tries =
    let parts = begins_rest from.heard.given from.pending to.given stream h.accounts in
    GivingUp (record {
      wire = [];
      interim = interim;
      interim_is = inr owed;
      to = record { heard = to; pending = stream ++ parts.0 };
      taken = record { accounts = parts.1; said = h.said };
      tries = tries;
      ends = refl;
    })
out_of_memory site from stream interim standing (Some head) to now holds owed h tries =
    let parts = begins_rest from.heard.given from.pending to.given stream h.accounts in
    GivingUp (record {
      wire = stream;
      interim = interim;
      interim_is = inl (inl ((head, holds, owed.1)));
      to = record { heard = to; pending = parts.0 };
      taken = record { accounts = parts.1; said = h.said };
      tries = tries;
      ends = refl;
    })

-- a stream that is refused is so with its head, or without one
refused_by : (site : Site) (stream interim : List ℕ) (standing : Standing) (head : Option RequestHead) (fault : MessageFault) (refusal : Refusal)
    → standing ≢ Failed Memory → HoldsHead stream standing head → Owes site head interim → refusal ≡ refusal_of fault
    → IsFirst Requests false stream (Refused fault) → IsRefused site stream head refusal
refused_by site stream interim standing None fault refusal n holds owed e (inl (long, f)) = inl (long, e ∙ ap refusal_of f)
refused_by site stream interim standing None fault refusal n holds owed e (inr (inl (none, f))) = inr (none, e ∙ ap refusal_of f)
refused_by site stream interim standing None fault refusal n holds owed e (inr (inr (inl at))) =
    told_isnt_none stream _ _ _ at.head (wire_lacks stream standing n holds)
refused_by site stream interim standing None fault refusal n holds owed e (inr (inr (inr behind))) =
    told_isnt_none stream _ _ _ behind.head (wire_lacks stream standing n holds)
refused_by site stream interim standing (Some head) fault refusal n holds owed e (inl (long, f)) =
    long_isnt_head stream head.text holds.skipped long holds.front
refused_by site stream interim standing (Some head) fault refusal n holds owed e (inr (inl (none, f))) =
    let same : none.text ≡ head.text = one_text stream none.text head.text none.skipped holds.skipped none.front holds.front in
    let is : IsRequestHeadText none.text holds.holds.0 = subst (λ (t : List ℕ). IsRequestHeadText t holds.holds.0) (sym same) holds.holds.1.reads in
    absurd (none.none holds.holds.0 is)
refused_by site stream interim standing (Some head) fault refusal n holds owed e (inr (inr (inl at))) =
    (holds, inr (fault, owed.0, inl at, e))
refused_by site stream interim standing (Some head) fault refusal n holds owed e (inr (inr (inr behind))) =
    (holds, inr (fault, owed.0, inr behind, e))

-- bytes that are refused
pub turned_away : (site : Site) (from : Client) (stream interim : List ℕ) (standing : Standing) (head : Option RequestHead) (fault : MessageFault)
    (refusal : Refusal) (asks : Bool) (to now : Heard) (end : Served) → standing ≢ Failed Memory → HoldsHead stream standing head → Owes site head interim
    → refusal ≡ refusal_of fault → IsFirst Requests false stream (Refused fault)
    → BeginsAccounted from.heard.given from.pending to.given stream → Says interim from.heard to → asks ≡ answers_head head
    → EndsRefusal refusal (refusal_text refusal asks true) to now end → ReadsNone site from now end
turned_away site from stream interim standing head fault refusal asks to now end n holds owed e refused accounts said asked ends =
    let parts = begins_rest from.heard.given from.pending to.given stream accounts in
    Refusing (record {
      head = head;
      refusal = refusal;
      wire = stream;
      interim = interim;
      refused = refused_by site stream interim standing head fault refusal n holds owed e refused;
      interim_is = interim_known site stream standing head interim n holds owed;
      to = record { heard = to; pending = parts.0 };
      taken = record { accounts = parts.1; said = said };
      ends = subst (λ (b : Bool). EndsRefusal refusal (refusal_text refusal b true) to now end) asked ends;
    })

-- ---- a head that is looked at

-- a head that goes nowhere, or for which there was no memory
pub aim_ends : (site : Site) (head : RequestHead) (fault : AimFault) (asks : Bool) (before now : Heard) (end : Served)
    → IsAim (aim_of site head.method head.target) (Err fault) → asks ≡ asks_for_head head.method → RefusesAim fault asks before now end
    → LooksAt site head before now (Err end)
aim_ends site head aim_fault.ConnectRefused asks before now end is asked h =
    inl (
      refusals.ConnectRefused,
      inl (is, refl),
      subst (λ (b : Bool). EndsRefusal refusals.ConnectRefused (refusal_text refusals.ConnectRefused b true) before now end) asked h,
    )
aim_ends site head aim_fault.SecureRefused asks before now end is asked h =
    inl (
      refusals.SecureRefused,
      inr (inl (is, refl)),
      subst (λ (b : Bool). EndsRefusal refusals.SecureRefused (refusal_text refusals.SecureRefused b true) before now end) asked h,
    )
aim_ends site head aim_fault.TargetRefused asks before now end is asked h =
    inl (
      refusals.TargetRefused,
      inr (inr (is, refl)),
      subst (λ (b : Bool). EndsRefusal refusals.TargetRefused (refusal_text refusals.TargetRefused b true) before now end) asked h,
    )
aim_ends site head aim_fault.Memory asks before now end is asked h = inr (inl h)

-- why a head goes nowhere
pub aims_nowhere : (site : Site) (head : RequestHead) (refusal : Refusal) → IsAimedNowhere site head refusal
    → (fault : AimFault) × (aim_of site head.method head.target ≡ Err fault)
aims_nowhere site head refusal (inl (is, told)) = (aim_fault.ConnectRefused, is)
aims_nowhere site head refusal (inr (inl (is, told))) = (aim_fault.SecureRefused, is)
aims_nowhere site head refusal (inr (inr (is, told))) = (aim_fault.TargetRefused, is)

-- a head that goes nowhere asks for nothing
nowhere_asks : (site : Site) (head : RequestHead) (refusal : Refusal) → IsAimedNowhere site head refusal → interim_of site head ≡ []
nowhere_asks site head refusal h =
    let off = aims_nowhere site head refusal h in
    by_aim (aim_of site head.method head.target) (waits_for_answer head) off.0 off.1 where
      by_aim : (aim : Result Aim AimFault) (waits : Bool) (fault : AimFault) → aim ≡ Err fault
          → (if is_ok aim && waits then codes "HTTP/1.1 100 Continue\r\n\r\n" else []) ≡ []
      by_aim (Err fault) waits f e = refl
      by_aim (Ok aim) waits f e = absurd (cc)

-- a head that goes nowhere is refused with the bytes that begin with it, or there was no memory, or the link failed in what it
-- asks for
pub looked_ends : (site : Site) (from : Client) (stream pending : List ℕ) (head : RequestHead) (before now : Heard) (end : Served)
    → BeginsWithRequest stream head → HasTaken from stream [] (record { heard = before; pending = pending })
    → LooksAt site head before now (Err end) → ReadsNone site from now end
looked_ends site from stream pending head before now end begins taken (inl (refusal, nowhere, ends)) = Refusing (record {
  head = Some head;
  refusal = refusal;
  wire = stream;
  interim = [];
  refused = (begins, inl nowhere);
  interim_is = inl ((head, begins, sym (nowhere_asks site head refusal nowhere)));
  to = record { heard = before; pending = pending };
  taken = taken;
  ends = ends;
})
looked_ends site from stream pending head before now end begins taken (inr (inl (tries, e))) = GivingUp (record {
  wire = [];
  interim = [];
  interim_is = inr refl;
  to = record { heard = before; pending = stream ++ pending };
  taken = record { accounts = taken.accounts; said = taken.said };
  tries = tries;
  ends = e;
})
looked_ends site from stream pending head before now end begins taken (inr (inr (aimed, broke, e))) = Breaking (record {
  begun = stream;
  head = head;
  begins = begins;
  to = record { heard = before; pending = pending };
  taken = taken;
  broke = broke;
  ends = e;
})

-- what is faulty was taken, and some may be left
pub faulty_taken : (from : Client) (stream : List ℕ) (to : Heard) → ComesFaulty from stream [] to
    → (pending : List ℕ) × HasTaken from stream [] (record { heard = to; pending = pending })
faulty_taken from stream to h =
    let parts = begins_rest from.heard.given from.pending to.given stream h.accounts in
    (parts.0, record { accounts = parts.1; said = h.said })

-- and then what the head asks for was written
pub faulty_written : (from : Client) (stream text : List ℕ) (before now : Heard) → ComesFaulty from stream [] before
    → Writes text before now → ComesFaulty from stream text now
faulty_written from stream text before now h w = record {
  accounts = rw (sym w.same_given) at h.accounts;
  said = says_first text from.heard before now h.said w;
}

-- a fault in the body, behind a head that was looked at
pub faulty_behind : (site : Site) (from mid : Client) (stream grown : List ℕ) (head : RequestHead) (aim : Aim) (now : Heard)
    → AwaitsRest site from stream head aim mid → BeginsAccounted mid.heard.given (stream ++ mid.pending) now.given grown
    → Says [] mid.heard now → ComesFaulty from grown (interim_of site head) now
faulty_behind site from mid stream grown head aim now h accounts same = record {
  accounts = λ done e. accounts done (h.taken.accounts done e);
  said = says_same _ _ _ _ h.taken.said same;
}

-- ---- a body

-- a head goes where another goes that has the same text
pub same_aim : (site : Site) (stream : List ℕ) (head : RequestHead) (message : RequestMessage) → BeginsWithRequest stream head → IsRequest stream message
    → aim_of site message.head.method message.head.target ≡ aim_of site head.method head.target
same_aim site stream head message begins is =
    let text : message.head.text ≡ head.text = one_text stream message.head.text head.text is.skipped begins.skipped is.front begins.front in
    let own = is.holds.1 in
    let reads : ReadsRequest head.text is.holds.0 [] = subst (λ (t : List ℕ). ReadsRequest t is.holds.0 []) text own.reads.reads in
    let parse = (request_unique head.text is.holds.0 begins.holds.0 [] [] reads begins.holds.1.reads.reads).0 in
    let method : message.head.method ≡ head.method = own.method ∙ ap (λ (h : GrammarHead). h.method) parse ∙ sym begins.holds.1.method in
    let target : message.head.target ≡ head.target = own.target ∙ ap (λ (h : GrammarHead). h.target) parse ∙ sym begins.holds.1.target in
    ap (λ (m : List ℕ). aim_of site m message.head.target) method ∙ ap (λ (t : List ℕ). aim_of site head.method t) target

-- a request was read whole
pub read_whole : (site : Site) (from mid : Client) (stream grown : List ℕ) (head : RequestHead) (aim : Aim) (message : RequestMessage) (to : Client)
    → AwaitsRest site from stream head aim mid → BeginsWithRequest grown head → IsRequest grown message
    → StaysAccounted mid.heard.given (stream ++ mid.pending) to.heard.given (grown ++ to.pending) → Says [] mid.heard to.heard
    → HasRead site from message aim to
read_whole site from mid stream grown head aim message to h begins is accounts same = record {
  wire = grown;
  interim = interim_of site head;
  asked = record { is = is; aimed = same_aim site grown head message begins is ∙ h.aimed };
  interim_is = inl ((head, begins, refl));
  taken = record { accounts = λ done e. accounts done (h.taken.accounts done e); said = says_same _ _ _ _ h.taken.said same };
}

-- there was no memory for it
pub read_without_memory : (site : Site) (from mid : Client) (stream grown : List ℕ) (head : RequestHead) (aim : Aim) (to : Client) (now : Heard)
    → AwaitsRest site from stream head aim mid → BeginsWithRequest grown head
    → StaysAccounted mid.heard.given (stream ++ mid.pending) to.heard.given (grown ++ to.pending) → Says [] mid.heard to.heard
    → Tries memory_text to.heard now → ReadsNone site from now WantOfMemory
read_without_memory site from mid stream grown head aim to now h begins accounts same tries = GivingUp (record {
  wire = grown;
  interim = interim_of site head;
  interim_is = inl (inl ((head, begins, refl)));
  to = to;
  taken = record { accounts = λ done e. accounts done (h.taken.accounts done e); said = says_same _ _ _ _ h.taken.said same };
  tries = tries;
  ends = refl;
})

-- the link failed in it
pub body_broke : (site : Site) (from mid : Client) (stream grown window : List ℕ) (head : RequestHead) (aim : Aim) (now : Heard)
    → AwaitsRest site from stream head aim mid → BeginsWithRequest grown head → WireUndecided Requests false grown → window ≡ []
    → StaysAccounted mid.heard.given (stream ++ mid.pending) now.given (grown ++ window) → Says [] mid.heard now → now.faults ≢ 0
    → ReadsNone site from now ClientBroke
body_broke site from mid stream grown window head aim now h begins undecided none accounts same broke =
    broke_behind site from grown window head now begins (aim, h.aimed) undecided none
    (λ done e. accounts done (h.taken.accounts done e)) (says_same _ _ _ _ h.taken.said same) broke

-- a head that was looked at
pub looked : (site : Site) (from : Client) (stream pending : List ℕ) (head : RequestHead) (aim : Aim) (before now : Heard)
    → BeginsWithRequest stream head → HasTaken from stream [] (record { heard = before; pending = pending }) → aim_of site head.method head.target ≡ Ok aim
    → Writes (interim_of site head) before now → AwaitsRest site from stream head aim (record { heard = now; pending = pending })
looked site from stream pending head aim before now begins taken aimed w = record {
  begins = begins;
  aimed = aimed;
  taken = record {
    accounts = λ done e. w.same_given ∙ taken.accounts done e;
    said = says_first (interim_of site head) from.heard before now taken.said w;
  };
}

-- what taking a request that is whole makes of it
pub taken_whole : (site : Site) (from mid : Client) (stream grown : List ℕ) (head : RequestHead) (aim : Aim) (to : Client) (now : Heard)
    (pending : List ℕ) (result : Result RequestMessage Served)
    → AwaitsRest site from stream head aim mid → BeginsWithRequest grown head
    → StaysAccounted mid.heard.given (stream ++ mid.pending) to.heard.given (grown ++ to.pending) → Says [] mid.heard to.heard
    → to.pending ≡ pending → IfOk result (IsRequest grown) → OnOk result (now ≡ to.heard)
    → IfErr result (λ end. (end ≡ WantOfMemory) × Tries memory_text to.heard now)
    → ReadsBody site from aim (record { heard = now; pending = pending }) result
taken_whole site from mid stream grown head aim to now pending (Ok message) h begins accounts same e is kept gave =
    let whole : HasRead site from message aim to = read_whole site from mid stream grown head aim message to h begins is accounts same in
    rw (kept, sym e) whole
taken_whole site from mid stream grown head aim to now pending (Err end) h begins accounts same e is kept gave =
    rw gave.0 (read_without_memory site from mid stream grown head aim to now h begins accounts same gave.1)

-- a head that is there stands first
pub held_begins : (stream : List ℕ) (standing : Standing) (head : Option RequestHead) (known : RequestHead) → HoldsHead stream standing head
    → head ≡ Some known → BeginsWithRequest stream known
held_begins stream standing head known holds e = subst (λ (h : Option RequestHead). HoldsHead stream standing h) e holds

-- what a reader without a head read has none
pub held_lacks : (stream : List ℕ) (standing : Standing) (head : Option RequestHead) → HoldsHead stream standing head → head ≡ None → standing ≢ Failed Memory
    → (skipped : ℕ) (text : List ℕ) → front_of stream ≡ head_front.Head skipped text → IsNoHead Requests text
held_lacks stream standing head holds e n = wire_lacks stream standing n (subst (λ (h : Option RequestHead). HoldsHead stream standing h) e holds)

-- with a head, something has begun
pub begun_with_head : {P : Type 0} (stream : List ℕ) (standing : Standing) (head : Option RequestHead) → HoldsHead stream standing head → IsSome head
    → IsFirst Requests true stream NothingBegun → P
begun_with_head stream standing None holds some between = let bad : ⊥ = cc in absurd bad
begun_with_head stream standing (Some head) holds some between = nothing_isnt_head stream head.text holds.skipped between.0 holds.front

-- ---- what a call of a reader leaves

-- a reader that is new holds no head
pub none_new : (old new : Option RequestHead) → old ≡ None → new ≡ old → new ≡ None
none_new old new e f = f ∙ e

-- what was read from the start on
pub read_first : (from : Client) (stream : List ℕ) (to : Client) → StaysAccounted from.heard.given from.pending to.heard.given (stream ++ to.pending)
    → Says [] from.heard to.heard → HasTaken from stream [] to
read_first from stream to accounts same = record { accounts = accounts; said = same }

pub faulty_first : (from : Client) (stream : List ℕ) (now : Heard) → BeginsAccounted from.heard.given from.pending now.given stream
    → Says [] from.heard now → ComesFaulty from stream [] now
faulty_first from stream now accounts same =
    record { accounts = accounts; said = same }

pub open_is_whole : (standing : Standing) → standing ≡ Open → standing ≢ Failed Memory
open_is_whole standing e f = cc

-- a fault of which a head came, that goes somewhere
pub owes_held : (site : Site) (held : Option RequestHead) (head : RequestHead) (aim : Aim) → held ≡ Some head → aim_of site head.method head.target ≡ Ok aim
    → Owes site held (interim_of site head)
owes_held site held head aim e aimed = subst (λ (o : Option RequestHead). Owes site o (interim_of site head)) (sym e) ((aim, aimed), refl)

-- whatever the link tells, a request that was taken goes where its head goes
pub behind : (stream : List ℕ) (old new : Option RequestHead) (standing : Standing) (result : Result RequestMessage Served) → HoldsHead stream standing new
    → new ≡ old → IfOk result (IsRequest stream)
    → IfOk result (λ message. (head : RequestHead) → old ≡ Some head → IsBehind head message)
behind stream old new standing (Ok message) holds same is = λ head e. record {
  stream = stream;
  request = is;
  same_aim = λ site. same_aim site stream head message (held_begins stream standing new head holds (same ∙ e)) is;
}
behind stream old new standing (Err end) holds same is = tt

-- what was read of a head that was looked at is well asked
pub well_asked : (site : Site) (asked : Asked) (head : RequestHead) → IsBehind head asked.message → aim_of site head.method head.target ≡ Ok asked.aim → HasShortHost asked.aim
    → IsWellAsked site asked
well_asked site asked head h aimed short = record { stream = h.stream; request = h.request; aimed = h.same_aim site ∙ aimed; short = short }

-- what is read of a client that tells the same is read of it
pub reads_of_same : (site : Site) (pending : List ℕ) (was mid : Traffic) (before now : ℕ) (to : Client) (result : Result Asked Served)
    → mid ≡ was → now ≡ before → Reads site (record { heard = heard_of mid now; pending = pending }) to result
    → Reads site (record { heard = heard_of was before; pending = pending }) to result
reads_of_same site pending was mid before now to result e d reads =
    subst (λ (traffic : Traffic). Reads site (record { heard = heard_of traffic before; pending = pending }) to result) e
    (subst (λ (n : ℕ). Reads site (record { heard = heard_of mid n; pending = pending }) to result) d reads)
