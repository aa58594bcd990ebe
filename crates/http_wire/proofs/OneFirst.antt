-- One thing stands first in a stream.
use Rattle.std.proofs.Common.{◌≡◌, ◌≢◌, ℕ, ◌+◌, ◌<◌, Bool, ltb, List, Some, None, Result, Ok, ◌⊎◌, inl, inr, refl, sym, ap, subst, ◌∙◌, arith}
use Rattle.std.proofs.lemmas.Bool.{cond_both, ltb-true}
use Rattle.capture.specs.First.{Side, Requests, Responses, First, Message, Refused, NothingBegun, HeadNeeded, BodyNeeded, IsFirst, BehindHead, HasNoHead, IsNoHead, RefusesAtHead, HoldsBody, RefusesBody, BeginsBody, fault_at_head}
use Rattle.capture.specs.Head.{front_of, Front, Head, TooLong, Nothing, More}
use Rattle.capture.specs.declared.framing.Framing.{Framing}
use Rattle.capture.specs.declared.framing.Framing.TheVariants.{Empty, Length, Chunked, ToEnd}
use Rattle.capture.specs.declared.framing.FramingFault.{FramingFault}
use Rattle.capture.specs.declared.framing.MessageFault.{MessageFault}
use Rattle.capture.specs.declared.framing.MessageFault.TheVariants.{Malformed, HeadTooLong, BodyTooLong}
use Rattle.capture.specs.declared.limits.TheConstants.{BODY_LIMIT}
use Rattle.capture.proofs.CutLaws.{cut_unique, whole_unique, whole_is_not_cut}
use Rattle.http_head.proofs.SectionLaws.{sections_end}
use Rattle.http_wire.specs.Decisions.{FirstsAreOne}
use Rattle.http_wire.proofs.OneHead.{no_head_in_more, no_head_is_none, no_head_too_long, one_head}
use Rattle.http_wire.proofs.OneBody.{Laws, holds_one, holds_or_refuses, holds_or_begins, refuses_one, refuses_or_begins}
use Rattle.http_wire.proofs.OneHead.{head_or_none, same_head, same_ok}

-- ---- what may stand first, by what the front is

-- what stands first where no head does
abbrev first_by : Front → Side → First
first_by TooLong side = Refused HeadTooLong
first_by Nothing Requests = NothingBegun
first_by Nothing (Responses answers_head) = HeadNeeded
first_by More side = HeadNeeded
first_by (Head skipped text) side = HeadNeeded

record Headless (side : Side) (stream : List ℕ) (first : First) : Type 0 where
  first_is : first ≡ first_by (front_of stream) side
  no_head : (skipped : ℕ) (text : List ℕ) → front_of stream ≡ Head skipped text → ⊥

-- a body is whole, has a fault, or is to go on
abbrev BodyFirst : Bool → Framing → (end : ℕ) → (rest : List ℕ) → First → Type 0
BodyFirst ended framing end rest first =
    ((used : ℕ) × HoldsBody framing ended rest used × (first ≡ Message (end + used)))
    ⊎ ((fault : MessageFault) × RefusesBody framing rest fault × (first ≡ Refused fault))
    ⊎ (BeginsBody framing ended rest × (first ≡ BodyNeeded))

record BehindFirst (side : Side) (ended : Bool) (stream : List ℕ) (first : First) : Type 0 where
  framing : Framing
  end : ℕ
  rest : List ℕ
  head : BehindHead side stream (Ok framing) end rest
  body : BodyFirst ended framing end rest first

abbrev NoHeadFirst : Side → List ℕ → First → Type 0
NoHeadFirst side stream first = HasNoHead side stream × (first ≡ Refused Malformed)

abbrev AtHeadFirst : Side → List ℕ → First → Type 0
AtHeadFirst side stream first = (fault : MessageFault) × RefusesAtHead side stream fault × (first ≡ Refused fault)

abbrev Kind : Side → Bool → List ℕ → First → Type 0
Kind side ended stream first =
    Headless side stream first ⊎ NoHeadFirst side stream first ⊎ AtHeadFirst side stream first ⊎ BehindFirst side ended stream first

headless_at : (side : Side) (stream : List ℕ) (first : First) (front : Front) → front_of stream ≡ front → first ≡ first_by front side
    → ((skipped : ℕ) (text : List ℕ) → front ≡ Head skipped text → ⊥) → Headless side stream first
headless_at side stream first front at is none = record {
  first_is = is ∙ sym (ap (λ f. first_by f side) at);
  no_head = λ k t head. none k t (sym at ∙ head);
}

of_responses : (side : Side) → side ≢ Requests → HeadNeeded ≡ first_by Nothing side
of_responses Requests other = absurd (other refl)
of_responses (Responses answers_head) other = refl

kind_of : (side : Side) (ended : Bool) (stream : List ℕ) (first : First) → IsFirst side ended stream first → Kind side ended stream first
kind_of side ended stream (Message used) m = inr (inr (inr (record {
  framing = m.framing;
  end = m.end;
  rest = m.rest;
  head = m.head;
  body = inl (m.body_len, m.body, ap Message m.used_is);
})))
kind_of side ended stream (Refused fault) (inl long) =
    inl (headless_at side stream (Refused fault) TooLong long.0 (ap Refused long.1) no_head_too_long)
kind_of side ended stream (Refused fault) (inr (inl none)) = inr (inl (none.0, ap Refused none.1))
kind_of side ended stream (Refused fault) (inr (inr (inl head))) = inr (inr (inl (fault, head, refl)))
kind_of side ended stream (Refused fault) (inr (inr (inr body))) = inr (inr (inr (record {
  framing = body.framing;
  end = body.end;
  rest = body.rest;
  head = body.head;
  body = inr (inl (fault, body.body, refl));
})))
kind_of side ended stream NothingBegun nothing =
    inl (headless_at side stream NothingBegun Nothing nothing.0 (sym (ap (first_by Nothing) nothing.1)) no_head_is_none)
kind_of side ended stream HeadNeeded (inl nothing) =
    inl (headless_at side stream HeadNeeded Nothing nothing.0 (of_responses side nothing.1) no_head_is_none)
kind_of side ended stream HeadNeeded (inr more) = inl (headless_at side stream HeadNeeded More more refl no_head_in_more)
kind_of side ended stream BodyNeeded body = inr (inr (inr (record {
  framing = body.framing;
  end = body.end;
  rest = body.rest;
  head = body.head;
  body = inr (inr (body.body, refl));
})))

-- ---- one kind has one thing

body_one : Laws → (framing : Framing) (ended : Bool) (end : ℕ) (rest : List ℕ) (first other : First) → BodyFirst ended framing end rest first
    → BodyFirst ended framing end rest other → first ≡ other
body_one laws framing ended end rest first other (inl a) (inl b) =
    a.2 ∙ ap (λ n. Message (end + n)) (holds_one laws framing ended rest a.0 b.0 a.1 b.1) ∙ sym b.2
body_one laws framing ended end rest first other (inl a) (inr (inl b)) =
    absurd (holds_or_refuses laws framing ended rest a.0 b.0 a.1 b.1)
body_one laws framing ended end rest first other (inl a) (inr (inr b)) =
    absurd (holds_or_begins laws framing ended rest a.0 a.1 b.0)
body_one laws framing ended end rest first other (inr (inl a)) (inl b) =
    absurd (holds_or_refuses laws framing ended rest b.0 a.0 b.1 a.1)
body_one laws framing ended end rest first other (inr (inl a)) (inr (inl b)) =
    a.2 ∙ ap Refused (refuses_one laws framing rest a.0 b.0 a.1 b.1) ∙ sym b.2
body_one laws framing ended end rest first other (inr (inl a)) (inr (inr b)) =
    absurd (refuses_or_begins laws framing ended rest a.0 a.1 b.0)
body_one laws framing ended end rest first other (inr (inr a)) (inl b) =
    absurd (holds_or_begins laws framing ended rest b.0 b.1 a.0)
body_one laws framing ended end rest first other (inr (inr a)) (inr (inl b)) =
    absurd (refuses_or_begins laws framing ended rest b.0 b.1 a.0)
body_one laws framing ended end rest first other (inr (inr a)) (inr (inr b)) = a.1 ∙ sym b.1

told_long : (n : ℕ) (fault : MessageFault) → fault_at_head (Ok (Length n)) ≡ Some fault → BODY_LIMIT < n
told_long n fault =
    cond_both (ltb BODY_LIMIT n) (Some BodyTooLong) None (λ r. r ≡ Some fault → BODY_LIMIT < n) (λ long e. ltb-true BODY_LIMIT n long)
    (λ _ e. absurd (none_is_not_some fault e))
  where
    none_is_not_some : (f : MessageFault) → None ≡ Some f → ⊥
    none_is_not_some f e = cc

-- a head that tells of a fault has no body
told_or_body : (framing : Framing) (fault : MessageFault) (ended : Bool) (end : ℕ) (rest : List ℕ) (first : First)
    → fault_at_head (Ok framing) ≡ Some fault → BodyFirst ended framing end rest first → ⊥
told_or_body Empty fault ended end rest first told body = cc
told_or_body (Length n) fault ended end rest first told (inl holds) = absurd (omega (arith, holds.1.0, told_long n fault told))
told_or_body (Length n) fault ended end rest first told (inr (inl refuses)) = refuses.1
told_or_body (Length n) fault ended end rest first told (inr (inr begins)) = absurd (omega (arith, begins.0.1, told_long n fault told))
told_or_body Chunked fault ended end rest first told body = cc
told_or_body ToEnd fault ended end rest first told body = cc

none_or_told : (side : Side) (stream : List ℕ) (told : Result Framing FramingFault) (end : ℕ) (rest : List ℕ) → HasNoHead side stream
    → BehindHead side stream told end rest → ⊥
none_or_told side stream told end rest none head =
    let text = one_head stream none.skipped head.skipped none.text head.text none.front head.front in
    head_or_none side head.text told head.tells (subst (IsNoHead side) text none.none)

at_head_or_behind : (side : Side) (ended : Bool) (stream : List ℕ) (first other : First) → AtHeadFirst side stream first
    → BehindFirst side ended stream other → ⊥
at_head_or_behind side ended stream first other at behind =
    let same = same_head side stream at.1.framing (Ok behind.framing) at.1.end behind.end at.1.rest behind.rest at.1.head behind.head in
    told_or_body behind.framing at.0 ended behind.end behind.rest other (sym (ap fault_at_head same.told_is) ∙ at.1.told) behind.body

same_fault : (fault other : MessageFault) → Some fault ≡ Some other → fault ≡ other
same_fault fault other e = cc

at_head_one : (side : Side) (stream : List ℕ) (first other : First) → AtHeadFirst side stream first → AtHeadFirst side stream other → first ≡ other
at_head_one side stream first other a b =
    let same = same_head side stream a.1.framing b.1.framing a.1.end b.1.end a.1.rest b.1.rest a.1.head b.1.head in
    a.2 ∙ ap Refused (same_fault a.0 b.0 (sym a.1.told ∙ ap fault_at_head same.told_is ∙ b.1.told)) ∙ sym b.2

behind_one : Laws → (side : Side) (ended : Bool) (stream : List ℕ) (first other : First) → BehindFirst side ended stream first
    → BehindFirst side ended stream other → first ≡ other
behind_one laws side ended stream first other a b =
    let same = same_head side stream (Ok a.framing) (Ok b.framing) a.end b.end a.rest b.rest a.head b.head in
    let framing = same_ok a.framing b.framing same.told_is in
    let framed : BodyFirst ended a.framing b.end b.rest other = subst (λ f. BodyFirst ended f b.end b.rest other) (sym framing) b.body in
    let placed : BodyFirst ended a.framing a.end b.rest other = subst (λ n. BodyFirst ended a.framing n b.rest other) (sym same.end_is) framed in
    body_one laws a.framing ended a.end a.rest first other a.body
    (subst (λ r. BodyFirst ended a.framing a.end r other) (sym same.rest_is) placed)

one_kind : Laws → (side : Side) (ended : Bool) (stream : List ℕ) (first other : First) → Kind side ended stream first
    → Kind side ended stream other → first ≡ other
one_kind laws side ended stream first other (inl a) (inl b) = a.first_is ∙ sym b.first_is
one_kind laws side ended stream first other (inl a) (inr (inl b)) = absurd (a.no_head b.0.skipped b.0.text b.0.front)
one_kind laws side ended stream first other (inl a) (inr (inr (inl b))) = absurd (a.no_head b.1.head.skipped b.1.head.text b.1.head.front)
one_kind laws side ended stream first other (inl a) (inr (inr (inr b))) = absurd (a.no_head b.head.skipped b.head.text b.head.front)
one_kind laws side ended stream first other (inr (inl a)) (inl b) = absurd (b.no_head a.0.skipped a.0.text a.0.front)
one_kind laws side ended stream first other (inr (inl a)) (inr (inl b)) = a.1 ∙ sym b.1
one_kind laws side ended stream first other (inr (inl a)) (inr (inr (inl b))) =
    absurd (none_or_told side stream b.1.framing b.1.end b.1.rest a.0 b.1.head)
one_kind laws side ended stream first other (inr (inl a)) (inr (inr (inr b))) =
    absurd (none_or_told side stream (Ok b.framing) b.end b.rest a.0 b.head)
one_kind laws side ended stream first other (inr (inr (inl a))) (inl b) = absurd (b.no_head a.1.head.skipped a.1.head.text a.1.head.front)
one_kind laws side ended stream first other (inr (inr (inl a))) (inr (inl b)) =
    absurd (none_or_told side stream a.1.framing a.1.end a.1.rest b.0 a.1.head)
one_kind laws side ended stream first other (inr (inr (inl a))) (inr (inr (inl b))) = at_head_one side stream first other a b
one_kind laws side ended stream first other (inr (inr (inl a))) (inr (inr (inr b))) =
    absurd (at_head_or_behind side ended stream first other a b)
one_kind laws side ended stream first other (inr (inr (inr a))) (inl b) = absurd (b.no_head a.head.skipped a.head.text a.head.front)
one_kind laws side ended stream first other (inr (inr (inr a))) (inr (inl b)) =
    absurd (none_or_told side stream (Ok a.framing) a.end a.rest b.0 a.head)
one_kind laws side ended stream first other (inr (inr (inr a))) (inr (inr (inl b))) =
    absurd (at_head_or_behind side ended stream other first b a)
one_kind laws side ended stream first other (inr (inr (inr a))) (inr (inr (inr b))) = behind_one laws side ended stream first other a b

bodies_are_one : Laws
bodies_are_one = record { whole = whole_unique; cut = cut_unique; apart = whole_is_not_cut; sections = sections_end }

pub firsts_are_one : FirstsAreOne
firsts_are_one side ended stream first other a b =
    one_kind bodies_are_one side ended stream first other (kind_of side ended stream first a) (kind_of side ended stream other b)
