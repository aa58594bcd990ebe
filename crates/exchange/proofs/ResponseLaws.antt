-- One response more: what came of reading it, by what its reader tells.
use Rattle.std.proofs.Common.{◌≡◌, ℕ, ◌<◌, Bool, true, false, List, [], ◌++◌, length, Option, Some, None, Ok, Err, inl, inr, refl, sym, ap, subst, ◌∙◌, arith, append_assoc, append-nil}
use Rattle.std.specs.Prelude.{IsSome, Result}
use Rattle.std.proofs.lemmas.Bool.{false≢true}
use Rattle.capture.specs.First.{Requests, Responses, Message, HeadNeeded, BodyNeeded, IsFirst}
use Rattle.capture.specs.declared.framing.MessageFault.TheVariants as message_fault
use Rattle.http_head.specs.declared.head.Received.{Received}
use Rattle.http_head.specs.declared.head.WireFault.{WireFault}
use Rattle.http_head.specs.declared.head.WireFault.TheVariants.{Malformed, HeadTooLong, BodyTooLong, CodingRefused, EndedEarly, Memory}
use Rattle.http_wire.specs.HeldBodies.{closed_standing}
use Rattle.http_wire.specs.Messages.{IsResponse}
use Rattle.http_wire.specs.Reading.{Standing, Whole, Cut, EndsInside, HasFault, IsUndecided, Stands}
use Rattle.http_wire.specs.Decisions.{MessagesStay, RefusalsStay}
use Rattle.exchange.specs.Fetches.{CountsFetch, LinkFaults, Receives}
use Rattle.exchange.specs.steps.Responses.{Answers, IsFaultOf, Yields}
use Rattle.exchange.specs.Receiving.{StaysAccounted, BeginsAccounted}
use Rattle.exchange.specs.declared.fetching.FetchFault.{FetchFault}
use Rattle.exchange.specs.declared.fetching.FetchFault.TheVariants.{DialFault, OriginFault, OriginEnded, OriginMalformed, OriginTooLong, TooManyInterim}
use Rattle.exchange.specs.declared.fetching.FetchFault.TheVariants.{Memory as WantOfMemory}
use Rattle.exchange.proofs.ArrivalLaws.{inflow}

-- ---- the head comes once

abbrev pub heads_left : {H : Type 0} → Option H → ℕ
heads_left None = 1
heads_left (Some head) = 0

pub head_came : {H : Type 0} → (old new : Option H) → old ≡ None → IsSome new → heads_left new < heads_left old
head_came old None none some = absurd (false≢true some)
head_came old (Some head) none some = rw none (omega arith)

-- ---- whole or cut

whole_is_not_cut : (cut : Bool) → Whole ≡ closed_standing cut → cut ≡ true → ⊥
whole_is_not_cut false standing is = cc
whole_is_not_cut true standing is = cc

standing_of_whole : (standing : Standing) (cut : Bool) → standing ≡ closed_standing cut → cut ≡ false → standing ≡ Whole
standing_of_whole standing false e is = e
standing_of_whole standing true e is = cc

standing_of_cut : (standing : Standing) (cut : Bool) → standing ≡ closed_standing cut → cut ≡ true → standing ≡ Cut
standing_of_cut standing true e is = e
standing_of_cut standing false e is = cc

-- with nothing read before, what was done ends where the window begins
from_window : (given start window done : List ℕ) → start ≡ [] → given ≡ done ++ window → given ≡ done ++ (start ++ window)
from_window given start window done none split = split ∙ ap (λ s. done ++ (s ++ window)) (sym none)

pub whole_answers : MessagesStay → (answers_head ended : Bool) (given start window0 now stream window : List ℕ) (standing : Standing)
    (received : Received) → start ≡ [] → StaysAccounted given (start ++ window0) now (stream ++ window) → standing ≡ Whole
    → IsFirst (Responses answers_head) false stream (Message (length stream)) → IsResponse answers_head stream received
    → standing ≡ closed_standing received.cut → Answers answers_head (Ok received) (inflow given window0) (inflow now window) ended
whole_answers stay answers_head ended given start window0 now stream window standing received none accounts whole first response is =
    λ done split. record {
      stream = stream ++ window;
      composed = accounts done (from_window given start window0 done none split);
      yields = record {
        text = stream;
        composed = refl;
        response = response;
        whole = λ _. stay (Responses answers_head) ended stream window (length stream) first;
        cut = λ cut. absurd (whole_is_not_cut received.cut (sym whole ∙ is) cut);
      };
    }

pub ended_answers : (answers_head ended : Bool) (given start window0 now stream window : List ℕ) (standing : Standing)
    (received : Received) → start ≡ [] → StaysAccounted given (start ++ window0) now (stream ++ window) → window ≡ []
    → Stands (Responses answers_head) stream standing → IsResponse answers_head stream received
    → standing ≡ closed_standing received.cut → ended ≡ true → Answers answers_head (Ok received) (inflow given window0) (inflow now window) ended
ended_answers answers_head ended given start window0 now stream window standing received none accounts empty stands response is met =
    let all : stream ++ window ≡ stream = ap (λ w. stream ++ w) empty ∙ append-nil stream in
    λ done split. record {
      stream = stream ++ window;
      composed = accounts done (from_window given start window0 done none split);
      yields = record {
        text = stream;
        composed = refl;
        response = response;
        whole = λ whole. subst (λ e. IsFirst (Responses answers_head) e (stream ++ window) (Message (length stream))) (sym met)
            (subst (λ s. IsFirst (Responses answers_head) true s (Message (length stream))) (sym all)
            (subst (Stands (Responses answers_head) stream) (standing_of_whole standing received.cut is whole) stands));
        cut = λ cut. (
          met,
          empty,
          subst (λ s. IsFirst (Responses answers_head) true s BodyNeeded) (sym all)
              (subst (Stands (Responses answers_head) stream) (standing_of_cut standing received.cut is cut) stands),
        );
      };
    }

-- ---- faults

broken_yields : (answers_head ended : Bool) (stream window : List ℕ) → IsUndecided (Responses answers_head) false stream
    → Yields answers_head (Err OriginFault) stream window ended
broken_yields answers_head ended stream window (inl nothing) = absurd (responses_are_no_requests nothing.1)
  where
    responses_are_no_requests : Responses answers_head ≡ Requests → ⊥
    responses_are_no_requests e = cc
broken_yields answers_head ended stream window (inr (inl head)) = inl head
broken_yields answers_head ended stream window (inr (inr body)) = inr body

pub broken_answers : (answers_head ended : Bool) (given start window0 now stream window : List ℕ) → start ≡ []
    → StaysAccounted given (start ++ window0) now (stream ++ window) → window ≡ [] → IsUndecided (Responses answers_head) false stream
    → Answers answers_head (Err OriginFault) (inflow given window0) (inflow now window) ended
broken_answers answers_head ended given start window0 now stream window none accounts empty undecided =
    λ done split. record {
      stream = stream;
      composed = accounts done (from_window given start window0 done none split) ∙ ap (λ w. done ++ (stream ++ w)) empty
          ∙ ap (λ s. done ++ s) (append-nil stream);
      yields = broken_yields answers_head ended stream window undecided;
    }

-- a fault that comes before the end, with bytes behind those of the message
faulty : RefusalsStay → (answers_head ended : Bool) (fault : FetchFault) (given start window0 now stream window : List ℕ) → start ≡ []
    → BeginsAccounted given (start ++ window0) now stream
    → ((rest : List ℕ) → Yields answers_head (Err fault) (stream ++ rest) window ended)
    → Answers answers_head (Err fault) (inflow given window0) (inflow now window) ended
faulty stay answers_head ended fault given start window0 now stream window none begins yields =
    λ done split.
    let front = begins done (from_window given start window0 done none split) in
    record {
      stream = stream ++ front.rest;
      composed = front.splits ∙ append_assoc done stream front.rest;
      yields = yields front.rest;
    }

-- one that is refused
pub refused_answers : RefusalsStay → (answers_head ended : Bool) (fault : WireFault) (why : FetchFault) (given start window0 now stream window : List ℕ)
    → start ≡ [] → BeginsAccounted given (start ++ window0) now stream → HasFault (Responses answers_head) fault stream → IsFaultOf fault why
    → Answers answers_head (Err why) (inflow given window0) (inflow now window) ended
refused_answers stay answers_head ended Malformed why given start window0 now stream window none accounts has is =
    rw is (faulty stay answers_head ended OriginMalformed given start window0 now stream window none accounts
    (λ rest. inl (stay (Responses answers_head) ended stream rest message_fault.Malformed has)))
refused_answers stay answers_head ended CodingRefused why given start window0 now stream window none accounts has is =
    rw is (faulty stay answers_head ended OriginMalformed given start window0 now stream window none accounts
    (λ rest. inr (stay (Responses answers_head) ended stream rest message_fault.CodingRefused has)))
refused_answers stay answers_head ended HeadTooLong why given start window0 now stream window none accounts has is =
    rw is (faulty stay answers_head ended OriginTooLong given start window0 now stream window none accounts
    (λ rest. inl (stay (Responses answers_head) ended stream rest message_fault.HeadTooLong has)))
refused_answers stay answers_head ended BodyTooLong why given start window0 now stream window none accounts has is =
    rw is (faulty stay answers_head ended OriginTooLong given start window0 now stream window none accounts
    (λ rest. inr (stay (Responses answers_head) ended stream rest message_fault.BodyTooLong has)))
refused_answers stay answers_head ended EndedEarly why given start window0 now stream window none accounts has is = absurd is
refused_answers stay answers_head ended Memory why given start window0 now stream window none accounts has is =
    rw is (faulty stay answers_head ended WantOfMemory given start window0 now stream window none accounts (λ rest. tt))

-- the link's end before the head is whole
pub ended_inside_answers : (answers_head ended : Bool) (given start window0 now stream window : List ℕ) → start ≡ []
    → StaysAccounted given (start ++ window0) now (stream ++ window) → window ≡ [] → EndsInside (Responses answers_head) stream → ended ≡ true
    → Answers answers_head (Err OriginEnded) (inflow given window0) (inflow now window) ended
ended_inside_answers answers_head ended given start window0 now stream window none accounts empty inside met =
    λ done split. record {
      stream = stream;
      composed = accounts done (from_window given start window0 done none split) ∙ ap (λ w. done ++ (stream ++ w)) empty
          ∙ ap (λ s. done ++ s) (append-nil stream);
      yields = (met, subst (λ e. IsFirst (Responses answers_head) e stream HeadNeeded) (sym met) inside);
    }

-- ---- counts

pub refused_counts : (fault : WireFault) (why : FetchFault) (before now : ℕ) → now ≡ before → IsFaultOf fault why
    → CountsFetch before now (Err why)
refused_counts Malformed why before now same is = rw is same
refused_counts CodingRefused why before now same is = rw is same
refused_counts HeadTooLong why before now same is = rw is same
refused_counts BodyTooLong why before now same is = rw is same
refused_counts EndedEarly why before now same is = absurd is
refused_counts Memory why before now same is = rw is same

-- of a link that had not failed
pub link_faults : (answers_head ended : Bool) (result : Result Received FetchFault) (given : List ℕ) (before now : ℕ) → before ≡ 0
    → CountsFetch before now result → Receives answers_head result given ended → LinkFaults result now
link_faults answers_head ended (Ok received) given before now none counts receives = counts ∙ none
link_faults answers_head ended (Err DialFault) given before now none counts receives = absurd receives
link_faults answers_head ended (Err OriginFault) given before now none counts receives = omega (arith, counts.1)
link_faults answers_head ended (Err OriginEnded) given before now none counts receives = counts ∙ none
link_faults answers_head ended (Err OriginMalformed) given before now none counts receives = counts ∙ none
link_faults answers_head ended (Err OriginTooLong) given before now none counts receives = counts ∙ none
link_faults answers_head ended (Err TooManyInterim) given before now none counts receives = counts ∙ none
link_faults answers_head ended (Err WantOfMemory) given before now none counts receives = counts ∙ none
