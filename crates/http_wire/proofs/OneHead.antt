-- A stream has one head, which tells one framing, or one fault.
use Rattle.std.proofs.Common.{◌≡◌, ℕ, List, [], length, drop, Ok, sym, ap, subst, ◌∙◌, arith}
use Rattle.std.specs.Prelude.{Result}
use Rattle.httparse.proofs.GrammarLemmas.{request_unique, response_unique}
use Rattle.httparse.specs.Grammar.{RequestHead, ResponseHead}
use Rattle.capture.specs.First.{Side, Requests, Responses, HeadTells, IsNoHead, BehindHead}
use Rattle.capture.specs.Framing.{request_framing, response_framing}
use Rattle.capture.specs.Head.{front_of, Head, TooLong, Nothing, More}
use Rattle.capture.specs.Message.{IsRequestHeadText, IsResponseHeadText}
use Rattle.capture.specs.declared.framing.Framing.{Framing}
use Rattle.capture.specs.declared.framing.FramingFault.{FramingFault}

pub one_parse : (text : List ℕ) (h k : ResponseHead) → IsResponseHeadText text h → IsResponseHeadText text k → h ≡ k
one_parse text h k first second = (response_unique text h k [] [] first.reads second.reads).0

pub one_head : (f : List ℕ) (skipped other : ℕ) (text text_too : List ℕ) → front_of f ≡ Head skipped text → front_of f ≡ Head other text_too
    → text ≡ text_too
one_head f skipped other text text_too e d = let same : Head skipped text ≡ Head other text_too = sym e ∙ d in cc

pub no_head_is_none : (k : ℕ) (t : List ℕ) → Nothing ≡ Head k t → ⊥
no_head_is_none k t d = cc

pub no_head_in_more : (k : ℕ) (t : List ℕ) → More ≡ Head k t → ⊥
no_head_in_more k t d = cc

pub no_head_too_long : (k : ℕ) (t : List ℕ) → TooLong ≡ Head k t → ⊥
no_head_too_long k t d = cc

one_request : (text : List ℕ) (h k : RequestHead) → IsRequestHeadText text h → IsRequestHeadText text k → h ≡ k
one_request text h k first second = (request_unique text h k [] [] first.reads second.reads).0

-- a text tells one framing, or one fault
pub one_told : (side : Side) (text : List ℕ) (told other : Result Framing FramingFault) → HeadTells side text told → HeadTells side text other
    → told ≡ other
one_told Requests text told other first second =
    sym first.2 ∙ ap request_framing (one_request text first.0 second.0 first.1 second.1) ∙ second.2
one_told (Responses answers_head) text told other first second =
    sym first.2 ∙ ap (response_framing answers_head) (one_parse text first.0 second.0 first.1 second.1) ∙ second.2

-- and is a head, or none
pub head_or_none : (side : Side) (text : List ℕ) (told : Result Framing FramingFault) → HeadTells side text told → IsNoHead side text → ⊥
head_or_none Requests text told tells none = none tells.0 tells.1
head_or_none (Responses answers_head) text told tells none = none tells.0 tells.1

pub one_skipped : (k j : ℕ) (text other : List ℕ) → Head k text ≡ Head j other → k ≡ j
one_skipped k j text other e = cc

-- what stands behind a head, and where
pub record IsSameHead (told other : Result Framing FramingFault) (end at : ℕ) (rest behind : List ℕ) : Type 0 where
  pub told_is : told ≡ other
  pub end_is : end ≡ at
  pub rest_is : rest ≡ behind

pub same_head : (side : Side) (stream : List ℕ) (told other : Result Framing FramingFault) (end at : ℕ) (rest behind : List ℕ)
    → BehindHead side stream told end rest → BehindHead side stream other at behind → IsSameHead told other end at rest behind
same_head side stream told other end at rest behind first second =
    let fronts : Head first.skipped first.text ≡ Head second.skipped second.text = sym first.front ∙ second.front in
    let skipped : first.skipped ≡ second.skipped = one_skipped first.skipped second.skipped first.text second.text fronts in
    let text = one_head stream first.skipped second.skipped first.text second.text first.front second.front in
    let tells : HeadTells side first.text other = subst (λ t. HeadTells side t other) (sym text) second.tells in
    let ends : end ≡ at = omega (arith, first.end_is, second.end_is, skipped, ap length text) in
    record {
      told_is = one_told side first.text told other first.tells tells;
      end_is = ends;
      rest_is = first.rest_is ∙ ap (λ n. drop n stream) ends ∙ sym second.rest_is;
    }

pub same_ok : (framing other : Framing) → ◌≡◌ {A = Result Framing FramingFault} (Ok framing) (Ok other) → framing ≡ other
same_ok framing other e = cc
