-- An origin's stream comes to one thing.
use Rattle.std.proofs.Common.{◌≡◌, ℕ, ◌<◌, List, [], ◌∷◌, ◌++◌, length, ◌⊎◌, inl, inr, refl, sym, ap, subst, ◌∙◌, arith, append_assoc}
use Rattle.std.specs.Prelude.{All}
use Rattle.std.specs.List.{flat_map}
use Rattle.std.proofs.lemmas.List.Elements.{All-head, All-tail}
use Rattle.capture.specs.Final.{IsInterim, BeginsWithInterim, Arrival, Arrived, TooManyInterim}
use Rattle.capture.specs.First.{Responses, First, IsFirst}
use Rattle.capture.specs.Head.{front_of, Head}
use Rattle.http_head.specs.FrontLaws.{HeadsStay}
use Rattle.http_head.proofs.FrontLaws.{heads_stay}
use Rattle.http_wire.specs.Decisions.{ArrivalsAreOne}
use Rattle.http_wire.proofs.LineFronts.{heads_of}
use Rattle.http_wire.proofs.OneFirst.{firsts_are_one}
use Rattle.http_wire.proofs.OneHead.{one_head, one_skipped}

-- ---- the interim responses are the same

-- equal texts have equal fronts of one length
same_fronts : (s t rest other : List ℕ) → length s ≡ length t → s ++ rest ≡ t ++ other → rest ≡ other
same_fronts [] [] rest other long e = e
same_fronts [] (b ∷ t) rest other long e = absurd (omega (arith, long))
same_fronts (a ∷ s) [] rest other long e = absurd (omega (arith, long))
same_fronts (a ∷ s) (b ∷ t) rest other long e =
    same_fronts s t rest other (omega (arith, long)) (heads_of a b (s ++ rest) (t ++ other) e).1

behind_one_interim : HeadsStay → (text same rest other : List ℕ) → IsInterim text → IsInterim same → text ++ rest ≡ same ++ other → rest ≡ other
behind_one_interim stay text same rest other first second e =
    let at : front_of (text ++ rest) ≡ Head first.skipped first.head_text = stay text rest first.skipped first.head_text first.front in
    let also : front_of (text ++ rest) ≡ Head second.skipped second.head_text =
    ap front_of e ∙ stay same other second.skipped second.head_text second.front in
    let head = one_head (text ++ rest) first.skipped second.skipped first.head_text second.head_text at also in
    let skipped = one_skipped first.skipped second.skipped first.head_text second.head_text (sym at ∙ also) in
    same_fronts text same rest other (omega (arith, first.all, second.all, skipped, ap length head)) e

-- the bytes behind them are the same; or another stands behind those of the one list, or of the other
abbrev Compares : (interims others : List (List ℕ)) (rest behind : List ℕ) → Type 0
Compares interims others rest behind =
    (rest ≡ behind) ⊎ BeginsWithInterim rest ⊎ (BeginsWithInterim behind × (length others < length interims))

abbrev joined : List (List ℕ) → List ℕ
joined interims = flat_map (λ text. text) interims

one_further : (text same : List ℕ) (interims others : List (List ℕ)) (rest behind : List ℕ) → Compares interims others rest behind
    → Compares (text ∷ interims) (same ∷ others) rest behind
one_further text same interims others rest behind (inl e) = inl e
one_further text same interims others rest behind (inr (inl begins)) = inr (inl begins)
one_further text same interims others rest behind (inr (inr more)) = inr (inr (more.0, omega (arith, more.1)))

compare : HeadsStay → (interims others : List (List ℕ)) (rest behind : List ℕ) → All IsInterim interims → All IsInterim others
    → joined interims ++ rest ≡ joined others ++ behind → Compares interims others rest behind
compare stay [] [] rest behind each other e = inl e
compare stay [] (same ∷ others) rest behind each other e =
    inr (inl (same, joined others ++ behind, All-head IsInterim same others other, e ∙ append_assoc same (joined others) behind))
compare stay (text ∷ interims) [] rest behind each other e =
    inr (inr (
      (text, joined interims ++ rest, All-head IsInterim text interims each, sym e ∙ append_assoc text (joined interims) rest),
      omega arith,
    ))
compare stay (text ∷ interims) (same ∷ others) rest behind each other e =
    let regrouped = sym (append_assoc text (joined interims) rest) ∙ e ∙ append_assoc same (joined others) behind in
    let later = behind_one_interim stay text same (joined interims ++ rest) (joined others ++ behind) (All-head IsInterim text interims each)
    (All-head IsInterim same others other) regrouped in
    one_further text same interims others rest behind
    (compare stay interims others rest behind (All-tail IsInterim text interims each) (All-tail IsInterim same others other) later)

-- ---- what stands behind them

abbrev made : ℕ → First → Arrival
made behind first = Arrived behind first

pub arrivals_are_one : ArrivalsAreOne
arrivals_are_one answers_head ended stream (Arrived behind first) (Arrived at other) a b =
    by_place (compare heads_stay a.0 b.0 a.1 b.1 a.2.each b.2.each (sym a.2.composed ∙ b.2.composed))
  where
    by_place : Compares a.0 b.0 a.1 b.1 → made behind first ≡ made at other
    by_place (inl same) =
        let there : IsFirst (Responses answers_head) ended a.1 other =
        subst (λ r. IsFirst (Responses answers_head) ended r other) (sym same) b.5 in
        let firsts = firsts_are_one (Responses answers_head) ended a.1 first other a.5 there in
        let places : behind ≡ at = omega (arith, a.4, b.4, ap length same) in
        λ i. Arrived (places i) (firsts i)
    by_place (inr (inl begins)) = absurd (a.3 begins)
    by_place (inr (inr more)) = absurd (b.3 more.0)
arrivals_are_one answers_head ended stream (Arrived behind first) TooManyInterim a b =
    absurd (not_many (compare heads_stay a.0 b.0 a.1 b.1 a.2.each b.2.each (sym a.2.composed ∙ b.2.composed)))
  where
    not_many : Compares a.0 b.0 a.1 b.1 → ⊥
    not_many (inl same) = a.3 (subst BeginsWithInterim (sym same) b.4)
    not_many (inr (inl begins)) = a.3 begins
    not_many (inr (inr more)) = absurd (omega (arith, more.1, b.3, a.2.few))
arrivals_are_one answers_head ended stream TooManyInterim (Arrived at other) a b =
    absurd (not_many (compare heads_stay b.0 a.0 b.1 a.1 b.2.each a.2.each (sym b.2.composed ∙ a.2.composed)))
  where
    not_many : Compares b.0 a.0 b.1 a.1 → ⊥
    not_many (inl same) = b.3 (subst BeginsWithInterim (sym same) a.4)
    not_many (inr (inl begins)) = b.3 begins
    not_many (inr (inr more)) = absurd (omega (arith, more.1, a.3, b.2.few))
arrivals_are_one answers_head ended stream TooManyInterim TooManyInterim a b = refl
