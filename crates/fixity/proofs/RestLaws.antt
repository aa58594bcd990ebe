-- What may stand behind the groups of a volume, by its first bytes.
use Rattle.std.proofs.Common.{◌≡◌, ◌≢◌, ◌<◌, ℕ, Bool, true, false, List, [], length, take, get_or, nat_eq, sym, ap, ◌∙◌, inl, inr, arith}
use Rattle.std.specs.Prelude.{MatchBool, min, slice_index}
use Rattle.std.proofs.Math.Seq.{get_or-take}
use Rattle.std.proofs.lemmas.Bool.{eqb-false, eqb-true}
use Rattle.std.proofs.lemmas.List.{nil_from_length}
use Rattle.warc_text.specs.StandsFor.{commit_byte}
use Rattle.fixity.specs.Verdicts.{IsSoundRest}

-- nothing may stand behind the groups of each volume
pub nothing_is_sound : (last : Bool) (rest : List ℕ) → rest ≡ [] → IsSoundRest last rest
nothing_is_sound true rest none = inl none
nothing_is_sound false rest none = none

module _ (front rest : List ℕ) (long : length front ≡ min 2 (length rest)) (same : front ≡ take (length front) rest) where
  pub nothing_is_left : length front ≡ 0 → rest ≡ []
  nothing_is_left none = nil_from_length rest (omega (arith, none, long))

  -- nothing else behind those of a volume that isn't the last
  pub more_is_left : 0 < length front → ¬ (IsSoundRest false rest)
  more_is_left some none = omega (arith, some, long, ap length none)

  first_byte : 0 < length front → slice_index rest 0 ≡ get_or front 0 0
  first_byte some = sym (get_or-take (length front) rest 0 0 some) ∙ sym (ap (λ (l : List ℕ). get_or l 0 0) same)

  pub uncommitted : 0 < length front → get_or front 0 0 ≢ commit_byte → IsSoundRest true rest
  uncommitted some other = inr (record {
    some = omega (arith, some, long);
    unfinished = inl (λ e. other (sym (first_byte some) ∙ e));
  })

  -- behind a commit byte in the last volume
  pub committed : 0 < length front → get_or front 0 0 ≡ commit_byte → (b : Bool) → b ≡ nat_eq (length front) 1 → MatchBool b (IsSoundRest true rest) (¬ (IsSoundRest true rest))
  committed some first true is = inr (record {
    some = omega (arith, some, long);
    unfinished = inr (omega (arith, long, eqb-true (length front) 1 (sym is)));
  })
  committed some first false is = λ sound. elim sound [
    | inl none ↦ omega (arith, some, long, ap length none)
    | inr tail ↦ elim tail.unfinished [
      | inl other ↦ other (first_byte some ∙ first)
      | inr one ↦ eqb-false (length front) 1 (sym is) (omega (arith, long, one))
    ]
  ]
