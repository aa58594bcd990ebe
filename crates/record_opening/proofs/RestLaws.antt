-- What is committed is no tail, and what has begun may be a committed text.
use Rattle.std.proofs.Common.{ℕ, ◌<◌, inl, inr, Bool, true, false, List, [], ◌∷◌, ◌++◌, length, refl, sym, ap, subst, arith}
use Rattle.capture.specs.Tails.{IsCommitted, IsTail}
use Rattle.warc_text.specs.StandsFor.{commit_byte}
use Rattle.record_opening.specs.Fronts.{IsBegun}
use Rattle.record_opening.specs.Rests.{IsUnfinished, IsCommittedRest}
use Rattle.record_opening.specs.OpenValues.{Begins}

apart : (text : List ℕ) → IsCommitted commit_byte text → IsTail commit_byte text → ⊥
apart text committed tail = elim tail.unfinished [ inl other ↦ other committed.begins | inr one ↦ omega (arith, one, committed.more) ]

pub no_tail : (more : Bool) (bytes : List ℕ) → IsCommittedRest more bytes → ¬ (IsUnfinished more bytes)
no_tail true bytes committed tail = apart (bytes ++ (0 ∷ [])) (committed (0 ∷ []) (omega arith)) (tail (0 ∷ []) (omega arith))
no_tail false bytes committed tail = apart (bytes ++ []) (committed [] refl) (tail [] refl)

-- the commit byte and another one may follow
two_bytes : IsCommitted commit_byte (87 ∷ 87 ∷ [])
two_bytes = record { begins = refl; more = omega arith }

three_bytes : IsCommitted commit_byte (87 ∷ 87 ∷ 87 ∷ [])
three_bytes = record { begins = refl; more = omega arith }

pub begun_is_no_tail : (bytes : List ℕ) → IsBegun bytes → ¬ (IsUnfinished true bytes)
begun_is_no_tail bytes (inl none) tail =
    apart (87 ∷ 87 ∷ []) two_bytes (subst (λ b. IsTail commit_byte (b ++ (87 ∷ 87 ∷ []))) none (tail (87 ∷ 87 ∷ []) (omega arith)))
begun_is_no_tail bytes (inr one) tail =
    apart (87 ∷ 87 ∷ 87 ∷ []) three_bytes (subst (λ b. IsTail commit_byte (b ++ (87 ∷ 87 ∷ []))) one (tail (87 ∷ 87 ∷ []) (omega arith)))

pub begun_is_short : (bytes : List ℕ) → IsBegun bytes → length bytes < 2
begun_is_short bytes (inl none) = omega (arith, ap length none)
begun_is_short bytes (inr one) = omega (arith, ap length one)

-- each text that goes on behind the commit byte begins so
pub begun_begins : (rest bytes : List ℕ) → 0 < length rest → IsBegun bytes → Begins (87 ∷ rest) bytes
begun_begins rest bytes some (inl none) = record { behind = 87 ∷ rest; composed = ap (λ b. b ++ (87 ∷ rest)) (sym none); more = omega arith }
begun_begins rest bytes some (inr one) = record { behind = rest; composed = ap (λ b. b ++ rest) (sym one); more = some }
