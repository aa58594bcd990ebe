-- The answers of a clock in memory, counted.
use Rattle.std.proofs.Common.{◌≡◌, ℕ, ◌+◌, ◌-◌, List, [], ◌∷◌, ◌++◌, length, take, inl, inr, arith, add-one, append-nil, length-append}
use Rattle.std.proofs.Math.Seq.{take-suc}
use Rattle.std.proofs.lemmas.Bool.{cases_lt}
use Rattle.std.proofs.lemmas.List.{length-replicate, length-take, take_all, replicate-append-replicate, get_or_past, append_assoc}
use Rattle.outside.specs.MemoryClock.{first_answers, answer_at, last_or_zero}

-- the first so many are so many
pub length-first_answers : (list : List ℕ) (many : ℕ) → length (first_answers list many) ≡ many
length-first_answers list many =
    simp (length-append, length-take, length-replicate) (omega arith)

-- one answer more
pub first_answers-next : (list : List ℕ) (many : ℕ) →
    first_answers list (many + 1) ≡ first_answers list many ++ answer_at list many ∷ []
first_answers-next list many =
    let last = last_or_zero list in
    elim (cases_lt many (length list)) [
      | inl below ↦
          let not_yet : many - length list ≡ 0 = omega arith in
          let nor_then : many + 1 - length list ≡ 0 = omega arith in
          let one_further : take (many + 1) list ≡ take many list ++ answer_at list many ∷ [] =
          rw add-one (take-suc list many last below) in
          rw (not_yet, nor_then, one_further) (simp append-nil)
      | inr above ↦
          let again : many + 1 - length list ≡ (many - length list) + 1 = omega arith in
          let all : take (many + 1) list ≡ list = take_all (many + 1) list (omega arith) in
          rw (again, all, take_all many list above, ← replicate-append-replicate (many - length list) 1 last, get_or_past list many last above)
          (simp append_assoc)
    ]
