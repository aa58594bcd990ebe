-- When a head that begins at once is within the limits.
use Rattle.std.proofs.Common.{◌≡◌, ℕ, ◌-◌, ◌≤◌, Bool, true, false, ◌&&◌, cond, leb, List, length, take, drop, Some, refl, sym, ap, ◌∙◌, arith}
use Rattle.std.proofs.lemmas.Bool.{le-leb, leb-true}
use Rattle.std.proofs.lemmas.List.{take_all}
use Rattle.capture.specs.Head.{field_lines, front_of, front_by, head_end, line_count, line_ends_len}
use Rattle.capture.specs.Head as head
use Rattle.capture.specs.Message.{IsShortHead}
use Rattle.capture.specs.declared.limits.TheConstants.{HEAD_LIMIT, FIELD_LIMIT}

abbrev front_at : ℕ → ℕ → List ℕ → head.Front
front_at end skipped text =
    cond (leb end HEAD_LIMIT && leb (field_lines (drop skipped text)) FIELD_LIMIT) (head.Head skipped (drop skipped text)) head.TooLong

front_is : (text : List ℕ) → head_end text ≡ Some (length text) → line_ends_len text ≡ 0 → front_of text ≡ front_at (length text) 0 text
front_is text ends none =
    ap (front_by text) ends ∙ ap (λ skipped. front_at (length text) skipped (take (length text) text)) none
    ∙ ap (front_at (length text) 0) (take_all (length text) text (omega arith))

too_long_is_no_head : (skipped : ℕ) (text : List ℕ) → head.TooLong ≡ head.Head skipped text → ⊥
too_long_is_no_head skipped text e = cc

by_tests : (long few : Bool) (text : List ℕ) → long ≡ true → few ≡ true → cond (long && few) (head.Head 0 text) head.TooLong ≡ head.Head 0 text
by_tests true true text p q = refl
by_tests true false text p q = cc
by_tests false few text p q = cc

tests_of : (long few : Bool) (text : List ℕ) → cond (long && few) (head.Head 0 text) head.TooLong ≡ head.Head 0 text → (long ≡ true) × (few ≡ true)
tests_of true true text e = (refl, refl)
tests_of true false text e = absurd (too_long_is_no_head 0 text e)
tests_of false few text e = absurd (too_long_is_no_head 0 text e)

is_short : (text : List ℕ) → head_end text ≡ Some (length text) → line_ends_len text ≡ 0 → leb (length text) HEAD_LIMIT ≡ true
    → leb (line_count text - 2) FIELD_LIMIT ≡ true → IsShortHead text
is_short text ends none long few = front_is text ends none ∙ by_tests (leb (length text) HEAD_LIMIT) (leb (line_count text - 2) FIELD_LIMIT) text long few

short_tests : (text : List ℕ) → head_end text ≡ Some (length text) → line_ends_len text ≡ 0 → IsShortHead text
    → (leb (length text) HEAD_LIMIT ≡ true) × (leb (line_count text - 2) FIELD_LIMIT ≡ true)
short_tests text ends none short =
    tests_of (leb (length text) HEAD_LIMIT) (leb (line_count text - 2) FIELD_LIMIT) text (sym (front_is text ends none) ∙ short)

-- by the number of its lines
pub short_by_count : (text : List ℕ) (n : ℕ) → head_end text ≡ Some (length text) → line_ends_len text ≡ 0 → length text ≤ HEAD_LIMIT
    → n ≡ line_count text → (leb n 130 ≡ true → IsShortHead text) × (IsShortHead text → leb n 130 ≡ true)
short_by_count text n ends none long counted = (
  λ few. is_short text ends none (le-leb (length text) HEAD_LIMIT long)
      (le-leb (line_count text - 2) FIELD_LIMIT (omega (arith, leb-true n 130 few, counted))),
  λ short. le-leb n 130 (omega (arith, leb-true (line_count text - 2) FIELD_LIMIT (short_tests text ends none short).1, counted)),
)
