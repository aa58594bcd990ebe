-- Texts of several pieces, one after another.
use Rattle.std.proofs.Common.{◌≡◌, ℕ, List, [], ◌++◌, take, drop, append_assoc, sym, ap, ◌∙◌}
use Rattle.std.proofs.lemmas.List.{take-append-drop}
use Rattle.record_opening.specs.OpenValues.{IsPartBehind}
use Rattle.record_opening.specs.Stops.{Differs, NoneStands, NoValueStands}
use Rattle.record_opening.specs.declared.stop.Stop.{Stop}
use Rattle.record_opening.proofs.Refusals.{at_mark, differs_more, differs_behind, none_more, none_first, none_at, none_after, same_behind, IsTold}

-- ---- pieces that stand

pub two : (a b bytes r rest : List ℕ) → bytes ≡ a ++ r → r ≡ b ++ rest → bytes ≡ (a ++ b) ++ rest
two a b bytes r rest e₁ e₂ = e₁ ∙ ap (λ x. a ++ x) e₂ ∙ sym (append_assoc a b rest)

pub three : (a b c bytes r s rest : List ℕ) → bytes ≡ a ++ r → r ≡ b ++ s → s ≡ c ++ rest → bytes ≡ (a ++ b ++ c) ++ rest
three a b c bytes r s rest e₁ e₂ e₃ = two (a ++ b) c bytes s rest (two a b bytes r s e₁ e₂) e₃

pub four : (a b c d bytes r s t rest : List ℕ) → bytes ≡ a ++ r → r ≡ b ++ s → s ≡ c ++ t → t ≡ d ++ rest → bytes ≡ (a ++ b ++ c ++ d) ++ rest
four a b c d bytes r s t rest e₁ e₂ e₃ e₄ = two (a ++ b ++ c) d bytes t rest (three a b c bytes r s t e₁ e₂ e₃) e₄

-- a piece of a known length
pub piece_stands : (bytes front back value : List ℕ) (len : ℕ) → front ≡ take len bytes → back ≡ drop len bytes → front ≡ value → bytes ≡ value ++ back
piece_stands bytes front back value len e₁ e₂ e₃ =
    sym (take-append-drop len bytes) ∙ ap (λ t. t ++ drop len bytes) (sym e₁ ∙ e₃) ∙ ap (λ t. value ++ t) (sym e₂)

-- a value and its line's end behind a text
pub behind_mark : (a value b bytes r rest : List ℕ) → bytes ≡ a ++ r → r ≡ (value ++ b) ++ rest → bytes ≡ (a ++ value ++ b) ++ rest
behind_mark a value b bytes r rest e₁ e₂ =
    two a (value ++ b) bytes r rest e₁ e₂ ∙ ap (λ t. t ++ rest) (sym (append_assoc a value b))

-- ---- of two pieces, the one that is refused

pub first_of_two : (stop : Stop) (a b bytes : List ℕ) → Differs stop bytes a → Differs stop bytes (a ++ b)
first_of_two stop a b bytes d = differs_more stop bytes a b d

pub second_of_two : (stop : Stop) (a b bytes r : List ℕ) → bytes ≡ a ++ r → Differs stop r b → Differs stop bytes (a ++ b)
second_of_two stop a b bytes r e₁ d = differs_behind stop bytes a r b e₁ d

-- ---- of three

pub first_of_three : (stop : Stop) (a b c bytes : List ℕ) → Differs stop bytes a → Differs stop bytes (a ++ b ++ c)
first_of_three stop a b c bytes d = differs_more stop bytes (a ++ b) c (differs_more stop bytes a b d)

pub second_of_three : (stop : Stop) (a b c bytes r : List ℕ) → bytes ≡ a ++ r → Differs stop r b → Differs stop bytes (a ++ b ++ c)
second_of_three stop a b c bytes r e₁ d = differs_more stop bytes (a ++ b) c (differs_behind stop bytes a r b e₁ d)

pub third_of_three : (stop : Stop) (a b c bytes r s : List ℕ) → bytes ≡ a ++ r → r ≡ b ++ s → Differs stop s c → Differs stop bytes (a ++ b ++ c)
third_of_three stop a b c bytes r s e₁ e₂ d = differs_behind stop bytes (a ++ b) s c (two a b bytes r s e₁ e₂) d

-- ---- of four

pub first_of_four : (stop : Stop) (a b c d bytes : List ℕ) → Differs stop bytes a → Differs stop bytes (a ++ b ++ c ++ d)
first_of_four stop a b c d bytes h = differs_more stop bytes (a ++ b ++ c) d (first_of_three stop a b c bytes h)

pub second_of_four : (stop : Stop) (a b c d bytes r : List ℕ) → bytes ≡ a ++ r → Differs stop r b → Differs stop bytes (a ++ b ++ c ++ d)
second_of_four stop a b c d bytes r e₁ h = differs_more stop bytes (a ++ b ++ c) d (second_of_three stop a b c bytes r e₁ h)

pub third_of_four : (stop : Stop) (a b c d bytes r s : List ℕ) → bytes ≡ a ++ r → r ≡ b ++ s → Differs stop s c → Differs stop bytes (a ++ b ++ c ++ d)
third_of_four stop a b c d bytes r s e₁ e₂ h = differs_more stop bytes (a ++ b ++ c) d (third_of_three stop a b c bytes r s e₁ e₂ h)

pub fourth_of_four : (stop : Stop) (a b c d bytes r s t : List ℕ) → bytes ≡ a ++ r → r ≡ b ++ s → s ≡ c ++ t → Differs stop t d → Differs stop bytes (a ++ b ++ c ++ d)
fourth_of_four stop a b c d bytes r s t e₁ e₂ e₃ h = differs_behind stop bytes (a ++ b ++ c) t d (three a b c bytes r s t e₁ e₂ e₃) h

-- ---- a value's text between two texts, and which of the three is refused

module _ {V : Type 0} (Is : V → Type 0) (text : V → List ℕ) (stop : Stop) (a b bytes : List ℕ) where
  pub before_value : (v : V) → Is v → Differs stop bytes a → NoneStands Is (λ v. a ++ text v ++ b) stop bytes
  before_value v is d = none_more Is (λ v. a ++ text v) stop bytes b (none_first Is text stop bytes a v is d)

  pub at_value : (IsPart : List ℕ → Type 0) (r : List ℕ) → (IsPart r → IsPartBehind a r) → bytes ≡ a ++ r → NoValueStands Is text IsPart stop r
      → NoneStands Is (λ v. a ++ text v ++ b) stop bytes
  at_value IsPart r fits e₁ none = none_more Is (λ v. a ++ text v) stop bytes b (none_at Is text IsPart stop bytes a r (λ part. at_mark [] a r (fits part)) e₁ none)

  pub behind_value : (r s : List ℕ) (v : V) → Is v → IsTold Is text v → bytes ≡ a ++ r → r ≡ text v ++ s → Differs stop s b
      → NoneStands Is (λ v. a ++ text v ++ b) stop bytes
  behind_value r s v is told e₁ e₂ d =
      none_after Is (λ v. a ++ text v) stop bytes b s v is
      (λ w x y was e. told w x y was (same_behind a (text v) (text w) x y e))
      (two a (text v) bytes r s e₁ e₂) d
