-- Texts of five known pieces, one after another.
use Rattle.std.proofs.Common.{◌≡◌, ℕ, List, ◌++◌}
use Rattle.record_opening.specs.Stops.{Differs}
use Rattle.record_opening.specs.declared.stop.Stop.{Stop}
use Rattle.record_opening.proofs.Pieces.{first_of_four, first_of_two, four, fourth_of_four, second_of_four, second_of_two, third_of_four, two}

pub five : (a b c d e bytes r s t u rest : List ℕ) → bytes ≡ a ++ r → r ≡ b ++ s → s ≡ c ++ t → t ≡ d ++ u → u ≡ e ++ rest
    → bytes ≡ (a ++ b ++ c ++ d ++ e) ++ rest
five a b c d e bytes r s t u rest e₁ e₂ e₃ e₄ e₅ = two (a ++ b ++ c ++ d) e bytes u rest (four a b c d bytes r s t u e₁ e₂ e₃ e₄) e₅

pub first_of_five : (stop : Stop) (a b c d e bytes : List ℕ) → Differs stop bytes a → Differs stop bytes (a ++ b ++ c ++ d ++ e)
first_of_five stop a b c d e bytes h = first_of_two stop (a ++ b ++ c ++ d) e bytes (first_of_four stop a b c d bytes h)

pub second_of_five : (stop : Stop) (a b c d e bytes r : List ℕ) → bytes ≡ a ++ r → Differs stop r b → Differs stop bytes (a ++ b ++ c ++ d ++ e)
second_of_five stop a b c d e bytes r e₁ h = first_of_two stop (a ++ b ++ c ++ d) e bytes (second_of_four stop a b c d bytes r e₁ h)

pub third_of_five : (stop : Stop) (a b c d e bytes r s : List ℕ) → bytes ≡ a ++ r → r ≡ b ++ s → Differs stop s c → Differs stop bytes (a ++ b ++ c ++ d ++ e)
third_of_five stop a b c d e bytes r s e₁ e₂ h = first_of_two stop (a ++ b ++ c ++ d) e bytes (third_of_four stop a b c d bytes r s e₁ e₂ h)

pub fourth_of_five : (stop : Stop) (a b c d e bytes r s t : List ℕ) → bytes ≡ a ++ r → r ≡ b ++ s → s ≡ c ++ t → Differs stop t d
    → Differs stop bytes (a ++ b ++ c ++ d ++ e)
fourth_of_five stop a b c d e bytes r s t e₁ e₂ e₃ h = first_of_two stop (a ++ b ++ c ++ d) e bytes (fourth_of_four stop a b c d bytes r s t e₁ e₂ e₃ h)

pub fifth_of_five : (stop : Stop) (a b c d e bytes r s t u : List ℕ) → bytes ≡ a ++ r → r ≡ b ++ s → s ≡ c ++ t → t ≡ d ++ u → Differs stop u e
    → Differs stop bytes (a ++ b ++ c ++ d ++ e)
fifth_of_five stop a b c d e bytes r s t u e₁ e₂ e₃ e₄ h = second_of_two stop (a ++ b ++ c ++ d) e bytes u (four a b c d bytes r s t u e₁ e₂ e₃ e₄) h
