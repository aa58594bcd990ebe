-- The characters and their numbers. A character's number is read back by a test that computes.
use Rattle.std.proofs.Common.{◌≡◌, ℕ, ◌+◌, ◌-◌, ◌<◌, ◌≤◌, true, ◌==◌, nat_lt, ◌⊎◌, inl, inr, refl, arith, sym, ap, ◌∙◌, if◌then◌else◌}
use Rattle.std.specs.Prelude.{Contains}
use Rattle.std.proofs.lemmas.Bool.{agree_below_at, eqb-true, cases_lt}
use Rattle.std.proofs.lemmas.List.{get_or_default}
use Rattle.digest32.specs.Base32.{alphabet, character}

-- the number of a character
abbrev number_at : ℕ → ℕ
number_at byte = if nat_lt byte 65 then byte - 24 else byte - 65

pub number_at-character : (n : ℕ) → n < 32 → number_at (character n) ≡ n
unfolding character
number_at-character n small = eqb-true _ _ (agree_below_at (λ k. number_at (character k) == k) (λ _. true) 32 n refl small)

pub character_injective : (m n : ℕ) → m < 32 → n < 32 → character m ≡ character n → m ≡ n
character_injective m n small small₂ e = sym (number_at-character m small) ∙ ap number_at e ∙ number_at-character n small₂

-- 0 to 25 are the letters
pub character-letter : (n : ℕ) → n < 26 → character n ≡ 65 + n
unfolding character
character-letter n small = eqb-true _ _ (agree_below_at (λ k. character k == 65 + k) (λ _. true) 26 n refl small)

-- 26 to 31 are the digits from 2 on
pub character-digit : (n : ℕ) → n < 6 → character (n + 26) ≡ 50 + n
unfolding character
character-digit n small = eqb-true _ _ (agree_below_at (λ k. character (k + 26) == 50 + k) (λ _. true) 6 n refl small)

pub character_in_alphabet : (n : ℕ) → n < 32 → Contains alphabet (character n)
unfolding character
character_in_alphabet n small = (n, small, get_or_default alphabet n (character n) 0 small)

-- what the alphabet contains lies in its two ranges
pub alphabet_ranges : (byte : ℕ) → Contains alphabet byte → ((65 ≤ byte) × (byte ≤ 90)) ⊎ ((50 ≤ byte) × (byte ≤ 55))
unfolding character
alphabet_ranges byte h =
    let is : character h.0 ≡ byte = get_or_default alphabet h.0 0 byte h.1 ∙ h.2 in
    elim (cases_lt h.0 26) [
      | inl letter ↦
          let e = character-letter h.0 letter in
          inl (omega arith, omega arith)
      | inr digit ↦
          let small : h.0 - 26 < 6 = omega (arith, h.1) in
          let back : h.0 - 26 + 26 ≡ h.0 = omega arith in
          let e : character h.0 ≡ 50 + (h.0 - 26) = rw back at (character-digit (h.0 - 26) small) in
          inr (omega arith, omega arith)
    ]
