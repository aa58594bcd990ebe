-- Five bytes and their eight characters.
use Rattle.std.proofs.Common.{◌≡◌, ℕ, ◌+◌, ◌*◌, ◌/◌, ◌%◌, ◌<◌, List, [], ◌∷◌, length, get_or, refl, ◌∙◌, arith}
use Rattle.std.specs.Prelude.{All}
use Rattle.std.proofs.lemmas.List.Elements.{All-from_recursion}
use Rattle.digest32.specs.Base32.{character, characters, base32}

-- the characters of five bytes, by quotients and rests
abbrev pub group_text : ℕ → ℕ → ℕ → ℕ → ℕ → List ℕ
group_text a b c d e =
    character (a / 8) ∷ character (a % 8 * 4 + b / 64) ∷ character (b / 2 % 32)
    ∷ character (b % 2 * 16 + c / 16) ∷ character (c % 16 * 2 + d / 128) ∷ character (d / 4 % 32)
    ∷ character (d % 4 * 8 + e / 32) ∷ character (e % 32) ∷ []

bits-1 : (a b : ℕ) → a < 256 → 16 * (a / 128 % 2) + 8 * (a / 64 % 2) + 4 * (a / 32 % 2) + 2 * (a / 16 % 2) + a / 8 % 2 ≡ a / 8
bits-1 a b small = omega arith

bits-2 : (a b : ℕ) → b < 256 → 16 * (a / 4 % 2) + 8 * (a / 2 % 2) + 4 * (a % 2) + 2 * (b / 128 % 2) + b / 64 % 2 ≡ a % 8 * 4 + b / 64
bits-2 a b small = omega arith

bits-3 : (b : ℕ) → 16 * (b / 32 % 2) + 8 * (b / 16 % 2) + 4 * (b / 8 % 2) + 2 * (b / 4 % 2) + b / 2 % 2 ≡ b / 2 % 32
bits-3 b = omega arith

bits-4 : (b c : ℕ) → c < 256 → 16 * (b % 2) + 8 * (c / 128 % 2) + 4 * (c / 64 % 2) + 2 * (c / 32 % 2) + c / 16 % 2 ≡ b % 2 * 16 + c / 16
bits-4 b c small = omega arith

bits-5 : (c d : ℕ) → d < 256 → 16 * (c / 8 % 2) + 8 * (c / 4 % 2) + 4 * (c / 2 % 2) + 2 * (c % 2) + d / 128 % 2 ≡ c % 16 * 2 + d / 128
bits-5 c d small = omega arith

bits-6 : (d : ℕ) → 16 * (d / 64 % 2) + 8 * (d / 32 % 2) + 4 * (d / 16 % 2) + 2 * (d / 8 % 2) + d / 4 % 2 ≡ d / 4 % 32
bits-6 d = omega arith

bits-7 : (d e : ℕ) → e < 256 → 16 * (d / 2 % 2) + 8 * (d % 2) + 4 * (e / 128 % 2) + 2 * (e / 64 % 2) + e / 32 % 2 ≡ d % 4 * 8 + e / 32
bits-7 d e small = omega arith

bits-8 : (e : ℕ) → 16 * (e / 16 % 2) + 8 * (e / 8 % 2) + 4 * (e / 4 % 2) + 2 * (e / 2 % 2) + e % 2 ≡ e % 32
bits-8 e = omega arith

pub base32-group : (a b c d e : ℕ) → a < 256 → b < 256 → c < 256 → d < 256 → e < 256 → base32 (a ∷ b ∷ c ∷ d ∷ e ∷ []) ≡ group_text a b c d e
unfolding base32 characters
base32-group a b c d e la lb lc ld le =
    rw (bits-1 a b la, bits-2 a b lb, bits-3 b, bits-4 b c lc, bits-5 c d ld, bits-6 d, bits-7 d e le, bits-8 e) refl

-- a list of five is its elements
pub five_elements : (xs : List ℕ) → length xs ≡ 5 → xs ≡ get_or xs 0 0 ∷ get_or xs 1 0 ∷ get_or xs 2 0 ∷ get_or xs 3 0 ∷ get_or xs 4 0 ∷ []
five_elements (a ∷ b ∷ c ∷ d ∷ e ∷ []) h = refl
five_elements [] h = absurd (omega arith)
five_elements (a ∷ []) h = absurd (omega arith)
five_elements (a ∷ b ∷ []) h = absurd (omega arith)
five_elements (a ∷ b ∷ c ∷ []) h = absurd (omega arith)
five_elements (a ∷ b ∷ c ∷ d ∷ []) h = absurd (omega arith)
five_elements (a ∷ b ∷ c ∷ d ∷ e ∷ f ∷ rest) h = absurd (omega arith)

pub eight_elements : (xs : List ℕ) → length xs ≡ 8 → xs ≡ get_or xs 0 0 ∷ get_or xs 1 0 ∷ get_or xs 2 0 ∷ get_or xs 3 0 ∷ get_or xs 4 0 ∷ get_or xs 5 0 ∷ get_or xs 6 0 ∷ get_or xs 7 0 ∷ []
eight_elements (a ∷ b ∷ c ∷ d ∷ e ∷ f ∷ g ∷ h ∷ []) is = refl
eight_elements [] is = absurd (omega arith)
eight_elements (a ∷ []) is = absurd (omega arith)
eight_elements (a ∷ b ∷ []) is = absurd (omega arith)
eight_elements (a ∷ b ∷ c ∷ []) is = absurd (omega arith)
eight_elements (a ∷ b ∷ c ∷ d ∷ []) is = absurd (omega arith)
eight_elements (a ∷ b ∷ c ∷ d ∷ e ∷ []) is = absurd (omega arith)
eight_elements (a ∷ b ∷ c ∷ d ∷ e ∷ f ∷ []) is = absurd (omega arith)
eight_elements (a ∷ b ∷ c ∷ d ∷ e ∷ f ∷ g ∷ []) is = absurd (omega arith)
eight_elements (a ∷ b ∷ c ∷ d ∷ e ∷ f ∷ g ∷ h ∷ i ∷ rest) is = absurd (omega arith)

-- the five bytes of eight numbers
abbrev pub group_bytes : ℕ → ℕ → ℕ → ℕ → ℕ → ℕ → ℕ → ℕ → List ℕ
group_bytes a b c d e f g h =
    (a * 8 + b / 4) ∷ (b % 4 * 64 + c * 2 + d / 16) ∷ (d % 16 * 16 + e / 2)
    ∷ (e % 2 * 128 + f * 4 + g / 8) ∷ (g % 8 * 32 + h) ∷ []

pub group_bytes_in_range : (a b c d e f g h : ℕ) → a < 32 → b < 32 → c < 32 → d < 32 → e < 32 → f < 32 → g < 32 → h < 32 → All (λ x. x < 256) (group_bytes a b c d e f g h)
group_bytes_in_range a b c d e f g h la lb lc ld le lf lg lh =
    All-from_recursion (λ x. x < 256) (group_bytes a b c d e f g h) (omega arith, (omega arith, (omega arith, (omega arith, (omega arith, tt)))))

-- the five bytes of eight numbers have their characters
pub base32-numbers : (a b c d e f g h : ℕ) → a < 32 → b < 32 → c < 32 → d < 32 → e < 32 → f < 32 → g < 32 → h < 32
    → base32 (group_bytes a b c d e f g h)
    ≡ character a ∷ character b ∷ character c ∷ character d ∷ character e ∷ character f ∷ character g ∷ character h ∷ []
base32-numbers a b c d e f g h la lb lc ld le lf lg lh =
    let e1 : (a * 8 + b / 4) / 8 ≡ a = omega arith in
    let e2 : (a * 8 + b / 4) % 8 * 4 + (b % 4 * 64 + c * 2 + d / 16) / 64 ≡ b = omega arith in
    let e3 : (b % 4 * 64 + c * 2 + d / 16) / 2 % 32 ≡ c = omega arith in
    let e4 : (b % 4 * 64 + c * 2 + d / 16) % 2 * 16 + (d % 16 * 16 + e / 2) / 16 ≡ d = omega arith in
    let e5 : (d % 16 * 16 + e / 2) % 16 * 2 + (e % 2 * 128 + f * 4 + g / 8) / 128 ≡ e = omega arith in
    let e6 : (e % 2 * 128 + f * 4 + g / 8) / 4 % 32 ≡ f = omega arith in
    let e7 : (e % 2 * 128 + f * 4 + g / 8) % 4 * 8 + (g % 8 * 32 + h) / 32 ≡ g = omega arith in
    let e8 : (g % 8 * 32 + h) % 32 ≡ h = omega arith in
    base32-group _ _ _ _ _ (omega arith) (omega arith) (omega arith) (omega arith) (omega arith)
    ∙ rw (e1, e2, e3, e4, e5, e6, e7, e8) refl
