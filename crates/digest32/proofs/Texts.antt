-- Laws of a whole text, which is k groups of five bytes.
use Rattle.std.proofs.Common.{◌≡◌, ℕ, zero, suc, ◌+◌, ◌*◌, ◌/◌, ◌%◌, ◌<◌, ◌≤◌, List, [], ◌∷◌, ◌++◌, length, get_or, take, drop, refl, sym, ap, ◌∙◌, arith}
use Rattle.std.specs.Prelude.{All, Contains}
use Rattle.std.specs.List.{between}
use Rattle.std.proofs.lemmas.List.{take-take, take-append-drop, take_all, length-take-le}
use Rattle.std.proofs.lemmas.List.Elements.{All-append, All-nil, All-same, All-from_recursion, All-take, All-drop}
use Rattle.std.proofs.lemmas.Slice.{between_is}
use borrow.Rule.Slice.PartMut.{put_mid}
use Rattle.digest32.specs.Base32.{alphabet, characters, base32, IsDigest, IsDigestText}
use Rattle.digest32.proofs.Alphabet.{character_injective, character_in_alphabet}
use Rattle.digest32.proofs.Groups.{base32-group, group_text}

-- five bytes at the front are eight characters at the front
base32-front : (a b c d e : ℕ) (rest : List ℕ) → base32 (a ∷ b ∷ c ∷ d ∷ e ∷ rest) ≡ base32 (a ∷ b ∷ c ∷ d ∷ e ∷ []) ++ base32 rest
unfolding base32 characters
base32-front a b c d e rest = refl

pub base32-append : (k : ℕ) (xs ys : List ℕ) → length xs ≡ 5 * k → base32 (xs ++ ys) ≡ base32 xs ++ base32 ys
unfolding base32 characters
base32-append zero [] ys h = refl
base32-append zero (x ∷ xs) ys h = absurd (omega arith)
base32-append (suc k) (a ∷ b ∷ c ∷ d ∷ e ∷ rest) ys h =
    let more : base32 (rest ++ ys) ≡ base32 rest ++ base32 ys = base32-append k rest ys (omega arith) in
    base32-front a b c d e (rest ++ ys) ∙ ap (λ (t : List ℕ). base32 (a ∷ b ∷ c ∷ d ∷ e ∷ []) ++ t) more
base32-append (suc k) [] ys h = absurd (omega arith)
base32-append (suc k) (a ∷ []) ys h = absurd (omega arith)
base32-append (suc k) (a ∷ b ∷ []) ys h = absurd (omega arith)
base32-append (suc k) (a ∷ b ∷ c ∷ []) ys h = absurd (omega arith)
base32-append (suc k) (a ∷ b ∷ c ∷ d ∷ []) ys h = absurd (omega arith)

pub length-base32 : (k : ℕ) (xs : List ℕ) → length xs ≡ 5 * k → length (base32 xs) ≡ 8 * k
unfolding base32 characters
length-base32 zero [] h = refl
length-base32 zero (x ∷ xs) h = absurd (omega arith)
length-base32 (suc k) (a ∷ b ∷ c ∷ d ∷ e ∷ rest) h =
    let more : length (base32 rest) ≡ 8 * k = length-base32 k rest (omega arith) in
    omega arith
length-base32 (suc k) [] h = absurd (omega arith)
length-base32 (suc k) (a ∷ []) h = absurd (omega arith)
length-base32 (suc k) (a ∷ b ∷ []) h = absurd (omega arith)
length-base32 (suc k) (a ∷ b ∷ c ∷ []) h = absurd (omega arith)
length-base32 (suc k) (a ∷ b ∷ c ∷ d ∷ []) h = absurd (omega arith)

-- each is a character of the alphabet
abbrev pub InAlphabet : List ℕ → Type 0
InAlphabet text = All (Contains alphabet) text

group_in_alphabet : (a b c d e : ℕ) → a < 256 → b < 256 → c < 256 → d < 256 → e < 256 → InAlphabet (group_text a b c d e)
group_in_alphabet a b c d e la lb lc ld le =
    All-from_recursion (Contains alphabet) (group_text a b c d e) (
      character_in_alphabet (a / 8) (omega arith),
      (
        character_in_alphabet (a % 8 * 4 + b / 64) (omega arith),
        (
          character_in_alphabet (b / 2 % 32) (omega arith),
          (
            character_in_alphabet (b % 2 * 16 + c / 16) (omega arith),
            (
              character_in_alphabet (c % 16 * 2 + d / 128) (omega arith),
              (
                character_in_alphabet (d / 4 % 32) (omega arith),
                (character_in_alphabet (d % 4 * 8 + e / 32) (omega arith), (character_in_alphabet (e % 32) (omega arith), tt)),
              ),
            ),
          ),
        ),
      ),
    )

-- each is a byte
abbrev pub AreBytes : List ℕ → Type 0
AreBytes xs = All (λ x. x < 256) xs

heads : (a b c d e : ℕ) (rest : List ℕ) → AreBytes (a ∷ b ∷ c ∷ d ∷ e ∷ rest) → (a < 256) × (b < 256) × (c < 256) × (d < 256) × (e < 256) × AreBytes rest
heads a b c d e rest h = (
  h 0 0 (omega arith),
  h 1 0 (omega arith),
  h 2 0 (omega arith),
  h 3 0 (omega arith),
  h 4 0 (omega arith),
  λ k x fits. h (suc (suc (suc (suc (suc k))))) x (omega arith),
)

pub base32-in_alphabet : (k : ℕ) (xs : List ℕ) → length xs ≡ 5 * k → AreBytes xs → InAlphabet (base32 xs)
unfolding base32 characters
base32-in_alphabet zero [] h bytes = All-nil (Contains alphabet)
base32-in_alphabet zero (x ∷ xs) h bytes = absurd (omega arith)
base32-in_alphabet (suc k) (a ∷ b ∷ c ∷ d ∷ e ∷ rest) h bytes =
    let P : ℕ → Type 0 = Contains alphabet in
    let r = heads a b c d e rest bytes in
    let more : InAlphabet (base32 rest) = base32-in_alphabet k rest (omega arith) r.5 in
    let front = group_in_alphabet a b c d e r.0 r.1 r.2 r.3 r.4 in
    All-append P (base32 (a ∷ b ∷ c ∷ d ∷ e ∷ [])) (base32 rest)
    (All-same P _ _ (base32-group a b c d e r.0 r.1 r.2 r.3 r.4) front) more
base32-in_alphabet (suc k) [] h bytes = absurd (omega arith)
base32-in_alphabet (suc k) (a ∷ []) h bytes = absurd (omega arith)
base32-in_alphabet (suc k) (a ∷ b ∷ []) h bytes = absurd (omega arith)
base32-in_alphabet (suc k) (a ∷ b ∷ c ∷ []) h bytes = absurd (omega arith)
base32-in_alphabet (suc k) (a ∷ b ∷ c ∷ d ∷ []) h bytes = absurd (omega arith)

bytes-1 : (a b a₂ b₂ : ℕ) → b < 256 → b₂ < 256 → a / 8 ≡ a₂ / 8 → a % 8 * 4 + b / 64 ≡ a₂ % 8 * 4 + b₂ / 64 → a ≡ a₂
bytes-1 a b a₂ b₂ lb lb₂ e0 e1 = omega arith

bytes-2 : (a b c a₂ b₂ c₂ : ℕ) → b < 256 → c < 256 → b₂ < 256 → c₂ < 256 → a % 8 * 4 + b / 64 ≡ a₂ % 8 * 4 + b₂ / 64 → b / 2 % 32 ≡ b₂ / 2 % 32 → b % 2 * 16 + c / 16 ≡ b₂ % 2 * 16 + c₂ / 16 → b ≡ b₂
bytes-2 a b c a₂ b₂ c₂ lb lc lb₂ lc₂ e1 e2 e3 = omega arith

bytes-3 : (b c d b₂ c₂ d₂ : ℕ) → c < 256 → d < 256 → c₂ < 256 → d₂ < 256 → b % 2 * 16 + c / 16 ≡ b₂ % 2 * 16 + c₂ / 16 → c % 16 * 2 + d / 128 ≡ c₂ % 16 * 2 + d₂ / 128 → c ≡ c₂
bytes-3 b c d b₂ c₂ d₂ lc ld lc₂ ld₂ e3 e4 = omega arith

bytes-4 : (c d e c₂ d₂ e₂ : ℕ) → d < 256 → e < 256 → d₂ < 256 → e₂ < 256 → c % 16 * 2 + d / 128 ≡ c₂ % 16 * 2 + d₂ / 128 → d / 4 % 32 ≡ d₂ / 4 % 32 → d % 4 * 8 + e / 32 ≡ d₂ % 4 * 8 + e₂ / 32 → d ≡ d₂
bytes-4 c d e c₂ d₂ e₂ ld le ld₂ le₂ e4 e5 e6 = omega arith

bytes-5 : (d e d₂ e₂ : ℕ) → e < 256 → e₂ < 256 → d % 4 * 8 + e / 32 ≡ d₂ % 4 * 8 + e₂ / 32 → e % 32 ≡ e₂ % 32 → e ≡ e₂
bytes-5 d e d₂ e₂ le le₂ e6 e7 = omega arith

-- equal characters have equal numbers, and the eight numbers give the five bytes back
group_injective : (a b c d e a₂ b₂ c₂ d₂ e₂ : ℕ) → a < 256 → b < 256 → c < 256 → d < 256 → e < 256 → a₂ < 256 → b₂ < 256 → c₂ < 256 → d₂ < 256 → e₂ < 256
    → group_text a b c d e ≡ group_text a₂ b₂ c₂ d₂ e₂ → (a ≡ a₂) × (b ≡ b₂) × (c ≡ c₂) × (d ≡ d₂) × (e ≡ e₂)
group_injective a b c d e a₂ b₂ c₂ d₂ e₂ la lb lc ld le la₂ lb₂ lc₂ ld₂ le₂ same =
    let at = λ (i : ℕ). ap (λ (t : List ℕ). get_or t i 0) same in
    let e0 = character_injective (a / 8) (a₂ / 8) (omega arith) (omega arith) (at 0) in
    let e1 = character_injective (a % 8 * 4 + b / 64) (a₂ % 8 * 4 + b₂ / 64) (omega arith) (omega arith) (at 1) in
    let e2 = character_injective (b / 2 % 32) (b₂ / 2 % 32) (omega arith) (omega arith) (at 2) in
    let e3 = character_injective (b % 2 * 16 + c / 16) (b₂ % 2 * 16 + c₂ / 16) (omega arith) (omega arith) (at 3) in
    let e4 = character_injective (c % 16 * 2 + d / 128) (c₂ % 16 * 2 + d₂ / 128) (omega arith) (omega arith) (at 4) in
    let e5 = character_injective (d / 4 % 32) (d₂ / 4 % 32) (omega arith) (omega arith) (at 5) in
    let e6 = character_injective (d % 4 * 8 + e / 32) (d₂ % 4 * 8 + e₂ / 32) (omega arith) (omega arith) (at 6) in
    let e7 = character_injective (e % 32) (e₂ % 32) (omega arith) (omega arith) (at 7) in
    (bytes-1 a b a₂ b₂ lb lb₂ e0 e1, bytes-2 a b c a₂ b₂ c₂ lb lc lb₂ lc₂ e1 e2 e3, bytes-3 b c d b₂ c₂ d₂ lc ld lc₂ ld₂ e3 e4, bytes-4 c d e c₂ d₂ e₂ ld le ld₂ le₂ e4 e5 e6, bytes-5 d e d₂ e₂ le le₂ e6 e7)

-- the group at the front, and the rest
front_same : (a b c d e : ℕ) (rest : List ℕ) (a₂ b₂ c₂ d₂ e₂ : ℕ) (rest₂ : List ℕ) → base32 (a ∷ b ∷ c ∷ d ∷ e ∷ rest) ≡ base32 (a₂ ∷ b₂ ∷ c₂ ∷ d₂ ∷ e₂ ∷ rest₂)
    → (base32 (a ∷ b ∷ c ∷ d ∷ e ∷ []) ≡ base32 (a₂ ∷ b₂ ∷ c₂ ∷ d₂ ∷ e₂ ∷ [])) × (base32 rest ≡ base32 rest₂)
unfolding base32 characters
front_same a b c d e rest a₂ b₂ c₂ d₂ e₂ rest₂ same = (ap (take 8) same, ap (drop 8) same)

pub base32_injective : (k : ℕ) (xs ys : List ℕ) → length xs ≡ 5 * k → length ys ≡ 5 * k → AreBytes xs → AreBytes ys → base32 xs ≡ base32 ys → xs ≡ ys
base32_injective zero [] [] h h₂ bytes bytes₂ same = refl
base32_injective zero [] (y ∷ ys) h h₂ bytes bytes₂ same = absurd (omega arith)
base32_injective zero (x ∷ xs) ys h h₂ bytes bytes₂ same = absurd (omega arith)
base32_injective (suc k) (a ∷ b ∷ c ∷ d ∷ e ∷ rest) (a₂ ∷ b₂ ∷ c₂ ∷ d₂ ∷ e₂ ∷ rest₂) h h₂ bytes bytes₂ same =
    let r = heads a b c d e rest bytes in
    let r₂ = heads a₂ b₂ c₂ d₂ e₂ rest₂ bytes₂ in
    let parts = front_same a b c d e rest a₂ b₂ c₂ d₂ e₂ rest₂ same in
    let text = sym (base32-group a b c d e r.0 r.1 r.2 r.3 r.4) ∙ parts.0 ∙ base32-group a₂ b₂ c₂ d₂ e₂ r₂.0 r₂.1 r₂.2 r₂.3 r₂.4 in
    let front = group_injective a b c d e a₂ b₂ c₂ d₂ e₂ r.0 r.1 r.2 r.3 r.4 r₂.0 r₂.1 r₂.2 r₂.3 r₂.4 text in
    let more = base32_injective k rest rest₂ (omega arith) (omega arith) r.5 r₂.5 parts.1 in
    cc (front.0, front.1, front.2, front.3, front.4, more)
base32_injective (suc k) [] ys h h₂ bytes bytes₂ same = absurd (omega arith)
base32_injective (suc k) (a ∷ []) ys h h₂ bytes bytes₂ same = absurd (omega arith)
base32_injective (suc k) (a ∷ b ∷ []) ys h h₂ bytes bytes₂ same = absurd (omega arith)
base32_injective (suc k) (a ∷ b ∷ c ∷ []) ys h h₂ bytes bytes₂ same = absurd (omega arith)
base32_injective (suc k) (a ∷ b ∷ c ∷ d ∷ []) ys h h₂ bytes bytes₂ same = absurd (omega arith)
base32_injective (suc k) (a ∷ b ∷ c ∷ d ∷ e ∷ rest) [] h h₂ bytes bytes₂ same = absurd (omega arith)
base32_injective (suc k) (a ∷ b ∷ c ∷ d ∷ e ∷ rest) (f ∷ []) h h₂ bytes bytes₂ same = absurd (omega arith)
base32_injective (suc k) (a ∷ b ∷ c ∷ d ∷ e ∷ rest) (f ∷ g ∷ []) h h₂ bytes bytes₂ same = absurd (omega arith)
base32_injective (suc k) (a ∷ b ∷ c ∷ d ∷ e ∷ rest) (f ∷ g ∷ i ∷ []) h h₂ bytes bytes₂ same = absurd (omega arith)
base32_injective (suc k) (a ∷ b ∷ c ∷ d ∷ e ∷ rest) (f ∷ g ∷ i ∷ j ∷ []) h h₂ bytes bytes₂ same = absurd (omega arith)

take_between : (xs : List ℕ) (i j : ℕ) → i ≤ j → take i xs ++ between i j xs ≡ take j xs
take_between xs i j le = rw (between_is xs i j, ← take-take i j xs le) (take-append-drop i (take j xs))

-- one more group, as at a step of a loop
pub more_groups : (k : ℕ) (bytes text : List ℕ) → 5 * k + 5 ≤ length bytes → take (8 * k) text ≡ base32 (take (5 * k) bytes)
    → between (8 * k) (8 * k + 8) text ≡ base32 (between (5 * k) (5 * k + 5) bytes) → take (8 * (k + 1)) text ≡ base32 (take (5 * (k + 1)) bytes)
more_groups k bytes text fits before here =
    let end_text : 8 * (k + 1) ≡ 8 * k + 8 = omega arith in
    let end_bytes : 5 * (k + 1) ≡ 5 * k + 5 = omega arith in
    let cut = length-take-le (5 * k) bytes (omega arith) in
    rw (end_text, end_bytes, ← take_between text (8 * k) (8 * k + 8) (omega arith), ← take_between bytes (5 * k) (5 * k + 5) (omega arith), before, here)
    (sym (base32-append k (take (5 * k) bytes) (between (5 * k) (5 * k + 5) bytes) cut))

-- a write of bytes over bytes
pub AreBytes-put_mid : (a k : ℕ) (xs ys : List ℕ) → AreBytes xs → AreBytes ys → AreBytes (put_mid a k xs ys)
AreBytes-put_mid a k xs ys h h₂ =
    let P : ℕ → Type 0 = λ x. x < 256 in
    All-append P (take a xs) (ys ++ drop k (drop a xs)) (All-take P a xs h)
    (All-append P ys (drop k (drop a xs)) h₂ (All-drop P k (drop a xs) (All-drop P a xs h)))

pub length-digest_text : (digest : List ℕ) → IsDigest digest → length (base32 digest) ≡ 32
length-digest_text digest is = length-base32 4 digest is.length_is

pub is_digest_text : (digest text : List ℕ) → IsDigest digest → text ≡ base32 digest → IsDigestText text
is_digest_text digest text is e = record {
  length_is = ap length e ∙ length-digest_text digest is;
  in_alphabet = All-same (Contains alphabet) _ _ e (base32-in_alphabet 4 digest is.length_is is.bytes);
}

pub digest_injective : (x y : List ℕ) → IsDigest x → IsDigest y → base32 x ≡ base32 y → x ≡ y
digest_injective x y is is₂ same = base32_injective 4 x y is.length_is is₂.length_is is.bytes is₂.bytes same

-- one group of a text
pub group_of_text : (text : List ℕ) (i : ℕ) → IsDigestText text → InAlphabet (between (8 * i) (8 * i + 8) text)
group_of_text text i is = All-take (Contains alphabet) _ _ (All-drop (Contains alphabet) (8 * i) text is.in_alphabet)

-- four groups are the whole
pub whole_text : (i : ℕ) (digest text : List ℕ) → i ≡ 4 → IsDigest digest → length text ≡ 32 → take (8 * i) text ≡ base32 (take (5 * i) digest) → text ≡ base32 digest
whole_text i digest text done is fits same =
    let all_text = take_all (8 * i) text (omega arith) in
    let all_digest = take_all (5 * i) digest (omega (arith, is.length_is)) in
    sym all_text ∙ same ∙ ap base32 all_digest
