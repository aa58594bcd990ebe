-- Where a byte stands first.
use Rattle.std.proofs.Common.{◌≡◌, ℕ, zero, suc, ◌+◌, ◌-◌, ◌<◌, Bool, true, false, not, ◌==◌, List, [], ◌∷◌, get_or, length, drop, refl, sym, ◌∙◌, ap, inl, inr, arith}
use Rattle.std.proofs.lemmas.Bool.{cases_lt, false≢true, eqb-true}
use Rattle.std.proofs.lemmas.List.{drop-drop}
use Rattle.std.specs.List.{prefix_len}
use Rattle.html_rewrite.specs.Bytes.{begins_with, less}
use Rattle.html_rewrite.specs.Split.{ends_raw_text}

pub not_here : (v : Bool) → (v ≡ true → ⊥) → v ≡ false
not_here true none = absurd (none refl)
not_here false none = refl

-- no earlier byte is it, and this one is
pub first_is : (byte : ℕ) (text : List ℕ) (at : ℕ) → at < length text → ((k : ℕ) → k < at → (get_or text k 0 == byte) ≡ true → ⊥) → (get_or text at 0 == byte) ≡ true → at ≡ prefix_len (λ b. not (b == byte)) text
first_is byte [] at below none here = absurd (omega (arith, below))
first_is byte (b ∷ text) zero below none here = rw here refl
first_is byte (b ∷ text) (suc at) below none here =
    let other : (b == byte) ≡ false = not_here (b == byte) (none 0 (omega arith)) in
    let rest : at ≡ prefix_len (λ c. not (c == byte)) text = first_is byte text at (omega (arith, below)) (λ k h. none (suc k) (omega (arith, h))) here in
    rw other (omega (arith, rest))

-- no byte is it
pub none_is : (byte : ℕ) (text : List ℕ) → ((k : ℕ) → k < length text → (get_or text k 0 == byte) ≡ true → ⊥) → length text ≡ prefix_len (λ b. not (b == byte)) text
none_is byte [] none = refl
none_is byte (b ∷ text) none =
    let other : (b == byte) ≡ false = not_here (b == byte) (none 0 (omega arith)) in
    let rest : length text ≡ prefix_len (λ c. not (c == byte)) text = none_is byte text (λ k h. none (suc k) (omega (arith, h))) in
    rw other (omega (arith, rest))

-- a test that fails at every other byte
abbrev pub NeedsFirst : ℕ → (List ℕ → Bool) → Type 0
NeedsFirst byte stops = (b : ℕ) (text : List ℕ) → (b == byte) ≡ false → stops (b ∷ text) ≡ false

-- it fails up to the place where the byte stands first
pub passed : (byte : ℕ) (stops : List ℕ → Bool) (text : List ℕ) (k : ℕ) → NeedsFirst byte stops → k < prefix_len (λ b. not (b == byte)) text → stops (drop k text) ≡ false
passed byte stops [] k needs before = absurd (omega (arith, before))
passed byte stops (b ∷ text) k needs before =
    elim (b == byte) as (λ v. (b == byte) ≡ v → stops (drop k (b ∷ text)) ≡ false) [
      | true ↦ λ e. at_first e
      | false ↦ λ e. behind k (λ j below. passed byte stops text j needs below) e before
    ]
    refl
  where
    at_first : (b == byte) ≡ true → stops (drop k (b ∷ text)) ≡ false
    at_first e =
        let none : prefix_len (λ c. not (c == byte)) (b ∷ text) ≡ 0 = rw e refl in
        absurd (omega (arith, before, none))

    behind : (j : ℕ) → ((i : ℕ) → i < prefix_len (λ c. not (c == byte)) text → stops (drop i text) ≡ false) → (b == byte) ≡ false → j < prefix_len (λ c. not (c == byte)) (b ∷ text) → stops (drop j (b ∷ text)) ≡ false
    behind zero others e below = needs b text e
    behind (suc j) others e below =
        let more : prefix_len (λ c. not (c == byte)) (b ∷ text) ≡ 1 + prefix_len (λ c. not (c == byte)) text = rw e refl in
        others j (omega (arith, below, more))

pub differs_back : (b c : ℕ) → (b == c) ≡ false → (c == b) ≡ false
differs_back b c e =
    elim (c == b) as (λ v. (c == b) ≡ v → v ≡ false) [
      | true ↦ λ f. absurd (false≢true (sym e ∙ ap (λ x. b == x) (eqb-true c b f) ∙ same b))
      | false ↦ λ f. refl
    ]
    refl
  where
    same : (x : ℕ) → (x == x) ≡ true
    same x = grind (arith)

-- a closer needs its first byte
pub closer_needs : (first : ℕ) (others : List ℕ) → NeedsFirst first (begins_with (first ∷ others))
closer_needs first others b text e = rw (differs_back b first e) refl

-- an end tag needs `<`
pub end_tag_needs : (element : List ℕ) → NeedsFirst less (ends_raw_text element)
end_tag_needs element b text e = rw (differs_back b less e) refl

-- a text that isn't empty, and its first byte
pub closer_first : (closer : List ℕ) → 0 < length closer → NeedsFirst (get_or closer 0 0) (begins_with closer)
closer_first [] some = absurd (omega (arith, some))
closer_first (first ∷ others) some = closer_needs first others

-- behind a place that was tried it fails up to where the byte stands next
pub passed_next : (byte : ℕ) (stops : List ℕ → Bool) (text : List ℕ) (len more : ℕ) → NeedsFirst byte stops → ((k : ℕ) → k < len → stops (drop k text) ≡ false) → stops (drop len text) ≡ false → more ≡ prefix_len (λ b. not (b == byte)) (drop (len + 1) text) → (k : ℕ) → k < len + 1 + more → stops (drop k text) ≡ false
passed_next byte stops text len more needs before here is k below =
    elim (cases_lt k len) [
      | inl h ↦ before k h
      | inr h ↦ elim (cases_lt len k) [
        | inl g ↦ behind g
        | inr g ↦ at_place (omega (arith, h, g))
      ]
    ]
  where
    at_place : k ≡ len → stops (drop k text) ≡ false
    at_place e = ap (λ n. stops (drop n text)) e ∙ here

    behind : len < k → stops (drop k text) ≡ false
    behind h =
        let j = k - (len + 1) in
        let sum : (len + 1) + j ≡ k = omega (arith, h) in
        let there = passed byte stops (drop (len + 1) text) j needs (omega (arith, h, below, is)) in
        ap (λ n. stops (drop n text)) (sym sum) ∙ ap stops (sym (drop-drop j (len + 1) text)) ∙ there
