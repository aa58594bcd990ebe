-- The value of the one field of a name, and texts that are compared with a constant.
use Rattle.std.proofs.Common.{◌≡◌, ◌≢◌, ℕ, zero, suc, ◌+◌, ◌<◌, ◌≤◌, ◌⊎◌, inl, inr, List, [], ◌∷◌, ◌++◌, length, take, drop, Option, Some, None, IfSome, IfNone, Bor, slice_get, option_copied, refl, sym, ap, ◌∙◌, arith}
use Rattle.std.proofs.lemmas.List.{take-append-drop}
use Rattle.warc_reader.specs.Records.{HasVersion, record_end, version_line}

pub one_value : (values : List (List ℕ)) (found : Option (Bor (List ℕ))) → option_copied found ≡ slice_get values 0 → length values ≡ 1
    → IfSome found (λ v. values ≡ v.now ∷ [])
one_value values None is one = tt
one_value [] (Some v) is one = absurd (omega (arith, one))
one_value (x ∷ []) (Some v) is one = cc
one_value (x ∷ y ∷ values) (Some v) is one = absurd (omega (arith, one))

pub none_is_not_one : (values : List (List ℕ)) (found : Option (Bor (List ℕ))) → option_copied found ≡ slice_get values 0
    → IfNone found (length values ≢ 1)
none_is_not_one values (Some v) is = tt
none_is_not_one [] None is = λ one. absurd (omega (arith, one))
none_is_not_one (x ∷ values) None is = absurd cc

-- ---- the end of a record

pub short_end : (text rest : List ℕ) → length text < 4 → text ≡ record_end ++ rest → ⊥
unfolding record_end
short_end text rest short e = absurd (omega (arith, short, ap length e))

pub end_there : (text front back : List ℕ) → front ≡ take 4 text → back ≡ drop 4 text → front ≡ 13 ∷ 10 ∷ 13 ∷ 10 ∷ [] → text ≡ record_end ++ back
unfolding record_end
end_there text front back first rest is =
    sym (take-append-drop 4 text) ∙ ap (λ t. t ++ drop 4 text) (sym first ∙ is) ∙ ap (λ t. record_end ++ t) (sym rest)

pub end_first : (text front rest : List ℕ) → front ≡ take 4 text → text ≡ record_end ++ rest → front ≡ 13 ∷ 10 ∷ 13 ∷ 10 ∷ []
unfolding record_end
end_first text front rest first e = first ∙ ap (take 4) e

-- ---- the version line

abbrev pub line_of : ℕ → List ℕ
line_of digit = 87 ∷ 65 ∷ 82 ∷ 67 ∷ 47 ∷ 49 ∷ 46 ∷ digit ∷ 13 ∷ 10 ∷ []

pub short_line : (text rest : List ℕ) (minor : ℕ) → length text < 10 → text ≡ version_line minor ++ rest → ⊥
unfolding version_line
short_line text rest minor short e = absurd (omega (arith, short, ap length e))

line_printed : (minor : ℕ) → line_of (48 + minor) ≡ version_line minor
unfolding version_line
line_printed minor = refl

pub version_there : (text front back : List ℕ) (minor : ℕ) → minor ≤ 1 → front ≡ take 10 text → back ≡ drop 10 text → front ≡ line_of (48 + minor)
    → HasVersion text back
version_there text front back minor low first rest is = record {
  minor = minor;
  low = low;
  composed =
      sym (take-append-drop 10 text) ∙ ap (λ t. t ++ drop 10 text) (sym first ∙ is ∙ line_printed minor)
      ∙ ap (λ t. version_line minor ++ t) (sym rest);
}

take_line : (minor : ℕ) (rest : List ℕ) → take 10 (version_line minor ++ rest) ≡ line_of (48 + minor)
unfolding version_line
take_line minor rest = refl

version_first : (text front rest : List ℕ) (minor : ℕ) → front ≡ take 10 text → text ≡ version_line minor ++ rest → front ≡ line_of (48 + minor)
version_first text front rest minor first e = first ∙ ap (take 10) e ∙ take_line minor rest

zero_or_one : (n : ℕ) → n ≤ 1 → (n ≡ 0) ⊎ (n ≡ 1)
zero_or_one zero low = inl refl
zero_or_one (suc zero) low = inr refl
zero_or_one (suc (suc n)) low = absurd (omega (arith, low))

-- the front is one of two lines
pub two_versions : (text front rest : List ℕ) (minor : ℕ) → minor ≤ 1 → front ≡ take 10 text → text ≡ version_line minor ++ rest
    → (front ≡ line_of 48) ⊎ (front ≡ line_of 49)
two_versions text front rest minor low first e =
    elim (zero_or_one minor low) [
      | inl none ↦ inl (version_first text front rest minor first e ∙ ap (λ m. line_of (48 + m)) none)
      | inr one ↦ inr (version_first text front rest minor first e ∙ ap (λ m. line_of (48 + m)) one)
    ]
