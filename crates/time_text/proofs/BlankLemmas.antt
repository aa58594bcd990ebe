-- One byte off a text's end at a time.
use Rattle.std.proofs.Common.{◌≡◌, ℕ, List, [], ◌∷◌, ◌++◌, length, refl, sym, ap, ◌∙◌, true, false}
use Rattle.std.specs.Prelude.{reverse}
use Rattle.std.proofs.lemmas.List.{reverse-append, reverse-reverse, nil_from_length}
use Rattle.time_text.specs.Blanks.{is_blank, trim_start, trim_end}

pub trim_start-blank : (text : List ℕ) (byte : ℕ) (rest : List ℕ) → text ≡ byte ∷ rest → is_blank byte ≡ true → trim_start rest ≡ trim_start text
unfolding trim_start
trim_start-blank text byte rest e blank = sym (ap trim_start e ∙ rw blank refl)

pub trim_start-other : (text : List ℕ) (byte : ℕ) (rest : List ℕ) → text ≡ byte ∷ rest → is_blank byte ≡ false → trim_start text ≡ text
unfolding trim_start
trim_start-other text byte rest e other =
    let same : trim_start (byte ∷ rest) ≡ byte ∷ rest = rw other refl in
    ap trim_start e ∙ same ∙ sym e

pub trim_start-nil : (text : List ℕ) → length text ≡ 0 → trim_start text ≡ text
unfolding trim_start
trim_start-nil text none =
    let e = nil_from_length text none in
    ap trim_start e ∙ sym e

reversed : (text : List ℕ) (byte : ℕ) (rest : List ℕ) → text ≡ rest ++ byte ∷ [] → reverse text ≡ byte ∷ reverse rest
reversed text byte rest e = ap reverse e ∙ reverse-append rest (byte ∷ [])

pub trim_end-blank : (text : List ℕ) (byte : ℕ) (rest : List ℕ) → text ≡ rest ++ byte ∷ [] → is_blank byte ≡ true → trim_end rest ≡ trim_end text
unfolding trim_end
trim_end-blank text byte rest e blank = ap reverse (trim_start-blank (reverse text) byte (reverse rest) (reversed text byte rest e) blank)

pub trim_end-other : (text : List ℕ) (byte : ℕ) (rest : List ℕ) → text ≡ rest ++ byte ∷ [] → is_blank byte ≡ false → trim_end text ≡ text
unfolding trim_end
trim_end-other text byte rest e other =
    ap reverse (trim_start-other (reverse text) byte (reverse rest) (reversed text byte rest e) other) ∙ reverse-reverse text

pub trim_end-nil : (text : List ℕ) → length text ≡ 0 → trim_end text ≡ text
unfolding trim_end trim_start
trim_end-nil text none =
    let e = nil_from_length text none in
    ap trim_end e ∙ sym e
