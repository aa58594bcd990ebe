-- The machine finds the end of a trailer section where the definition says.
use Rattle.std.proofs.Common.{◌≡◌, ◌≢◌, ℕ, ◌+◌, false, eqb, List, [], ◌∷◌, ◌++◌, length, Option, Some, None, ◌⊎◌, inl, inr, refl, sym, ap, subst, ◌∙◌, arith}
use Rattle.std.specs.Prelude.{option_map}
use Rattle.std.proofs.lemmas.Bool.Decides.{eqb_tells}
use Rattle.capture.specs.Head.{head_len, section_len, empty_line_len}
use Rattle.body_reader.specs.steps.TrailerPlaces.{next_place, place_after}
use Rattle.body_reader.specs.declared.trailer.TrailerPlace.{TrailerPlace}
use Rattle.body_reader.specs.declared.trailer.TrailerPlace.TheVariants.{LineStart, LineStartCr, InLine, Ended}

-- a byte is LF, or CR, or neither
cases_byte : (b : ℕ) → (b ≡ 10) ⊎ ((b ≡ 13) ⊎ ((eqb b 10 ≡ false) × (eqb b 13 ≡ false)))
cases_byte b =
    elim (eqb_tells b 10) [
      | inl lf ↦ inl lf.1
      | inr not_lf ↦ elim (eqb_tells b 13) [ inl cr ↦ inr (inl cr.1) | inr not_cr ↦ inr (inr (not_lf.0, not_cr.0)) ]
    ]

-- a place further on
abbrev shift : ℕ → Option ℕ → Option ℕ
shift k o = option_map (λ n. k + n) o

shift-shift : (j k : ℕ) (o : Option ℕ) → shift j (shift k o) ≡ shift (j + k) o
shift-shift j k None = refl
shift-shift j k (Some n) = ap Some (omega arith)

shift-one_same : (o p : Option ℕ) → shift 1 o ≡ shift 1 p → o ≡ p
shift-one_same None None e = refl
shift-one_same None (Some n) e = cc
shift-one_same (Some m) None e = cc
shift-one_same (Some m) (Some n) e = let f : 1 + m ≡ 1 + n = cc in ap Some (omega (arith, f))

-- how many bytes are left up to the section's end, after one more
abbrev further : TrailerPlace → Option ℕ → Option ℕ
further LineStart o = shift 1 o
further LineStartCr o = shift 1 o
further InLine o = shift 1 o
further Ended o = Some 0

-- none are left where it has ended
abbrev at_end : TrailerPlace → Option ℕ
at_end LineStart = None
at_end LineStartCr = None
at_end InLine = None
at_end Ended = Some 0

-- how many bytes are left up to the section's end
abbrev rest_len : TrailerPlace → List ℕ → Option ℕ
rest_len place [] = at_end place
rest_len place (b ∷ bytes) = further place (rest_len (next_place place b) bytes)

rest_len-ended : (s : List ℕ) → rest_len Ended s ≡ Some 0
rest_len-ended [] = refl
rest_len-ended (b ∷ s) = refl

-- ---- the definitions, a byte at a time

head_len-other : (b : ℕ) (s : List ℕ) → eqb b 10 ≡ false → head_len (b ∷ s) ≡ shift 1 (head_len s)
head_len-other b s e = rw e refl

empty_line_len-other : (b : ℕ) (s : List ℕ) → eqb b 10 ≡ false → eqb b 13 ≡ false → empty_line_len (b ∷ s) ≡ 0
empty_line_len-other b s e f = rw (e, f) refl

head_len-lf_other : (b : ℕ) (s : List ℕ) → eqb b 10 ≡ false → eqb b 13 ≡ false
    → head_len (10 ∷ b ∷ s) ≡ shift 1 (head_len (b ∷ s))
head_len-lf_other b s e f = rw empty_line_len-other refl

head_len-lf_cr_other : (b : ℕ) (s : List ℕ) → eqb b 10 ≡ false
    → head_len (10 ∷ 13 ∷ b ∷ s) ≡ shift 1 (shift 1 (head_len (b ∷ s)))
head_len-lf_cr_other b s e = rw e refl

-- ---- the law

record FindsEnd (s : List ℕ) : Type 0 where
  line : head_len s ≡ rest_len InLine s
  start : head_len (10 ∷ s) ≡ shift 1 (rest_len LineStart s)
  start_cr : head_len (10 ∷ 13 ∷ s) ≡ shift 2 (rest_len LineStartCr s)

finds_at_nothing : FindsEnd []
finds_at_nothing = record { line = refl; start = refl; start_cr = refl }

finds_at_lf : (s : List ℕ) → FindsEnd s → FindsEnd (10 ∷ s)
finds_at_lf s law = record {
  line = law.start;
  start = ap (λ o. shift 1 (shift 1 o)) (sym (rest_len-ended s));
  start_cr = ap (λ o. shift 2 (shift 1 o)) (sym (rest_len-ended s));
}

finds_at_cr : (s : List ℕ) → FindsEnd s → FindsEnd (13 ∷ s)
finds_at_cr s law = record {
  line = ap (shift 1) law.line;
  start = law.start_cr ∙ sym (shift-shift 1 1 (rest_len LineStartCr s));
  start_cr = ap (λ o. shift 1 (shift 1 (shift 1 o))) law.line ∙ shift-shift 1 1 (shift 1 (rest_len InLine s));
}

finds_at_other : (b : ℕ) (s : List ℕ) → eqb b 10 ≡ false → eqb b 13 ≡ false → FindsEnd s → FindsEnd (b ∷ s)
finds_at_other b s e f law =
    let here : head_len (b ∷ s) ≡ shift 1 (rest_len InLine s) = head_len-other b s e ∙ ap (shift 1) law.line in
    let at_line : rest_len InLine (b ∷ s) ≡ shift 1 (rest_len InLine s) = rw e refl in
    let at_start : rest_len LineStart (b ∷ s) ≡ shift 1 (rest_len InLine s) = rw (e, f) refl in
    let at_start_cr : rest_len LineStartCr (b ∷ s) ≡ shift 1 (rest_len InLine s) = rw e refl in
    record {
      line = here ∙ sym at_line;
      start = head_len-lf_other b s e f ∙ ap (shift 1) (here ∙ sym at_start);
      start_cr =
          head_len-lf_cr_other b s e ∙ ap (λ o. shift 1 (shift 1 o)) (here ∙ sym at_start_cr)
          ∙ shift-shift 1 1 (rest_len LineStartCr (b ∷ s));
    }

finds_end : (s : List ℕ) → FindsEnd s
finds_end [] = finds_at_nothing
finds_end (b ∷ s) =
    elim (cases_byte b) [
      | inl lf ↦ subst (λ c. FindsEnd (c ∷ s)) (sym lf) (finds_at_lf s (finds_end s))
      | inr no_lf ↦ elim no_lf [
        | inl cr ↦ subst (λ c. FindsEnd (c ∷ s)) (sym cr) (finds_at_cr s (finds_end s))
        | inr other ↦ finds_at_other b s other.0 other.1 (finds_end s)
      ]
    ]

-- behind a LF a head ends where a section does
behind_lf : (s : List ℕ) → head_len (10 ∷ s) ≡ shift 1 (section_len s)
behind_lf [] = refl
behind_lf (b ∷ s) =
    elim (cases_byte b) [
      | inl lf ↦ subst (λ c. head_len (10 ∷ c ∷ s) ≡ shift 1 (section_len (c ∷ s))) (sym lf) refl
      | inr no_lf ↦ elim no_lf [
        | inl cr ↦ subst (λ c. head_len (10 ∷ c ∷ s) ≡ shift 1 (section_len (c ∷ s))) (sym cr) (behind_lf_cr s)
        | inr other ↦ rw (other.0, other.1) refl
      ]
    ]
  where
    behind_lf_cr : (s : List ℕ) → head_len (10 ∷ 13 ∷ s) ≡ shift 1 (section_len (13 ∷ s))
    behind_lf_cr [] = refl
    behind_lf_cr (b ∷ s) =
        elim (eqb_tells b 10) [
          | inl lf ↦ subst (λ c. head_len (10 ∷ 13 ∷ c ∷ s) ≡ shift 1 (section_len (13 ∷ c ∷ s))) (sym lf.1) refl
          | inr not_lf ↦ rw not_lf.0 refl
        ]

section_is_rest : (s : List ℕ) → section_len s ≡ rest_len LineStart s
section_is_rest s = shift-one_same _ _ (sym (behind_lf s) ∙ (finds_end s).start)

-- ---- what a place says of the bytes so far

pub place_after-ended : (s : List ℕ) → place_after Ended s ≡ Ended
place_after-ended [] = refl
place_after-ended (b ∷ s) = place_after-ended s

pub place_after-append : (q : TrailerPlace) (s t : List ℕ) → place_after q (s ++ t) ≡ place_after (place_after q s) t
place_after-append q [] t = refl
place_after-append q (b ∷ s) t = place_after-append (next_place q b) s t

-- before a place that isn't the end none was
going_before : (q : TrailerPlace) (s t : List ℕ) → place_after q (s ++ t) ≢ Ended → place_after q s ≢ Ended
going_before q s t going ended =
    going (place_after-append q s t ∙ ap (λ p. place_after p t) ended ∙ place_after-ended t)

further-going : (q : TrailerPlace) (o : Option ℕ) → q ≢ Ended → further q o ≡ shift 1 o
further-going LineStart o going = refl
further-going LineStartCr o going = refl
further-going InLine o going = refl
further-going Ended o going = absurd (going refl)

at_end-going : (q : TrailerPlace) → q ≢ Ended → at_end q ≡ None
at_end-going LineStart going = refl
at_end-going LineStartCr going = refl
at_end-going InLine going = refl
at_end-going Ended going = absurd (going refl)

rest_len-going : (q : TrailerPlace) (s : List ℕ) → place_after q s ≢ Ended → rest_len q s ≡ None
rest_len-going q [] going = at_end-going q going
rest_len-going q (b ∷ s) going =
    further-going q _ (going_before q [] (b ∷ s) going) ∙ ap (shift 1) (rest_len-going (next_place q b) s going)

rest_len-ends : (q : TrailerPlace) (s : List ℕ) (b : ℕ) (t : List ℕ) → place_after q s ≢ Ended
    → next_place (place_after q s) b ≡ Ended → rest_len q (s ++ b ∷ t) ≡ Some (length s + 1)
rest_len-ends q [] b t going ends =
    further-going q _ going ∙ ap (shift 1) (ap (λ p. rest_len p t) ends ∙ rest_len-ended t)
rest_len-ends q (c ∷ s) b t going ends =
    further-going q _ (going_before q [] (c ∷ s) going) ∙ ap (shift 1) (rest_len-ends (next_place q c) s b t going ends)
    ∙ ap Some (omega arith)

-- ---- where a section ends

-- while the machine goes on, the section is open
pub open_section : (s : List ℕ) → place_after LineStart s ≢ Ended → section_len s ≡ None
open_section s going = section_is_rest s ∙ rest_len-going LineStart s going

-- a byte that leads to the end ends the section, whatever follows
pub section_ends : (s : List ℕ) (b : ℕ) (t : List ℕ) → place_after LineStart s ≢ Ended
    → next_place (place_after LineStart s) b ≡ Ended → section_len (s ++ b ∷ t) ≡ Some (length s + 1)
section_ends s b t going ends = section_is_rest (s ++ b ∷ t) ∙ rest_len-ends LineStart s b t going ends
