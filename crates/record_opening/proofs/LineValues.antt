-- Values that are one line each, at the front of bytes.
use Rattle.std.proofs.Common.{◌≡◌, ℕ, suc, ◌≤◌, List, [], ◌∷◌, ◌++◌, length, length-append, drop, get_or, append_assoc, inl, inr, refl, sym, ap, subst, ◌∙◌, arith}
use Rattle.httparse.specs.Ascii.{crlf_bytes}
use Rattle.warc_text.specs.Groups.{IsOneLine}
use Rattle.record_opening.specs.steps.SplitLines.{IsSplitLine}
use Rattle.record_opening.specs.Stops.{Differs, Leaves, NoValueStands}
use Rattle.record_opening.specs.declared.stop.Stop.{Stop}
use Rattle.record_opening.specs.declared.stop.Stop.TheVariants.{Open, Wrong}
use Rattle.record_opening.proofs.Refusals.{begins_behind, leaves_behind, wrong_is_not_open}

-- of two texts that end at a line's end
pub until_return : (u v x y : List ℕ) → IsOneLine u → IsOneLine v → u ++ (13 ∷ x) ≡ v ++ (13 ∷ y) → (u ≡ v) × (x ≡ y)
until_return [] [] x y p q e = (refl, ap (drop 1) e)
until_return [] (b ∷ v) x y p q e = absurd (q 0 0 (omega arith) (sym (ap (λ (l : List ℕ). get_or l 0 0) e)))
until_return (a ∷ u) [] x y p q e = absurd (p 0 0 (omega arith) (ap (λ (l : List ℕ). get_or l 0 0) e))
until_return (a ∷ u) (b ∷ v) x y p q e =
    let rest : (u ≡ v) × (x ≡ y) = until_return u v x y (λ k d lt. p (suc k) d (omega arith)) (λ k d lt. q (suc k) d (omega arith)) (ap (drop 1) e) in
    let first : a ≡ b = ap (λ (l : List ℕ). get_or l 0 0) e in
    let others : u ≡ v = rest.0 in
    let whole : (a ∷ u) ≡ (b ∷ v) = cc in
    (whole, rest.1)

-- bytes without a line's end that are the front of a line
pub inside_line : (bytes line after other : List ℕ) → IsOneLine bytes → bytes ++ after ≡ line ++ (13 ∷ other) → length bytes ≤ length line
inside_line [] line after other one e = omega arith
inside_line (b ∷ bytes) [] after other one e = absurd (one 0 0 (omega arith) (ap (λ (l : List ℕ). get_or l 0 0) e))
inside_line (b ∷ bytes) (c ∷ line) after other one e =
    let rest = inside_line bytes line after other (λ k d lt. one (suc k) d (omega arith)) (ap (drop 1) e) in omega (arith, rest)

pub ended_line : (line other : List ℕ) → (line ++ crlf_bytes) ++ other ≡ line ++ (13 ∷ (10 ∷ other))
ended_line line other = append_assoc line crlf_bytes other

module _ {V : Type 0} (Is : V → Type 0) (text : V → List ℕ) (IsPart : List ℕ → Type 0) (one : (v : V) → Is v → IsOneLine (text v)) (bytes : List ℕ) where
  -- no line's end has come
  pub open_line : (v : V) → Is v → IsOneLine bytes → IsPart bytes → NoValueStands Is (λ v. text v ++ crlf_bytes) IsPart Open bytes
  open_line v is line part = record {
    refuses = λ w was after other e.
        let inside = inside_line bytes (text w) after (10 ∷ other) line (e ∙ ended_line (text w) other) in
        omega (arith, inside, length-append (text w) crlf_bytes);
    line = tt;
    ends = λ open_. (v, is, inr (part, omega (arith, length-append (text v) crlf_bytes)));
  }

  -- the line that came, and what stands from its end on
  pub same_line : (line behind : List ℕ) → IsSplitLine bytes line behind → (w : V) → Is w → (after other : List ℕ)
      → bytes ++ after ≡ (text w ++ crlf_bytes) ++ other → (line ≡ text w) × (behind ++ after ≡ crlf_bytes ++ other)
  same_line line behind split w was after other e =
      let composed : bytes ≡ line ++ (13 ∷ split.rest) = split.composed ∙ ap (λ t. line ++ t) split.ends in
      let apart : line ++ (13 ∷ (split.rest ++ after)) ≡ text w ++ (13 ∷ (10 ∷ other)) =
      sym (append_assoc line (13 ∷ split.rest) after) ∙ sym (ap (λ t. t ++ after) composed) ∙ e ∙ ended_line (text w) other in
      let parts = until_return line (text w) (split.rest ++ after) (10 ∷ other) split.one (one w was) apart in
      (parts.0, ap (λ t. t ++ after) split.ends ∙ ap (λ t. 13 ∷ t) parts.1)

  -- a line that is no value's
  pub other_line : (line behind : List ℕ) → IsSplitLine bytes line behind → ((v : V) → Is v → ¬ (line ≡ text v)) → NoValueStands Is (λ v. text v ++ crlf_bytes) IsPart Wrong bytes
  other_line line behind split no_text = record {
    refuses = λ w was after other e. no_text w was (same_line line behind split w was after other e).0;
    line = tt;
    ends = λ is. absurd (wrong_is_not_open Wrong Open refl refl is);
  }

  -- a value's line, with another end
  pub other_end : (stop : Stop) (line behind : List ℕ) (v : V) → Is v → line ≡ text v → IsSplitLine bytes line behind → Differs stop behind crlf_bytes
      → NoValueStands Is (λ v. text v ++ crlf_bytes) IsPart stop bytes
  other_end stop line behind v is e₁ split d = record {
    refuses = λ w was after other e.
        let same = same_line line behind split w was after other e in
        let left : Leaves stop (line ++ behind) (line ++ crlf_bytes) = leaves_behind stop line behind crlf_bytes d.line (d.refuses after other same.1) in
        subst (λ u. Leaves stop bytes (u ++ crlf_bytes)) same.0 (subst (λ t. Leaves stop t (line ++ crlf_bytes)) (sym split.composed) left);
    line = d.line;
    ends = λ open_. (v, is, inl (begins_behind bytes (text v) behind crlf_bytes (split.composed ∙ ap (λ t. t ++ behind) e₁) (d.ends open_)));
  }
