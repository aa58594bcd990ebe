-- What is said of a stream's front stays so, however the stream goes on.
use Rattle.std.proofs.Common.{◌≡◌, ◌≢◌, ℕ, ◌+◌, ◌-◌, ◌<◌, ◌≤◌, false, ◌&&◌, cond, eqb, leb, ltb, List, [], ◌∷◌, ◌++◌, length, take, drop, Option, Some, None, ◌⊎◌, inl, inr, refl, sym, ap, subst, ◌∙◌, arith, length-append, length-take}
use Rattle.std.proofs.lemmas.Bool.{lt-ltb, ltb-true, lt-leb, eqb-true, cases_Bool, cond_both}
use Rattle.std.proofs.lemmas.List.{take-append-le, take-append-drop, take_all}
use Rattle.capture.specs.Head.{head_end, head_len, line_ends_len, field_lines, front_of, front_by, front_of_head, front_without_head}
use Rattle.capture.specs.Head as head
use Rattle.capture.specs.declared.limits.TheConstants.{HEAD_LIMIT, FIELD_LIMIT}
use Rattle.http_head.specs.FrontLaws.{EndsStay, HeadsStay, TooLongStays}
use Rattle.http_head.specs.steps.HeadSeek.{next_seek, seek_after}
use Rattle.http_head.specs.declared.seek.Seek.{Seek}
use Rattle.http_head.specs.declared.seek.Seek.TheVariants.{Before, BeforeCr, Line, AfterLf, AfterLfCr, Ended}
use Rattle.http_head.proofs.SeekLaws.{cases_byte, shift, shift-some, shift-none, further-going, at_end-going, at_end-some, rest_len, rest_len-ended, seeks_end, head_end-lf, head_end-crlf, head_len-other, head_end-other, line_ends_len-other, line_ends_len-cr_other, ended_has_end, ends_last, open_from_going}

ended_or_not : (q : Seek) → (q ≡ Ended) ⊎ (q ≢ Ended)
ended_or_not Before = inr (λ e. cc)
ended_or_not BeforeCr = inr (λ e. cc)
ended_or_not Line = inr (λ e. cc)
ended_or_not AfterLf = inr (λ e. cc)
ended_or_not AfterLfCr = inr (λ e. cc)
ended_or_not Ended = inl refl

-- ---- the machine

rest_len-at_ended : (q : Seek) (s : List ℕ) → q ≡ Ended → rest_len q s ≡ Some 0
rest_len-at_ended q s e = ap (λ p. rest_len p s) e ∙ rest_len-ended s

rest_len-step : (q : Seek) (b : ℕ) (s : List ℕ) → q ≢ Ended → rest_len q (b ∷ s) ≡ shift 1 (rest_len (next_seek q b) s)
rest_len-step q b s going = further-going q (rest_len (next_seek q b) s) going

none_is_not_some : (n : ℕ) → None ≡ Some n → ⊥
none_is_not_some n e = cc

pub rest_len-stays : (q : Seek) (s t : List ℕ) (n : ℕ) → rest_len q s ≡ Some n → rest_len q (s ++ t) ≡ Some n
rest_len-stays q [] t n e =
    elim (ended_or_not q) [
      | inl ended ↦ rest_len-at_ended q t ended ∙ ap Some (sym (at_end-some q n e))
      | inr going ↦ absurd (none_is_not_some n (sym (at_end-going q going) ∙ e))
    ]
rest_len-stays q (b ∷ s) t n e =
    elim (ended_or_not q) [
      | inl ended ↦ rest_len-at_ended q (b ∷ s ++ t) ended ∙ sym (rest_len-at_ended q (b ∷ s) ended) ∙ e
      | inr going ↦
          let m = shift-some 1 (rest_len (next_seek q b) s) n (sym (rest_len-step q b s going) ∙ e) in
          rest_len-step q b (s ++ t) going ∙ ap (shift 1) (rest_len-stays (next_seek q b) s t m.0 m.1) ∙ ap Some (sym m.2)
    ]

rest_len-fits : (q : Seek) (s : List ℕ) (n : ℕ) → rest_len q s ≡ Some n → n ≤ length s
rest_len-fits q [] n e = omega (arith, at_end-some q n e)
rest_len-fits q (b ∷ s) n e =
    elim (ended_or_not q) [
      | inl ended ↦
          let zero_is : Some 0 ≡ Some n = sym (rest_len-at_ended q (b ∷ s) ended) ∙ e in
          let n_is : 0 ≡ n = cc in omega arith
      | inr going ↦
          let m = shift-some 1 (rest_len (next_seek q b) s) n (sym (rest_len-step q b s going) ∙ e) in
          omega (arith, m.2, rest_len-fits (next_seek q b) s m.0 m.1)
    ]

-- an end that wasn't there lies behind what was there
rest_len-beyond : (q : Seek) (s t : List ℕ) (n : ℕ) → rest_len q s ≡ None → rest_len q (s ++ t) ≡ Some n → length s < n
rest_len-beyond q [] [] n none e = absurd (none_is_not_some n (sym none ∙ e))
rest_len-beyond q [] (c ∷ t) n none e =
    elim (ended_or_not q) [
      | inl ended ↦ absurd (none_is_not_some 0 (sym none ∙ rest_len-at_ended q [] ended))
      | inr going ↦ let m = shift-some 1 (rest_len (next_seek q c) t) n (sym (rest_len-step q c t going) ∙ e) in omega (arith, m.2)
    ]
rest_len-beyond q (b ∷ s) t n none e =
    elim (ended_or_not q) [
      | inl ended ↦ absurd (none_is_not_some 0 (sym none ∙ rest_len-at_ended q (b ∷ s) ended))
      | inr going ↦
          let m = shift-some 1 (rest_len (next_seek q b) (s ++ t)) n (sym (rest_len-step q b (s ++ t) going) ∙ e) in
          let before = shift-none 1 (rest_len (next_seek q b) s) (sym (rest_len-step q b s going) ∙ none) in
          omega (arith, m.2, rest_len-beyond (next_seek q b) s t m.0 before m.1)
    ]

-- ---- the head's end

pub ends_stay : EndsStay
ends_stay s t n e =
    (seeks_end (s ++ t)).before ∙ rest_len-stays Before s t n (sym (seeks_end s).before ∙ e)

pub end_fits : (s : List ℕ) (n : ℕ) → head_end s ≡ Some n → n ≤ length s
end_fits s n e = rest_len-fits Before s n (sym (seeks_end s).before ∙ e)

pub end_beyond : (s t : List ℕ) (n : ℕ) → head_end s ≡ None → head_end (s ++ t) ≡ Some n → length s < n
end_beyond s t n none e =
    rest_len-beyond Before s t n (sym (seeks_end s).before ∙ none) (sym (seeks_end (s ++ t)).before ∙ e)

-- what the machine finds in a part is found of the whole
pub found_end : (stream : List ℕ) (u : ℕ) → u ≤ length stream → seek_after Before (take u stream) ≡ Ended
    → seek_after Before (take (u - 1) stream) ≢ Ended → Some u ≡ head_end stream
found_end stream u fits ended going =
    let end = ended_has_end (take u stream) ended in
    let last = ends_last [] stream u fits going end.0 end.1 in
    let len : u ≡ end.0 = omega (arith, last, length-take u stream) in
    ap Some len ∙ sym (ends_stay (take u stream) (drop u stream) end.0 end.1) ∙ ap head_end (take-append-drop u stream)

pub found_none : (stream : List ℕ) (u : ℕ) → u ≡ length stream → seek_after Before (take u stream) ≢ Ended
    → None ≡ head_end stream
found_none stream u all going =
    let whole : take u stream ≡ stream = take_all u stream (omega (arith, all)) in
    sym (open_from_going (take u stream) going) ∙ ap head_end whole

-- ---- the line ends before a head

one_byte_ends_nothing : (b n : ℕ) → head_end (b ∷ []) ≡ Some n → ⊥
one_byte_ends_nothing b n e =
    elim (cases_byte b) [
      | inl lf ↦ none_is_not_some n (sym (ap (λ c. head_end (c ∷ [])) lf) ∙ e)
      | inr no_lf ↦ elim no_lf [
        | inl cr ↦ none_is_not_some n (sym (ap (λ c. head_end (c ∷ [])) cr) ∙ e)
        | inr other ↦
            let none : head_end (b ∷ []) ≡ None = head_end-other b [] other.0 other.1 ∙ head_len-other b [] other.0 in
            none_is_not_some n (sym none ∙ e)
      ]
    ]

line_ends_stay : (s t : List ℕ) (n : ℕ) → head_end s ≡ Some n → line_ends_len (s ++ t) ≡ line_ends_len s
line_ends_stay [] t n e = absurd (none_is_not_some n e)
line_ends_stay (b ∷ []) t n e = absurd (one_byte_ends_nothing b n e)
line_ends_stay (b ∷ c ∷ s) t n e =
    let Stays : ℕ → ℕ → Type 0 = λ x y. line_ends_len (x ∷ y ∷ (s ++ t)) ≡ line_ends_len (x ∷ y ∷ s) in
    elim (cases_byte b) [
      | inl lf ↦
          let m = shift-some 1 (head_end (c ∷ s)) n (sym (ap (λ x. head_end (x ∷ c ∷ s)) lf ∙ head_end-lf (c ∷ s)) ∙ e) in
          subst (λ x. Stays x c) (sym lf) (ap (λ k. 1 + k) (line_ends_stay (c ∷ s) t m.0 m.1))
      | inr no_lf ↦ elim no_lf [
        | inl cr ↦ elim (cases_Bool (eqb c 10)) [
          | inl lf ↦
              let is : c ≡ 10 = eqb-true c 10 lf in
              let both : head_end (b ∷ c ∷ s) ≡ shift 2 (head_end s) =
              ap (λ x. head_end (x ∷ c ∷ s)) cr ∙ ap (λ y. head_end (13 ∷ y ∷ s)) is ∙ head_end-crlf s in
              let m = shift-some 2 (head_end s) n (sym both ∙ e) in
              subst (λ x. Stays x c) (sym cr) (subst (λ y. Stays 13 y) (sym is) (ap (λ k. 2 + k) (line_ends_stay s t m.0 m.1)))
          | inr other ↦
              subst (λ x. Stays x c) (sym cr) (line_ends_len-cr_other c (s ++ t) other ∙ sym (line_ends_len-cr_other c s other))
        ]
        | inr other ↦
            line_ends_len-other b (c ∷ (s ++ t)) other.0 other.1 ∙ sym (line_ends_len-other b (c ∷ s) other.0 other.1)
      ]
    ]

-- ---- the front

-- a head that ends there is the same, whatever follows
head_stays : (s t : List ℕ) (n : ℕ) → head_end s ≡ Some n → front_of_head (s ++ t) n ≡ front_of_head s n
head_stays s t n e =
    rw (line_ends_stay s t n e, take-append-le n s t (end_fits s n e)) refl

front_stays : (s t : List ℕ) (n : ℕ) → head_end s ≡ Some n → front_of (s ++ t) ≡ front_of s
front_stays s t n e =
    ap (front_by (s ++ t)) (ends_stay s t n e) ∙ head_stays s t n e ∙ sym (ap (front_by s) e)

some_or_none : (o : Option ℕ) → (o ≡ None) ⊎ ((n : ℕ) × (o ≡ Some n))
some_or_none None = inl refl
some_or_none (Some n) = inr (n, refl)

-- without a head's end there is no head
no_head_without_end : (stream : List ℕ) (skipped : ℕ) (text : List ℕ) → front_without_head stream ≡ head.Head skipped text → ⊥
no_head_without_end stream skipped text =
    cond_both (ltb HEAD_LIMIT (length stream)) head.TooLong (cond (eqb (line_ends_len stream) (length stream)) head.Nothing head.More)
    (λ f. f ≡ head.Head skipped text → ⊥) (λ _ e. cc)
    (λ _. cond_both (eqb (line_ends_len stream) (length stream)) head.Nothing head.More (λ f. f ≡ head.Head skipped text → ⊥) (λ _ e. cc) (λ _ e. cc))

pub heads_stay : HeadsStay
heads_stay s t skipped text e =
    elim (some_or_none (head_end s)) [
      | inl none ↦ absurd (no_head_without_end s skipped text (sym (ap (front_by s) none) ∙ e))
      | inr end ↦ front_stays s t end.0 end.1 ∙ e
    ]

-- without a head's end it is the length that passes the limit
long_without_end : (stream : List ℕ) → front_without_head stream ≡ head.TooLong → HEAD_LIMIT < length stream
long_without_end stream =
    let rest = cond (eqb (line_ends_len stream) (length stream)) head.Nothing head.More in
    cond_both (ltb HEAD_LIMIT (length stream)) head.TooLong rest (λ f. f ≡ head.TooLong → HEAD_LIMIT < length stream)
    (λ long e. ltb-true HEAD_LIMIT (length stream) long)
    (λ _. cond_both (eqb (line_ends_len stream) (length stream)) head.Nothing head.More
    (λ f. f ≡ head.TooLong → HEAD_LIMIT < length stream) (λ _ e. absurd (nothing_is_short e)) (λ _ e. absurd (more_is_short e)))
  where
    nothing_is_short : head.Nothing ≡ head.TooLong → ⊥
    nothing_is_short e = cc

    more_is_short : head.More ≡ head.TooLong → ⊥
    more_is_short e = cc

-- a head that ends behind the limit is too long
long_head : (stream : List ℕ) (n : ℕ) → HEAD_LIMIT < n → front_of_head stream n ≡ head.TooLong
long_head stream n long =
    let no : leb n HEAD_LIMIT ≡ false = lt-leb n HEAD_LIMIT long in
    let skipped = line_ends_len stream in
    let text = drop skipped (take n stream) in
    ap (λ b. cond (b && leb (field_lines text) FIELD_LIMIT) (head.Head skipped text) head.TooLong) no

pub too_long_stays : TooLongStays
too_long_stays s t e =
    elim (some_or_none (head_end s)) [
      | inr end ↦ front_stays s t end.0 end.1 ∙ e
      | inl none ↦
          let long = long_without_end s (sym (ap (front_by s) none) ∙ e) in
          elim (some_or_none (head_end (s ++ t))) [
            | inl still ↦
                ap (front_by (s ++ t)) still
                ∙ ap (λ b. cond b head.TooLong (cond (eqb (line_ends_len (s ++ t)) (length (s ++ t))) head.Nothing head.More))
                (lt-ltb HEAD_LIMIT (length (s ++ t)) (omega (arith, long, length-append s t)))
            | inr end ↦
                ap (front_by (s ++ t)) end.1
                ∙ long_head (s ++ t) end.0 (omega (arith, long, end_beyond s t end.0 none end.1))
          ]
    ]
