-- How texts of lines are cut into lines.
use Rattle.std.proofs.Common.{◌≡◌, ◌≢◌, ◌⊎◌, ◌<◌, ℕ, ◌+◌, List, [], ◌∷◌, ◌++◌, length, length-append, get_or, take, inl, inr, refl, sym, ap, subst, ◌∙◌, arith}
use Rattle.std.specs.Prelude.{All}
use Rattle.std.proofs.lemmas.Bool.{cases_order, eq-eqb, eqb-true}
use Rattle.std.proofs.lemmas.List.{append_assoc, get_or_append_left, take_at}
use Rattle.std.proofs.lemmas.List.Elements.{All-head, All-tail}
use Rattle.memchr.specs.Find.{NoneBefore, Nowhere, Passes, is_byte}
use Rattle.cdxj_line.specs.Lines.{HasTypes, IsLine, IsWritable, line_text}
use Rattle.cdxj_line.specs.declared.line.Line.{Line}
use Rattle.cdxj_line.proofs.ToldLaws.{lines_end_at_their_line_feed, lines_end_where_they_end}
use Rattle.checkpoint.specs.Checkpoints.{lines_text}

pub all_lines : (lines : List Line) → All HasTypes lines → All IsWritable lines → All IsLine lines
all_lines lines typed writable = λ k d lt. record { typed = typed k d lt; writable = writable k d lt }

-- a line has a text of some bytes
pub line_is_long : (line : Line) → IsLine line → 0 < length (line_text line)
line_is_long line is =
    let ends = lines_end_at_their_line_feed line is in
    omega (arith, ap (λ (t : List ℕ). length t) ends.ended, length-append ends.body (10 ∷ []))

-- the lines begin with these ones, and the texts of the others are left
pub record GoesOn (lines all : List Line) (rest : List ℕ) : Type 0 where
  pub more : List Line
  pub whole : all ≡ lines ++ more
  pub left : rest ≡ lines_text more

-- texts of lines are cut into lines in one way
pub cut_same : (lines all : List Line) (rest : List ℕ) → All IsLine lines → All IsLine all → lines_text lines ++ rest ≡ lines_text all → GoesOn lines all rest
cut_same [] all rest p q e = record { more = all; whole = refl; left = e }
cut_same (l ∷ ls) [] rest p q e =
    absurd (omega (arith, line_is_long l (All-head IsLine l ls p), ap (λ (t : List ℕ). length t) e, length-append (line_text l ++ lines_text ls) rest, length-append (line_text l) (lines_text ls)))
cut_same (l ∷ ls) (a ∷ as_) rest p q e =
    let both : (l ≡ a) × (lines_text ls ++ rest ≡ lines_text as_) = lines_end_where_they_end l a (lines_text ls ++ rest) (lines_text as_) (All-head IsLine l ls p) (All-head IsLine a as_ q) (sym (append_assoc (line_text l) (lines_text ls) rest) ∙ e) in
    let on = cut_same ls as_ rest (All-tail IsLine l ls p) (All-tail IsLine a as_ q) both.1 in
    record { more = on.more; whole = ap (λ (x : Line). x ∷ as_) (sym both.0) ∙ ap (λ (xs : List Line). l ∷ xs) on.whole; left = on.left }

all_inside : (xs : List Line) (y : Line) (ys : List Line) → All IsLine (xs ++ y ∷ ys) → IsLine y
all_inside [] y ys h = All-head IsLine y ys h
all_inside (x ∷ xs) y ys h = all_inside xs y ys (All-tail IsLine x (xs ++ y ∷ ys) h)

nothing_more : (lines all more : List Line) → All IsLine all → all ≡ lines ++ more → [] ≡ lines_text more → more ≡ []
nothing_more lines all [] q whole left = refl
nothing_more lines all (m ∷ ms) q whole left =
    let long = line_is_long m (all_inside lines m ms (subst (λ (l : List Line). All IsLine l) whole q)) in
    absurd (omega (arith, ap (λ (t : List ℕ). length t) left, length-append (line_text m) (lines_text ms), long))

-- nothing is left where all lines are there
pub none_left : (lines all : List Line) → All IsLine lines → All IsLine all → lines_text lines ++ [] ≡ lines_text all → all ≡ lines ++ []
none_left lines all p q e =
    let on = cut_same lines all [] p q e in
    on.whole ∙ ap (λ (m : List Line). lines ++ m) (nothing_more lines all on.more q on.whole on.left)

-- ---- a line at the front of a text

value_at : (body rest : List ℕ) → get_or (body ++ 10 ∷ rest) (length body) 0 ≡ 10
value_at [] rest = refl
value_at (b ∷ body) rest = value_at body rest

length_at : (body rest : List ℕ) → length body < length (body ++ 10 ∷ rest)
length_at body rest = omega (arith, length-append body (10 ∷ rest))

-- where there is no line feed there is no line
pub no_line_without : (line : Line) (behind text : List ℕ) → IsLine line → text ≡ line_text line ++ behind → Nowhere (Passes (is_byte 10) text) 0 (length text) → ⊥
no_line_without line behind text is same none =
    let ends = lines_end_at_their_line_feed line is in
    let whole : text ≡ ends.body ++ 10 ∷ behind = same ∙ ap (λ (t : List ℕ). t ++ behind) ends.ended ∙ append_assoc ends.body (10 ∷ []) behind in
    none (length ends.body) (omega arith) (omega (arith, ap (λ (t : List ℕ). length t) whole, length_at ends.body behind))
    (eq-eqb (get_or text (length ends.body) 0) 10 (ap (λ (t : List ℕ). get_or t (length ends.body) 0) whole ∙ value_at ends.body behind))

-- the first line feed of such a text is that of the line
first_is : (body behind text : List ℕ) (k : ℕ) → All (λ b. b ≢ 10) body → text ≡ body ++ 10 ∷ behind
    → NoneBefore (Passes (is_byte 10) text) 0 (length text) k → Passes (is_byte 10) text k → k ≡ length body
first_is body behind text k free whole before here = go (cases_order k (length body)) where
  go : (k ≡ length body) ⊎ ((k < length body) ⊎ (length body < k)) → k ≡ length body
  go (inl same) = same
  go (inr (inl low)) = absurd (free k 0 low (sym (get_or_append_left body (10 ∷ behind) 0 k low) ∙ sym (ap (λ (t : List ℕ). get_or t k 0) whole) ∙ eqb-true (get_or text k 0) 10 here))
  go (inr (inr high)) = absurd (before.before (length body) (omega arith) high
      (eq-eqb (get_or text (length body) 0) 10 (ap (λ (t : List ℕ). get_or t (length body) 0) whole ∙ value_at body behind)))

-- so the text up to it is the line's
pub front_is : (line : Line) (behind text : List ℕ) (k : ℕ) → IsLine line → text ≡ line_text line ++ behind
    → NoneBefore (Passes (is_byte 10) text) 0 (length text) k → Passes (is_byte 10) text k → take (k + 1) text ≡ line_text line
front_is line behind text k is same before here =
    let ends = lines_end_at_their_line_feed line is in
    let whole : text ≡ ends.body ++ 10 ∷ behind = same ∙ ap (λ (t : List ℕ). t ++ behind) ends.ended ∙ append_assoc ends.body (10 ∷ []) behind in
    let place : k ≡ length ends.body = first_is ends.body behind text k ends.only whole before here in
    let long : length (line_text line) ≡ k + 1 = omega (arith, place, ap (λ (t : List ℕ). length t) ends.ended, length-append ends.body (10 ∷ [])) in
    ap (take (k + 1)) same ∙ take_at (line_text line) behind (k + 1) long
