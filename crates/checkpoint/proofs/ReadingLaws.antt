-- How the text of a checkpoint is read, line after line.
use Rattle.std.proofs.Common.{◌≡◌, ◌≢◌, ◌<◌, ◌==◌, ℕ, zero, suc, Bool, true, false, Bor, List, [], ◌∷◌, ◌++◌, length, length-append, Some, None, refl, sym, ap, subst, ◌∙◌, arith}
use Rattle.std.specs.Prelude.{All, Option}
use Rattle.std.specs.List.Sorted.{IsStrictlySortedBy}
use Rattle.std.proofs.lemmas.Bool.{eqb-true}
use Rattle.std.proofs.lemmas.List.{append_assoc, append_cancel_left, append-nil, flat_map_more}
use Rattle.std.proofs.lemmas.List.Elements.{All-nil}
use Rattle.cdxj_line.specs.Lines.{HasTypes, IsLine, IsWritable, line_text}
use Rattle.cdxj_line.specs.declared.line.Line.{Line}
use Rattle.checkpoint.specs.Checkpoints.{CheckpointsHaveOneListOfLines, IsCheckpoint, checkpoint_text, first_line, line_order, lines_text}
use Rattle.checkpoint.specs.Reading.{IsNoCheckpoint}
use Rattle.checkpoint.specs.steps.Lines.{CanFollow, IsAtFront, IsNextLine}
use Rattle.checkpoint.proofs.Behind.{all_at, all_more, behind_from, sorted_more, sorted_none}
use Rattle.checkpoint.proofs.Cutting.{GoesOn, all_lines, cut_same, line_is_long, none_left}

-- what was read: lines of the volume in their order, and what is left of the text
pub record IsReadSoFar (volume : ℕ) (bytes : List ℕ) (lines : List Line) (rest : List ℕ) : Type 0 where
  pub text : bytes ≡ first_line ++ (lines_text lines ++ rest)
  pub typed : All HasTypes lines
  pub writable : All IsWritable lines
  pub of_volume : All (λ (line : Line). line.volume ≡ volume) lines
  pub in_order : IsStrictlySortedBy line_order lines

-- at first nothing was read
pub begins : (volume : ℕ) (bytes rest : List ℕ) → bytes ≡ first_line ++ rest → IsReadSoFar volume bytes [] rest
begins volume bytes rest is = record {
  text = is;
  typed = All-nil HasTypes;
  writable = All-nil IsWritable;
  of_volume = All-nil (λ (line : Line). line.volume ≡ volume);
  in_order = sorted_none;
}

-- the line before what is left goes to the lines
passed : (line : Line) (lines : List Line) (rest behind : List ℕ) → rest ≡ line_text line ++ behind → lines_text lines ++ rest ≡ lines_text (lines ++ line ∷ []) ++ behind
passed line lines rest behind is =
    ap (λ (t : List ℕ). lines_text lines ++ t) is
    ∙ sym (append_assoc (lines_text lines) (line_text line) behind)
    ∙ ap (λ (t : List ℕ). t ++ behind) (flat_map_more line_text [] lines line)

-- one line more
pub goes_on_by : (volume : ℕ) (bytes : List ℕ) (lines : List Line) (rest : List ℕ) (line : Line) (behind : List ℕ)
    → IsReadSoFar volume bytes lines rest → IsAtFront line behind rest → CanFollow volume lines line
    → IsReadSoFar volume bytes (lines ++ line ∷ []) behind
goes_on_by volume bytes lines rest line behind so_far front follows = record {
  text = so_far.text ∙ ap (λ (t : List ℕ). first_line ++ t) (passed line lines rest behind front.text_is);
  typed = all_more HasTypes lines line so_far.typed front.is.typed;
  writable = all_more IsWritable lines line so_far.writable front.is.writable;
  of_volume = all_more (λ (l : Line). l.volume ≡ volume) lines line so_far.of_volume follows.of_volume;
  in_order = sorted_more lines line so_far.in_order follows.behind;
}

-- what is left is shorter then
pub front_shorter : (line : Line) (behind rest : List ℕ) → IsAtFront line behind rest → length behind < length rest
front_shorter line behind rest front =
    omega (arith, line_is_long line front.is, ap (λ (t : List ℕ). length t) front.text_is, length-append (line_text line) behind)

-- without the first line there is no checkpoint
pub no_first_line : (volume : ℕ) (bytes : List ℕ) → ((rest : List ℕ) → bytes ≢ first_line ++ rest) → IsNoCheckpoint volume bytes
unfolding checkpoint_text
no_first_line volume bytes none = λ lines is. none (lines_text lines) is.text

-- the lines that a checkpoint has from where it was read
lines_on : (volume : ℕ) (bytes : List ℕ) (lines all : List Line) (rest : List ℕ) → IsReadSoFar volume bytes lines rest → IsCheckpoint volume all bytes → GoesOn lines all rest
unfolding checkpoint_text
lines_on volume bytes lines all rest so_far is =
    cut_same lines all rest (all_lines lines so_far.typed so_far.writable) (all_lines all is.typed is.fit.writable)
    (append_cancel_left first_line (lines_text lines ++ rest) (lines_text all) (sym so_far.text ∙ is.text))

by_rest : (volume : ℕ) (bytes : List ℕ) (lines all more : List Line) (rest : List ℕ) → 0 < length rest → IsNextLine volume lines rest None
    → IsCheckpoint volume all bytes → all ≡ lines ++ more → rest ≡ lines_text more → ⊥
by_rest volume bytes lines all [] rest some none is whole left = omega (arith, some, ap (λ (t : List ℕ). length t) left)
by_rest volume bytes lines all (l ∷ ls) rest some none is whole left =
    none l (lines_text ls)
    (record { is = all_at IsLine lines l ls (subst (λ (xs : List Line). All IsLine xs) whole (all_lines all is.typed is.fit.writable)); text_is = left })
    (record {
      of_volume = all_at (λ (x : Line). x.volume ≡ volume) lines l ls (subst (λ (xs : List Line). All (λ (x : Line). x.volume ≡ volume) xs) whole is.fit.of_volume);
      behind = behind_from lines l ls (subst (λ (xs : List Line). IsStrictlySortedBy line_order xs) whole is.fit.in_order);
    })

-- where no line can follow on what was read there is no checkpoint
pub no_next_line : (volume : ℕ) (bytes : List ℕ) (lines : List Line) (rest : List ℕ) → IsReadSoFar volume bytes lines rest → 0 < length rest
    → IsNextLine volume lines rest None → IsNoCheckpoint volume bytes
no_next_line volume bytes lines rest so_far some none = λ all is.
    let on = lines_on volume bytes lines all rest so_far is in
    by_rest volume bytes lines all on.more rest some none is on.whole on.left

-- where all was read, these are the lines
all_read : (volume : ℕ) (bytes : List ℕ) (lines all : List Line) → IsReadSoFar volume bytes lines [] → IsCheckpoint volume all bytes → all ≡ lines
unfolding checkpoint_text
all_read volume bytes lines all so_far is =
    none_left lines all (all_lines lines so_far.typed so_far.writable) (all_lines all is.typed is.fit.writable)
    (append_cancel_left first_line (lines_text lines ++ []) (lines_text all) (sym so_far.text ∙ is.text))
    ∙ append-nil lines

-- without lines there is no checkpoint
pub no_lines : (volume : ℕ) (bytes : List ℕ) (lines : List Line) (rest : List ℕ) → IsReadSoFar volume bytes lines rest → length rest ≡ 0 → length lines ≡ 0 → IsNoCheckpoint volume bytes
no_lines volume bytes lines [] so_far ended empty = λ all is. omega (arith, ap (λ (xs : List Line). length xs) (all_read volume bytes lines all so_far is), is.fit.some, empty)
no_lines volume bytes lines (b ∷ rest) so_far ended empty = absurd (omega (arith, ended))

-- and else it is one
pub is_whole : (volume : ℕ) (bytes : List ℕ) (lines : List Line) (rest : List ℕ) → IsReadSoFar volume bytes lines rest → length rest ≡ 0 → 0 < length lines → IsCheckpoint volume lines bytes
unfolding checkpoint_text
is_whole volume bytes lines [] so_far ended some = record {
  typed = so_far.typed;
  fit = record { some = some; writable = so_far.writable; of_volume = so_far.of_volume; in_order = so_far.in_order };
  text = so_far.text ∙ ap (λ (t : List ℕ). first_line ++ t) (append-nil (lines_text lines));
}
is_whole volume bytes lines (b ∷ rest) so_far ended some = absurd (omega (arith, ended))

-- ---- a finished checkpoint has one list of lines

first_volume : (volume other : ℕ) (lines : List Line) → 0 < length lines → All (λ (l : Line). l.volume ≡ volume) lines → All (λ (l : Line). l.volume ≡ other) lines → volume ≡ other
first_volume volume other [] some p q = absurd (omega (arith, some))
first_volume volume other (l ∷ ls) some p q = sym (p 0 l (omega arith)) ∙ q 0 l (omega arith)

pub one_list : CheckpointsHaveOneListOfLines
unfolding checkpoint_text
one_list volume other lines others bytes p q =
    let same : others ≡ lines =
    none_left lines others (all_lines lines p.typed p.fit.writable) (all_lines others q.typed q.fit.writable)
    (append_cancel_left first_line (lines_text lines ++ []) (lines_text others)
    (ap (λ (t : List ℕ). first_line ++ t) (append-nil (lines_text lines)) ∙ sym p.text ∙ q.text))
    ∙ append-nil lines in
    (first_volume volume other lines p.fit.some p.fit.of_volume (subst (λ (xs : List Line). All (λ (l : Line). l.volume ≡ other) xs) same q.fit.of_volume), sym same)

-- ---- what the calls in a step tell

pub some_if : (n : ℕ) (b : Bool) → b ≡ (n == 0) → b ≡ false → 0 < n
some_if zero b is told = cc
some_if (suc n) b is told = omega arith

pub none_if : (n : ℕ) (b : Bool) → b ≡ (n == 0) → b ≡ true → n ≡ 0
none_if n b is told = eqb-true n 0 (sym is ∙ told)

pub next_none : (volume : ℕ) (lines : List Line) (rest : List ℕ) (read : Option (Line × Bor (List ℕ))) → ((x : Line × Bor (List ℕ)) → read ≡ Some x → ⊥)
    → IsNextLine volume lines rest read → IsNextLine volume lines rest None
next_none volume lines rest None other is = is
next_none volume lines rest (Some x) other is = absurd (other x refl)

pub next_some : (volume : ℕ) (lines : List Line) (rest : List ℕ) (read : Option (Line × Bor (List ℕ))) (line : Line) (behind : Bor (List ℕ)) → read ≡ Some (line, behind)
    → IsNextLine volume lines rest read → IsAtFront line behind.now rest × CanFollow volume lines line
next_some volume lines rest read line behind is next = subst (λ (r : Option (Line × Bor (List ℕ))). IsNextLine volume lines rest r) is next
