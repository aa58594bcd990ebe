-- A record is as long as it tells.
use Rattle.std.proofs.Common.{◌≡◌, ◌≢◌, ℕ, true, false, eqb, ◌+◌, ◌^◌, ◌<◌, List, [], ◌∷◌, ◌++◌, length, length-append, take, drop, append_assoc, None, Some, refl, sym, ap, ◌∙◌, arith}
use denote.Ref.{Bor}
use Rattle.std.specs.Prelude.{Option, MatchOption, decimal}
use Rattle.std.specs.Cmp.Lexicographic.{pointwise}
use Rattle.std.specs.Option.{IsSomeAnd}
use Rattle.std.proofs.lemmas.Bool.{false≢true}
use Rattle.std.proofs.lemmas.Slice.Eq.{bytes_eq-Decides}
use Rattle.std.proofs.lemmas.Fmt.{decimal_injective}
use Rattle.std.proofs.lemmas.List.{append-nil, drop_at, take-append-drop, take_at}
use Rattle.httparse.specs.Ascii.{crlf_bytes}
use Rattle.warc_text.specs.Groups.{IsOneLine}
use Rattle.warc_text.specs.Lines.{ended, field, length_lines, record_end}
use Rattle.warc_text.proofs.Fronts.{fronts}
use Rattle.record_opening.specs.OpenValues.{length_mark}
use Rattle.record_opening.specs.RecordLines.{AreOtherLines, BeginsWithLine, BeginsWithRecord, TellsLength, lines_text}
use Rattle.record_opening.specs.steps.SplitLines.{IsSplitLine}
use Rattle.record_opening.proofs.BlockTold.{number_is_one_line}
use Rattle.record_opening.proofs.LineValues.{ended_line, inside_line, until_return}

-- ---- what `strip_prefix` tells of bytes

stripped_at : (text bytes behind : List ℕ) → bytes ≡ text ++ behind → take (length text) bytes ≡ text
stripped_at text bytes behind e = ap (take (length text)) e ∙ take_at text behind (length text) refl

pub strips : (text bytes found : List ℕ) → pointwise eqb (take (length text) bytes) text ≡ true → found ≡ drop (length text) bytes → bytes ≡ text ++ found
strips text bytes found is at =
    sym (take-append-drop (length text) bytes) ∙ ap (λ l. l ++ drop (length text) bytes) ((bytes_eq-Decides (take (length text) bytes) text).0 is)
    ∙ ap (λ l. text ++ l) (sym at)

pub strips_none : (text bytes behind : List ℕ) → pointwise eqb (take (length text) bytes) text ≡ false → bytes ≢ text ++ behind
strips_none text bytes behind is e =
    false≢true (sym is ∙ (bytes_eq-Decides (take (length text) bytes) text).1 (stripped_at text bytes behind e))

-- where they begin with the text, it is what stands behind that
abbrev pub IsStripped : List ℕ → List ℕ → Option (Bor (List ℕ)) → Type 0
IsStripped text bytes result = MatchOption result (pointwise eqb (take (length text) bytes) text ≡ false)
    (λ x. (pointwise eqb (take (length text) bytes) text ≡ true) × (x.now ≡ drop (length text) bytes) × (length x.now + length text ≡ length bytes))

pub strips_behind : (text bytes behind : List ℕ) (result : Option (Bor (List ℕ))) → IsStripped text bytes result → bytes ≡ text ++ behind
    → IsSomeAnd result (λ x. x.now ≡ behind)
strips_behind text bytes behind None is e = strips_none text bytes behind is e
strips_behind text bytes behind (Some x) is e = is.1 ∙ ap (drop (length text)) e ∙ drop_at text behind (length text) refl

-- ---- one line

-- a line's end stands in bytes that begin with a line
pub line_ends : (bytes rest : List ℕ) → BeginsWithLine bytes rest → IsOneLine bytes → ⊥
line_ends bytes rest is one =
    let inside = inside_line bytes is.line [] (10 ∷ rest) one (append-nil bytes ∙ is.composed ∙ ended_line is.line rest) in
    omega (arith, inside, ap length is.composed, length-append (is.line ++ crlf_bytes) rest, length-append is.line crlf_bytes)

-- what stands from it on is the line's end and the rest
pub behind_split : (bytes rest line end : List ℕ) → BeginsWithLine bytes rest → IsSplitLine bytes line end → end ≡ crlf_bytes ++ rest
behind_split bytes rest line end is split =
    let apart : line ++ (13 ∷ split.rest) ≡ is.line ++ (13 ∷ (10 ∷ rest)) =
    sym (split.composed ∙ ap (λ t. line ++ t) split.ends) ∙ is.composed ∙ ended_line is.line rest in
    split.ends ∙ ap (λ t. 13 ∷ t) (until_return line is.line split.rest (10 ∷ rest) split.one is.one apart).1

-- ---- lines up to a length

-- where the bytes begin with the mark, the rest stands behind it
pub mark_stands : (bytes rest found : List ℕ) → TellsLength bytes rest → bytes ≡ length_mark ++ found → found ≡ rest
mark_stands bytes rest found is e = first_line is.lines is.other (sym e ∙ is.composed) where
  first_line : (lines : List (List ℕ)) → AreOtherLines lines → length_mark ++ found ≡ lines_text lines ++ (length_mark ++ rest) → found ≡ rest
  first_line [] other same = (fronts length_mark length_mark found rest refl same).1
  first_line (line ∷ lines) other same =
      absurd (other.0.other (lines_text lines ++ (length_mark ++ rest))
      (ap (take 16) (sym (append_assoc (line ++ crlf_bytes) (lines_text lines) (length_mark ++ rest)) ∙ sym same) ∙ take_at length_mark found 16 refl))

-- else they begin with a line, and go on so
pub record PassesLine (bytes rest : List ℕ) : Type 0 where
  pub behind : List ℕ
  pub line : BeginsWithLine bytes behind
  pub tells : TellsLength behind rest

pub passes_line : (bytes rest : List ℕ) → TellsLength bytes rest → ((found : List ℕ) → bytes ≢ length_mark ++ found) → PassesLine bytes rest
passes_line bytes rest is none = by_lines is.lines is.other is.composed where
  by_lines : (lines : List (List ℕ)) → AreOtherLines lines → bytes ≡ lines_text lines ++ (length_mark ++ rest) → PassesLine bytes rest
  by_lines [] other same = absurd (none rest same)
  by_lines (line ∷ lines) other same = record {
    behind = lines_text lines ++ (length_mark ++ rest);
    line = record { line = line; one = other.0.one; composed = same ∙ append_assoc (line ++ crlf_bytes) (lines_text lines) (length_mark ++ rest) };
    tells = record { lines = lines; other = other.1; composed = refl };
  }

-- ---- a record

-- its length, and what stands behind it
abbrev pub behind_mark : List ℕ → List ℕ → List ℕ
behind_mark block rest = decimal (length block) ++ (crlf_bytes ++ (crlf_bytes ++ (block ++ (record_end ++ rest))))

length_apart : (n : ℕ) (x : List ℕ) → length_lines n ++ x ≡ length_mark ++ (decimal n ++ (crlf_bytes ++ (crlf_bytes ++ x)))
unfolding length_lines field
length_apart n x =
    append_assoc (length_mark ++ decimal n ++ crlf_bytes) crlf_bytes x ∙ append_assoc (length_mark ++ decimal n) crlf_bytes (crlf_bytes ++ x)
    ∙ append_assoc length_mark (decimal n) (crlf_bytes ++ (crlf_bytes ++ x))

ended_apart : (block rest : List ℕ) → ended block ++ rest ≡ length_mark ++ behind_mark block rest
unfolding ended
ended_apart block rest =
    append_assoc (length_lines (length block) ++ block) record_end rest ∙ append_assoc (length_lines (length block)) block (record_end ++ rest)
    ∙ length_apart (length block) (block ++ (record_end ++ rest))

pub record_tells : (bytes rest : List ℕ) (is : BeginsWithRecord bytes rest) → TellsLength bytes (behind_mark is.block rest)
record_tells bytes rest is = record {
  lines = is.other.lines;
  other = is.other.other;
  composed = is.composed ∙ append_assoc is.opening (ended is.block) rest ∙ ap (λ t. t ++ (ended is.block ++ rest)) is.other.composed
      ∙ ap (λ t. lines_text is.other.lines ++ t) (ended_apart is.block rest);
}

-- the number is a line
pub number_ends : (bytes rest : List ℕ) (is : BeginsWithRecord bytes rest) (told : List ℕ) → told ≡ behind_mark is.block rest → IsOneLine told → ⊥
number_ends bytes rest is told e one =
    line_ends told (crlf_bytes ++ (is.block ++ (record_end ++ rest))) (record {
      line = decimal (length is.block);
      one = number_is_one_line (length is.block) is.small;
      composed = e ∙ sym (append_assoc (decimal (length is.block)) crlf_bytes (crlf_bytes ++ (is.block ++ (record_end ++ rest))));
    }) one

pub number_split : (bytes rest : List ℕ) (is : BeginsWithRecord bytes rest) (told digits end : List ℕ) → told ≡ behind_mark is.block rest → IsSplitLine told digits end
    → (digits ≡ decimal (length is.block)) × (end ≡ crlf_bytes ++ (crlf_bytes ++ (is.block ++ (record_end ++ rest))))
number_split bytes rest is told digits end e split =
    let x = crlf_bytes ++ (is.block ++ (record_end ++ rest)) in
    let apart : digits ++ (13 ∷ split.rest) ≡ decimal (length is.block) ++ (13 ∷ (10 ∷ x)) = sym (split.composed ∙ ap (λ t. digits ++ t) split.ends) ∙ e in
    let parts = until_return digits (decimal (length is.block)) split.rest (10 ∷ x) split.one (number_is_one_line (length is.block) is.small) apart in
    (parts.0, split.ends ∙ ap (λ t. 13 ∷ t) parts.1)

-- so that it is told
pub number_is : (bytes rest : List ℕ) (is : BeginsWithRecord bytes rest) (digits : List ℕ) (n : ℕ) → digits ≡ decimal (length is.block) → n < 2 ^ 64 → digits ≡ decimal n
    → n ≡ length is.block
number_is bytes rest is digits n e small told = decimal_injective n (length is.block) small is.small (sym told ∙ e)

-- the bytes from the number's end on
pub ends_behind : (block rest : List ℕ) → length (crlf_bytes ++ (crlf_bytes ++ (block ++ (record_end ++ rest)))) ≡ length block + 8 + length rest
unfolding record_end
ends_behind block rest =
    omega (arith, length-append crlf_bytes (crlf_bytes ++ (block ++ (record_end ++ rest))), length-append crlf_bytes (block ++ (record_end ++ rest)), length-append block (record_end ++ rest), length-append record_end rest)

pub rest_behind : (block rest : List ℕ) (n : ℕ) → n ≡ length block + 8 → drop n (crlf_bytes ++ (crlf_bytes ++ (block ++ (record_end ++ rest)))) ≡ rest
unfolding record_end
rest_behind block rest n e =
    let front = ((crlf_bytes ++ crlf_bytes) ++ block) ++ record_end in
    let apart : crlf_bytes ++ (crlf_bytes ++ (block ++ (record_end ++ rest))) ≡ front ++ rest =
    sym (append_assoc crlf_bytes crlf_bytes (block ++ (record_end ++ rest))) ∙ sym (append_assoc (crlf_bytes ++ crlf_bytes) block (record_end ++ rest))
    ∙ sym (append_assoc ((crlf_bytes ++ crlf_bytes) ++ block) record_end rest) in
    ap (drop n) apart
    ∙ drop_at front rest n (omega (arith, e, length-append ((crlf_bytes ++ crlf_bytes) ++ block) record_end, length-append (crlf_bytes ++ crlf_bytes) block))
