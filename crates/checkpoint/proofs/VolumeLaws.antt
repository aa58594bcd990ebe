-- A volume has one list of lines, and keeps it when it is no longer the last.
use Rattle.std.proofs.Common.{◌≡◌, ℕ, zero, suc, ◌+◌, List, [], ◌∷◌, ◌++◌, sym, ap, subst, ◌∙◌, arith}
use Rattle.std.specs.Prelude.{Some, slice_get}
use Rattle.std.proofs.lemmas.Option.{same_Some}
use Rattle.capture.specs.Captures.{captures, first_number}
use Rattle.capture.specs.Growth.{Grows}
use Rattle.capture.specs.GrowthLaws.{GrowthKeepsCaptures}
use Rattle.capture.specs.declared.book.Book.{Book}
use Rattle.capture.specs.declared.captured.Stored.{Stored}
use Rattle.warc_text.specs.Growth.{NumbersHaveOneGroup}
use Rattle.cdxj_line.specs.declared.line.Line.{Line}
use Rattle.index_entry.specs.OfLine.{facts_of}
use Rattle.index_entry.proofs.Members.{Among, among_from_contains, contains_from_among, same_from_members}
use Rattle.index_entry.proofs.OneIndex.{one_entry}
use Rattle.archive_shelf.proofs.EntryLaws.{entries_stay, first_stays}
use Rattle.checkpoint.specs.Checkpoints.{line_order}
use Rattle.checkpoint.specs.OfVolume.{AreLinesOf, IsLineOf, SealedLinesStay, VolumesHaveOneListOfLines}
use Rattle.checkpoint.proofs.Behind.{line_total}

-- a capture has one line
one_line : NumbersHaveOneGroup → (book : Book) (number : ℕ) (a b : Line) → IsLineOf book number a → IsLineOf book number b → a ≡ b
one_line one book number a b p q =
    let facts : facts_of a ≡ facts_of b = one_entry one book number (facts_of a) (facts_of b) p.entry q.entry in
    let method : a.method ≡ b.method = p.method_is ∙ ap (λ (s : Stored). s.method) (same_Some p.stored q.stored (sym p.placed ∙ q.placed)) ∙ sym q.method_is in
    λ i. record {
      key = (facts i).key;
      date = (facts i).date;
      digest = (facts i).digest;
      volume = (facts i).volume;
      length = (facts i).length;
      method = method i;
      mime = (facts i).mime;
      number = (facts i).number;
      offset = (facts i).offset;
      status = (facts i).status;
      url = (facts i).uri;
    }

-- what one list of the volume's lines holds, another holds too
held_too : NumbersHaveOneGroup → (book : Book) (k : ℕ) (lines other : List Line) → AreLinesOf book k lines → AreLinesOf book k other
    → (line : Line) → Among lines line → Among other line
held_too one book k lines other a b line there =
    let in_list = contains_from_among lines line there in
    let is = a.each line in_list in
    let behind = is.entry.behind in
    let volume : line.volume ≡ k = a.of_volume line in_list in
    let placed = ap (λ (n : ℕ). slice_get book.volumes n) (sym volume) ∙ behind.placed in
    let found = b.all behind.volume is.entry.place placed behind.within in
    let number : found.0.number ≡ line.number = found.2 ∙ ap (λ (n : ℕ). first_number book n + is.entry.place) (sym volume) ∙ sym is.entry.numbered in
    let same : line ≡ found.0 = one_line one book line.number line found.0 is (subst (λ (n : ℕ). IsLineOf book n found.0) number (b.each found.0 found.1)) in
    subst (λ (l : Line). Among other l) (sym same) (among_from_contains other found.0 found.1)

pub one_list_of_lines : NumbersHaveOneGroup → VolumesHaveOneListOfLines
one_list_of_lines one book k lines other a b =
    same_from_members line_order line_total lines other a.in_order b.in_order
    (held_too one book k lines other a b) (held_too one book k other lines b a)

-- ---- growth

placed_left : (old added : List Stored) (number : ℕ) (stored : Stored) → slice_get old number ≡ Some stored → slice_get (old ++ added) number ≡ Some stored
placed_left [] added number stored at = cc
placed_left (s ∷ old) added zero stored at = at
placed_left (s ∷ old) added (suc number) stored at = placed_left old added number stored at

line_later : GrowthKeepsCaptures → (old new : Book) (number : ℕ) (line : Line) → Grows old new → IsLineOf old number line → IsLineOf new number line
line_later keeps old new number line grow is =
    let more = keeps old new grow in
    record {
      stored = is.stored;
      placed = ap (λ (l : List Stored). slice_get l number) more.1 ∙ placed_left (captures old) more.0 number is.stored is.placed;
      entry = entries_stay keeps old new number (facts_of line) grow is.entry;
      method_is = is.method_is;
    }

pub sealed_lines_stay : GrowthKeepsCaptures → SealedLinesStay
sealed_lines_stay keeps old new k lines grow sealed are = record {
  in_order = are.in_order;
  of_volume = are.of_volume;
  each = λ line within. line_later keeps old new line.number line grow (are.each line within);
  all = λ volume place placed within.
      let found = are.all volume place (sym (grow.sealed k sealed) ∙ placed) within in
      (found.0, found.1, found.2 ∙ ap (λ (n : ℕ). n + place) (sym (first_stays old new k grow (omega (arith, sealed)))));
}
