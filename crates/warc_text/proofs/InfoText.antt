-- The pieces of a warcinfo, put one after another.
use Rattle.std.proofs.Common.{◌≡◌, ℕ, List, ◌++◌, length, append_assoc, sym, ap, ◌∙◌}
use Rattle.warc_text.specs.declared.id.IdKind.TheVariants as ids
use Rattle.warc_text.specs.declared.kind.RecordKind.TheVariants as kinds
use Rattle.warc_text.specs.Ids.{id_of}
use Rattle.warc_text.specs.Lengths.{info_block_length}
use Rattle.warc_text.specs.Lines.{opening, content_line, length_lines, record_end, ended, info_block}
use Rattle.warc_text.specs.Records.{info_text, info_opening}
use Rattle.warc_text.proofs.LengthLaws.{length_of_info_block}

pub composed : (namespace : List ℕ) (volume born n : ℕ) (old opened typed lengths blocked all : List ℕ)
    → opened ≡ old ++ opening kinds.Info (id_of namespace ids.Info volume) born → typed ≡ opened ++ content_line kinds.Info
    → n ≡ info_block_length volume → lengths ≡ typed ++ length_lines n → blocked ≡ lengths ++ info_block namespace volume → all ≡ blocked ++ record_end
    → all ≡ old ++ info_text namespace volume born
unfolding info_text info_opening ended
composed namespace volume born n old opened typed lengths blocked all e₁ e₂ e₃ e₄ e₅ e₆ =
    let front = opening kinds.Info (id_of namespace ids.Info volume) born in
    let content = content_line kinds.Info in
    let block = info_block namespace volume in
    let long : n ≡ length block = e₃ ∙ sym (length_of_info_block namespace volume) in
    let lines : lengths ≡ typed ++ length_lines (length block) = e₄ ∙ ap (λ k. typed ++ length_lines k) long in
    let put : all ≡ (((old ++ front) ++ content) ++ length_lines (length block)) ++ block ++ record_end =
    e₆ ∙ ap (λ t. t ++ record_end) (e₅ ∙ ap (λ t. t ++ block) (lines ∙ ap (λ t. t ++ length_lines (length block)) (e₂ ∙ ap (λ t. t ++ content) e₁))) in
    put ∙ simp append_assoc
