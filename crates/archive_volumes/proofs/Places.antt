-- Where a capture's head and wire stand in its group.
use Rattle.std.proofs.Common.{◌≡◌, ℕ, ◌+◌, List, ◌++◌, length, refl, sym, ap, ◌∙◌, arith, append_assoc, length-append}
use Rattle.std.specs.Prelude.{Option, Some, None}
use Rattle.sha1.specs.Sha1.{sha1}
use Rattle.capture.specs.Captures.{captures}
use Rattle.capture.specs.declared.book.Book.{Book}
use Rattle.capture.specs.declared.captured.Taken.{Taken}
use Rattle.warc_text.proofs.LengthLaws.{length-request_text}
use Rattle.warc_text.specs.Groups.{answer_block}
use Rattle.warc_text.specs.Ids.{id_of}
use Rattle.warc_text.specs.Lengths.{request_length}
use Rattle.warc_text.specs.Lines.{ended, length_lines, record_end}
use Rattle.warc_text.specs.Records.{answer_text, group_text, request_text, response_opening, response_text, revisit_opening, revisit_text}
use Rattle.warc_text.specs.Books.{same_of}
use Rattle.warc_text.specs.References.{Reference, reference_of, reference_to}
use Rattle.warc_text.specs.declared.same_of.SameOf.{SameOf}
use Rattle.warc_text.specs.declared.id.IdKind.TheVariants as ids
use Rattle.archive_volumes.specs.Grouping.{IsGroupFor, StandsAt, block_of}
use Rattle.archive_volumes.specs.declared.group.Layout.{Layout}

-- a block stands in a text, with so much behind it
pub record StandsIn (text block : List ℕ) (behind : ℕ) : Type 0 where
  pub front : List ℕ
  pub rest : List ℕ
  pub composed : text ≡ front ++ (block ++ rest)
  pub long : length rest ≡ behind

joined_so : (o l b r q : List ℕ) → (o ++ (l ++ b ++ r)) ++ q ≡ (o ++ l) ++ (b ++ (r ++ q))
joined_so o l b r q =
    append_assoc o (l ++ b ++ r) q
    ∙ ap (λ (x : List ℕ). o ++ x) (append_assoc (l ++ b) r q ∙ append_assoc l b (r ++ q))
    ∙ sym (append_assoc o l (b ++ (r ++ q)))

end_long : length record_end ≡ 4
unfolding record_end
end_long = refl

-- the block of a response or a revisit, before its end and the request's record
pub block_in_group : (namespace : List ℕ) (number : ℕ) (taken : Taken) (digest : List ℕ) (same : Option Reference)
    → StandsIn (group_text namespace number taken digest same) (answer_block taken same) (4 + request_length taken)
unfolding group_text answer_text response_text revisit_text ended
block_in_group namespace number taken digest None =
    let id : List ℕ = id_of namespace ids.Response number in
    let asked : List ℕ = request_text (id_of namespace ids.Request number) id taken in
    let block : List ℕ = taken.head ++ taken.wire in
    record {
      front = response_opening id taken.date taken.uri digest taken.cut ++ length_lines (length block);
      rest = record_end ++ asked;
      composed = joined_so (response_opening id taken.date taken.uri digest taken.cut) (length_lines (length block)) block record_end asked;
      long = omega (arith, length-append record_end asked, end_long, length-request_text (id_of namespace ids.Request number) id taken);
    }
block_in_group namespace number taken digest (Some reference) =
    let id : List ℕ = id_of namespace ids.Response number in
    let asked : List ℕ = request_text (id_of namespace ids.Request number) id taken in
    let block : List ℕ = taken.head in
    record {
      front = revisit_opening id taken.date taken.uri digest reference ++ length_lines (length block);
      rest = record_end ++ asked;
      composed = joined_so (revisit_opening id taken.date taken.uri digest reference) (length_lines (length block)) block record_end asked;
      long = omega (arith, length-append record_end asked, end_long, length-request_text (id_of namespace ids.Request number) id taken);
    }

-- the block of a capture that is taken, by what it refers to
pub block_stands : (book : Book) (taken : Taken) (payload : List ℕ) (same : Option ℕ) (group : List ℕ) → IsGroupFor book taken payload same group
    → StandsIn group (block_of taken same) (4 + request_length taken)
block_stands book taken payload None group is =
    let text : group ≡ group_text book.namespace (length (captures book)) taken (sha1 payload) None =
    is.composed ∙ ap (λ (o : Option SameOf). group_text book.namespace (length (captures book)) taken (sha1 payload) (reference_of book.namespace o)) is.tells in
    let in_group = block_in_group book.namespace (length (captures book)) taken (sha1 payload) None in
    record { front = in_group.front; rest = in_group.rest; composed = text ∙ in_group.composed; long = in_group.long }
block_stands book taken payload (Some first) group is =
    let reference : Reference = reference_to book.namespace (same_of first is.tells.0) in
    let text : group ≡ group_text book.namespace (length (captures book)) taken (sha1 payload) (Some reference) =
    is.composed ∙ ap (λ (o : Option SameOf). group_text book.namespace (length (captures book)) taken (sha1 payload) (reference_of book.namespace o)) is.tells.2 in
    let in_group = block_in_group book.namespace (length (captures book)) taken (sha1 payload) (Some reference) in
    record { front = in_group.front; rest = in_group.rest; composed = text ∙ in_group.composed; long = in_group.long }

-- the group is as long as what stands before the block, the block and what stands behind it
pub stands_long : (group block : List ℕ) (behind : ℕ) (is : StandsIn group block behind) → length group ≡ length is.front + length block + behind
stands_long group block behind is =
    ap length is.composed ∙ length-append is.front (block ++ is.rest) ∙ omega (arith, length-append block is.rest, is.long)

pub stands_at : (taken : Taken) (same : Option ℕ) (group : List ℕ) (layout : Layout) (is : StandsIn group (block_of taken same) (4 + request_length taken))
    → layout.record_len + request_length taken ≡ length group → layout.head_at + 4 + length (block_of taken same) ≡ layout.record_len
    → StandsAt taken same group layout
stands_at taken same group layout is record_len head_at = record {
  front = is.front;
  rest = is.rest;
  composed = is.composed;
  head_at = omega (arith, stands_long group (block_of taken same) (4 + request_length taken) is, record_len, head_at);
  record_len = record_len;
}
