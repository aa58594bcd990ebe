-- The opening that stands is that of the group.
use Rattle.std.proofs.Common.{◌≡◌, ℕ, ◌+◌, List, [], ◌∷◌, ◌++◌, length, length-append, append_assoc, refl, sym, ap, ◌∙◌, arith}
use Rattle.capture.specs.Captures.{taken_back}
use Rattle.warc_text.specs.Ids.{id_of}
use Rattle.warc_text.specs.Lines.{ended, length_lines, record_end}
use Rattle.warc_text.specs.declared.id.IdKind.TheVariants as ids
use Rattle.record_opening.specs.FirstOpenings.{BeginsWithOpening}
use Rattle.record_opening.specs.Openings.{Opening, opening_of, opening_text}
use Rattle.record_opening.specs.declared.first_opening.FirstOpening.{FirstOpening}
use Rattle.record_opening.proofs.BlockTold.{length_told}
use Rattle.warc_scan.specs.Asking.{second_opening}
use Rattle.warc_scan.specs.Outlines.{IsOpeningOf}
use Rattle.warc_scan.specs.Groups.{reference_in}
use Rattle.warc_scan.specs.Answers.{BeginsWithGroup}
use Rattle.warc_scan.specs.declared.group.Group.{Group}
use Rattle.warc_scan.proofs.FindLaws.{block_shorter, first_shorter, opening_stands, parts_of}
use Rattle.warc_scan.proofs.GroupParts.{first_record_is}
use Rattle.warc_scan.proofs.ReadLaws.{cut_of}

module _ (namespace : List ℕ) (number : ℕ) (bytes : List ℕ) where
  abbrev id : List ℕ
  id = id_of namespace ids.Response number

  -- a length of 64 bits, and the block behind it
  behind_length : (block x : List ℕ) → ended block ++ x ≡ length_lines (length block) ++ (block ++ (record_end ++ x))
  unfolding ended
  behind_length block x = append_assoc (length_lines (length block) ++ block) record_end x ∙ append_assoc (length_lines (length block)) block (record_end ++ x)

  ended_len : (block : List ℕ) → length (ended block) ≡ length (length_lines (length block)) + length block + 4
  unfolding ended record_end
  ended_len block =
      omega (arith, length-append (length_lines (length block) ++ block) (13 ∷ 10 ∷ 13 ∷ 10 ∷ []), length-append (length_lines (length block)) block)

  pub group_opening : (first : FirstOpening) → BeginsWithOpening namespace number bytes first
      → (after : List ℕ) (group : Group) → BeginsWithGroup namespace number (bytes ++ after) group → IsOpeningOf group first
  group_opening first begins after group there =
      let o = opening_of first.opening in
      let len = first.block_len in
      let rest = begins.stands.1.0 in
      let parts = parts_of namespace number there.text group there.is in
      let block = parts.block in
      let behind = (second_opening namespace number parts.opening ++ ended parts.request) ++ there.rest in
      let composed : bytes ≡ opening_text id o ++ (length_lines len ++ rest) =
      begins.stands.1.1 ∙ append_assoc (opening_text id o) (length_lines len) rest in
      let stands = opening_stands namespace number bytes (length_lines len ++ rest) o begins.stands.0.0 composed there.text parts after there.rest there.composed in
      let apart : length_lines len ++ (rest ++ after) ≡ length_lines (length block) ++ (block ++ (record_end ++ behind)) =
      sym (append_assoc (length_lines len) rest after) ∙ stands.behind
      ∙ append_assoc (ended block) (second_opening namespace number parts.opening ++ ended parts.request) there.rest ∙ behind_length block behind in
      let small = block_shorter namespace number parts.opening block (first_shorter namespace number there.text parts) in
      let told = length_told len begins.stands.0.1 (length block) (rest ++ after) (block ++ (record_end ++ behind)) small apart in
      let same = stands.same in
      let taken = taken_back group.stored in
      let first_is = first_record_is id taken group.digest (reference_in group.same) in
      let places = there.is.places in
      let openings : length (opening_text id parts.opening) ≡ length (opening_text id o) = ap (λ (p : Opening). length (opening_text id p)) same in
      let lines : length (length_lines len) ≡ length (length_lines (length block)) = ap (λ n. length (length_lines n)) told.0 in
      record {
        date = sym (ap (λ (p : Opening). p.date) same);
        uri = sym (ap (λ (p : Opening). p.uri) same);
        digest = sym (ap (λ (p : Opening). p.digest) same);
        cut = sym (ap (λ (p : Opening). p.cut) same) ∙ cut_of group.stored group.digest (reference_in group.same) group.stored.kept refl there.is.answer;
        same = sym (ap (λ (p : Opening). p.same) same);
        block_at =
            omega (
              arith,
              begins.block_at,
              length-append (opening_text id o) (length_lines len),
              places.head,
              ap length first_is,
              length-append (opening_text id parts.opening) (ended block),
              ended_len block,
              lines,
              openings,
            );
        block_len =
            omega (
              arith,
              begins.block_at,
              length-append (opening_text id o) (length_lines len),
              places.first_len,
              ap length first_is,
              length-append (opening_text id parts.opening) (ended block),
              ended_len block,
              lines,
              openings,
              told.0,
            );
      }
