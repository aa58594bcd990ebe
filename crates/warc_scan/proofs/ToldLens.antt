-- A group is as long as its two records tell.
use Rattle.std.proofs.Common.{◌≡◌, ℕ, ◌+◌, ◌^◌, ◌<◌, List, ◌++◌, length, length-append, append_assoc, refl, ap, ◌∙◌, arith}
use Rattle.warc_text.specs.Ids.{id_of}
use Rattle.warc_text.specs.Lines.{ended, length_lines, record_end}
use Rattle.warc_text.specs.declared.id.IdKind.TheVariants as ids
use Rattle.record_opening.specs.Openings.{opening_text}
use Rattle.record_opening.specs.RecordLines.{BeginsWithRecord}
use Rattle.warc_scan.specs.Answers.{BeginsWithGroup}
use Rattle.warc_scan.specs.Asking.{second_opening}
use Rattle.warc_scan.specs.declared.group.Group.{Group}
use Rattle.warc_scan.proofs.FindLaws.{first_text, parts_of}
use Rattle.warc_scan.proofs.RecordTexts.{first_is_other, second_is_other}

block_is_short : (opening block : List ℕ) → length (opening ++ ended block) < 2 ^ 63 → length block < 2 ^ 64
unfolding ended
block_is_short opening block short =
    omega (arith, short, length-append opening (ended block), length-append (length_lines (length block) ++ block) record_end, length-append (length_lines (length block)) block)

-- the two records of a group
pub record BeginsWithRecords (bytes : List ℕ) (len : ℕ) : Type 0 where
  pub second : List ℕ
  pub rest : List ℕ
  pub first_stands : BeginsWithRecord bytes second
  pub second_stands : BeginsWithRecord second rest
  pub long : length bytes ≡ len + length rest

pub group_records : (namespace : List ℕ) (number : ℕ) (bytes : List ℕ) (group : Group) → BeginsWithGroup namespace number bytes group → BeginsWithRecords bytes group.len
group_records namespace number bytes group begins =
    let parts = parts_of namespace number begins.text group begins.is in
    let o = parts.opening in
    let first = first_text namespace number o parts.block in
    let opening = second_opening namespace number o in
    let second = opening ++ ended parts.request in
    let whole : bytes ≡ first ++ (second ++ begins.rest) =
    begins.composed ∙ ap (λ t. t ++ begins.rest) parts.composed ∙ append_assoc first second begins.rest in
    let short : length first + length second < 2 ^ 63 = omega (arith, parts.short, ap length parts.composed, length-append first second) in
    record {
      second = second ++ begins.rest;
      rest = begins.rest;
      first_stands = record {
        opening = opening_text (id_of namespace ids.Response number) o;
        block = parts.block;
        other = first_is_other (id_of namespace ids.Response number) o parts.right;
        small = block_is_short (opening_text (id_of namespace ids.Response number) o) parts.block (omega (arith, short));
        composed = whole;
      };
      second_stands = record {
        opening = opening;
        block = parts.request;
        other = second_is_other (id_of namespace ids.Request number) (id_of namespace ids.Response number) o parts.right;
        small = block_is_short opening parts.request (omega (arith, short));
        composed = refl;
      };
      long = omega (arith, ap length begins.composed, length-append begins.text begins.rest, begins.is.places.len);
    }
