-- The lines of a warcinfo up to its date, and up to its namespace, at the front of bytes.
use Rattle.std.proofs.Common.{◌≡◌, ℕ, List, ◌++◌, length, append_assoc, sym, ap, subst, ◌∙◌, arith}
use Rattle.std.specs.Prelude.{codes, decimal}
use Rattle.httparse.specs.Ascii.{crlf_bytes}
use Rattle.time_text.specs.Texts.{InRange}
use Rattle.warc_text.specs.Ids.{IsUuid, id_of, id_text, uuid_text}
use Rattle.warc_text.specs.Lengths.{info_block_length}
use Rattle.warc_text.specs.Lines.{content_line, date_line, ended, field, id_field, id_line, info_block, length_lines, namespace_line, opening, record_end, software_lines, type_line, version_line, volume_line}
use Rattle.warc_text.specs.Records.{info_opening, info_text}
use Rattle.warc_text.specs.declared.id.IdKind.TheVariants as ids
use Rattle.warc_text.specs.declared.kind.RecordKind.TheVariants as kinds
use Rattle.warc_text.proofs.LengthLaws.{length_of_info_block}
use Rattle.record_opening.specs.steps.InfoFronts.{IsInfoFront, front_of_info}
use Rattle.record_opening.specs.InfoParts.{info_front, info_middle, namespace_mark}
use Rattle.record_opening.specs.OpenValues.{info_mark}
use Rattle.record_opening.specs.Stops.{Differs, NoneStands}
use Rattle.record_opening.specs.declared.stop.Stop.{Stop}
use Rattle.record_opening.proofs.FieldsTold.{date_line_told, told_behind, told_more}
use Rattle.record_opening.proofs.Pieces.{first_of_three, second_of_three, third_of_three, three, two}
use Rattle.record_opening.proofs.Refusals.{IsTold, none_same}
use Rattle.record_opening.proofs.UuidFronts.{uuid_told}
use Rattle.record_opening.proofs.Values.{both_texts, both_told, first_refused, second_refused}

-- ---- the lines up to the date

-- those up to the id, as they are read
abbrev pub named : List ℕ → List ℕ
named id = info_mark ++ uuid_text id ++ codes ">\r\n"

abbrev dated : List ℕ × ℕ → List ℕ
dated = both_texts IsUuid named InRange date_line

dated_is : (front : List ℕ × ℕ) → dated front ≡ front_of_info front
unfolding opening version_line type_line id_line id_field field id_text
dated_is front = ap (λ t. (info_mark ++ t) ++ date_line front.1) (sym (append_assoc (uuid_text front.0) (codes ">") crlf_bytes))

named_told : (id : List ℕ) → IsUuid id → IsTold IsUuid named id
named_told id is = told_more IsUuid (λ v. info_mark ++ uuid_text v) (codes ">\r\n") id (told_behind IsUuid uuid_text info_mark id (uuid_told id is))

pub id_refused : (stop : Stop) (bytes : List ℕ) → NoneStands IsUuid named stop bytes → NoneStands IsInfoFront front_of_info stop bytes
id_refused stop bytes none = none_same IsInfoFront dated front_of_info stop bytes dated_is (first_refused IsUuid named InRange date_line stop bytes 0 (omega arith) none)

pub date_refused : (stop : Stop) (bytes rest id : List ℕ) → IsUuid id → bytes ≡ named id ++ rest → NoneStands InRange date_line stop rest
    → NoneStands IsInfoFront front_of_info stop bytes
date_refused stop bytes rest id is composed none =
    none_same IsInfoFront dated front_of_info stop bytes dated_is
    (second_refused IsUuid named InRange date_line stop bytes rest id is (named_told id is) composed none)

pub front_stands : (bytes r rest id : List ℕ) (born : ℕ) → bytes ≡ named id ++ r → r ≡ date_line born ++ rest → bytes ≡ info_front id born ++ rest
front_stands bytes r rest id born e₁ e₂ = two (named id) (date_line born) bytes r rest e₁ e₂ ∙ ap (λ t. t ++ rest) (dated_is (id, born))

pub front_told : (id : List ℕ) (born : ℕ) → IsUuid id → IsTold IsInfoFront front_of_info (id, born)
front_told id born is w x y was e =
    both_told IsUuid named InRange date_line id born (named_told id is) (date_line_told born) w x y was
    (ap (λ t. t ++ x) (dated_is (id, born)) ∙ e ∙ ap (λ t. t ++ y) (sym (dated_is w)))

-- ---- those up to the namespace

abbrev pub type_mark : List ℕ
type_mark = codes "Content-Type: application/warc-fields\r\nContent-Length: "

abbrev pub lines_mark : List ℕ
lines_mark = codes "\r\n\r\nsoftware: memproxy\r\narchive-version: 1\r\narchive-namespace: "

middle_is : (volume : ℕ) → type_mark ++ decimal (info_block_length volume) ++ lines_mark ≡ info_middle volume
unfolding content_line length_lines software_lines field
middle_is volume =
    let digits = decimal (info_block_length volume) in
    let software = field (codes "software") (codes "memproxy") ++ field (codes "archive-version") (codes "1") in
    ap (λ t. type_mark ++ t)
    (sym (append_assoc ((digits ++ crlf_bytes) ++ crlf_bytes) software namespace_mark ∙ append_assoc (digits ++ crlf_bytes) crlf_bytes (software ++ namespace_mark)
    ∙ append_assoc digits crlf_bytes (crlf_bytes ++ (software ++ namespace_mark))))

module _ (volume : ℕ) where
  pub first_of_middle : (stop : Stop) (bytes : List ℕ) → Differs stop bytes type_mark → Differs stop bytes (info_middle volume)
  first_of_middle stop bytes d =
      subst (λ t. Differs stop bytes t) (middle_is volume) (first_of_three stop type_mark (decimal (info_block_length volume)) lines_mark bytes d)

  pub second_of_middle : (stop : Stop) (bytes r told : List ℕ) → told ≡ decimal (info_block_length volume) → bytes ≡ type_mark ++ r
      → Differs stop r told → Differs stop bytes (info_middle volume)
  second_of_middle stop bytes r told is e₁ d =
      subst (λ t. Differs stop bytes t) (middle_is volume)
      (second_of_three stop type_mark (decimal (info_block_length volume)) lines_mark bytes r e₁ (subst (λ t. Differs stop r t) is d))

  pub third_of_middle : (stop : Stop) (bytes r s told : List ℕ) → told ≡ decimal (info_block_length volume) → bytes ≡ type_mark ++ r
      → r ≡ told ++ s → Differs stop s lines_mark → Differs stop bytes (info_middle volume)
  third_of_middle stop bytes r s told is e₁ e₂ d =
      subst (λ t. Differs stop bytes t) (middle_is volume)
      (third_of_three stop type_mark (decimal (info_block_length volume)) lines_mark bytes r s e₁ (e₂ ∙ ap (λ t. t ++ s) is) d)

  pub middle_stands : (bytes r s rest told : List ℕ) → told ≡ decimal (info_block_length volume) → bytes ≡ type_mark ++ r
      → r ≡ told ++ s → s ≡ lines_mark ++ rest → bytes ≡ info_middle volume ++ rest
  middle_stands bytes r s rest told is e₁ e₂ e₃ =
      three type_mark (decimal (info_block_length volume)) lines_mark bytes r s rest e₁ (e₂ ∙ ap (λ t. t ++ s) is) e₃ ∙ ap (λ t. t ++ rest) (middle_is volume)

-- ---- the whole text

abbrev pub info_tail : ℕ → List ℕ
info_tail volume = crlf_bytes ++ (volume_line volume ++ record_end)

-- with the namespace apart
apart : (front type lengths software name value end volume last : List ℕ)
    → (front ++ type) ++ (lengths ++ (software ++ (name ++ value ++ end) ++ volume) ++ last)
    ≡ (front ++ ((type ++ lengths ++ software ++ name) ++ value)) ++ (end ++ (volume ++ last))
apart front type lengths software name value end volume last = simp append_assoc

pub info_is : (namespace : List ℕ) (volume born : ℕ)
    → info_text namespace volume born
    ≡ (info_front (id_of namespace ids.Info volume) born ++ (info_middle volume ++ uuid_text namespace)) ++ info_tail volume
unfolding info_text info_opening ended info_block namespace_line field
info_is namespace volume born =
    let front = info_front (id_of namespace ids.Info volume) born in
    apart front (content_line kinds.Info) (length_lines (length (info_block namespace volume))) software_lines namespace_mark (uuid_text namespace) crlf_bytes
    (volume_line volume) record_end
    ∙ ap (λ n. (front ++ ((content_line kinds.Info ++ length_lines n ++ software_lines ++ namespace_mark) ++ uuid_text namespace)) ++ info_tail volume)
    (length_of_info_block namespace volume)
