-- What a revisit says of the record that it refers to, at the front of bytes.
use Rattle.std.proofs.Common.{◌≡◌, ℕ, List, ◌++◌, append_assoc, refl, sym, ap, ◌∙◌, arith}
use Rattle.std.specs.Prelude.{codes}
use Rattle.httparse.specs.Ascii.{crlf_bytes}
use Rattle.time_text.specs.Texts.{InRange}
use Rattle.warc_text.specs.Ids.{IsUuid, id_text, uuid_text}
use Rattle.warc_text.specs.Lines.{content_line, field, id_field, profile_lines, refers_date_line, refers_line, refers_target_line}
use Rattle.warc_text.specs.Records.{refers_to, revisit_end}
use Rattle.warc_text.specs.References.{Reference}
use Rattle.warc_text.specs.declared.kind.RecordKind.TheVariants as kinds
use Rattle.record_opening.specs.OpenValues.{refers_mark}
use Rattle.record_opening.specs.Openings.{IsRevisited, IsTarget}
use Rattle.record_opening.specs.Stops.{Differs, NoneStands}
use Rattle.record_opening.specs.declared.stop.Stop.{Stop}
use Rattle.record_opening.proofs.FieldsTold.{refers_date_told, refers_target_told, refers_told, told_more}
use Rattle.record_opening.proofs.Pieces.{three, two}
use Rattle.record_opening.proofs.Refusals.{IsTold, none_after, none_more, none_same}
use Rattle.record_opening.proofs.Samples.{some_target, some_target_is}
use Rattle.record_opening.proofs.Values.{Both, both_texts, both_told, first_refused, none_of, second_refused}

-- ---- the id

-- as it is read
abbrev pub read_id_text : List ℕ → List ℕ
read_id_text id = refers_mark ++ uuid_text id ++ codes ">\r\n"

id_line_is : (id : List ℕ) → read_id_text id ≡ refers_line id
unfolding refers_line id_field field id_text
id_line_is id = ap (λ t. refers_mark ++ t) (sym (append_assoc (uuid_text id) (codes ">") crlf_bytes))

pub ids_refused : (stop : Stop) (bytes : List ℕ) → NoneStands IsUuid read_id_text stop bytes → NoneStands IsUuid refers_line stop bytes
ids_refused stop bytes none = none_same IsUuid read_id_text refers_line stop bytes id_line_is none

pub id_stands : (bytes rest id : List ℕ) → bytes ≡ read_id_text id ++ rest → bytes ≡ refers_line id ++ rest
id_stands bytes rest id e = e ∙ ap (λ t. t ++ rest) (id_line_is id)

-- ---- the values

-- the id and the target
abbrev Aimed : List ℕ × List ℕ → Type 0
Aimed = Both IsUuid refers_line IsTarget refers_target_line

abbrev aimed : List ℕ × List ℕ → List ℕ
aimed = both_texts IsUuid refers_line IsTarget refers_target_line

-- and the date
abbrev Dated : (List ℕ × List ℕ) × ℕ → Type 0
Dated = Both Aimed aimed InRange refers_date_line

abbrev dated : (List ℕ × List ℕ) × ℕ → List ℕ
dated = both_texts Aimed aimed InRange refers_date_line

abbrev values_of : Reference → (List ℕ × List ℕ) × ℕ
values_of r = ((r.id, r.uri), r.date)

reference_of_values : (v : (List ℕ × List ℕ) × ℕ) → Dated v → (r : Reference) × IsRevisited r × (values_of r ≡ v)
reference_of_values v is =
    (record { id = v.0.0; uri = v.0.1; date = v.1 }, record { id_is = is.0.0; target = is.0.1; date_is = is.1 }, refl)

-- none of them stands, so no end of a revisit
ends_refused : (stop : Stop) (bytes : List ℕ) → NoneStands Dated dated stop bytes → NoneStands IsRevisited revisit_end stop bytes
unfolding refers_to revisit_end
ends_refused stop bytes none =
    let references : NoneStands IsRevisited refers_to stop bytes =
    none_of Dated dated IsRevisited values_of stop bytes (λ r is. ((is.id_is, is.target), is.date_is)) reference_of_values none in
    none_more IsRevisited (λ r. refers_to r ++ profile_lines) stop bytes (content_line kinds.Revisit)
    (none_more IsRevisited refers_to stop bytes profile_lines references)

aimed_refused : (stop : Stop) (bytes : List ℕ) → NoneStands Aimed aimed stop bytes → NoneStands IsRevisited revisit_end stop bytes
aimed_refused stop bytes none = ends_refused stop bytes (first_refused Aimed aimed InRange refers_date_line stop bytes 0 (omega arith) none)

pub id_refused : (stop : Stop) (bytes : List ℕ) → NoneStands IsUuid refers_line stop bytes → NoneStands IsRevisited revisit_end stop bytes
id_refused stop bytes none =
    aimed_refused stop bytes (first_refused IsUuid refers_line IsTarget refers_target_line stop bytes some_target some_target_is none)

pub refers_target_refused : (stop : Stop) (bytes rest id : List ℕ) → IsUuid id → bytes ≡ refers_line id ++ rest → NoneStands IsTarget refers_target_line stop rest
    → NoneStands IsRevisited revisit_end stop bytes
refers_target_refused stop bytes rest id is e none =
    aimed_refused stop bytes (second_refused IsUuid refers_line IsTarget refers_target_line stop bytes rest id is (refers_told id is) e none)

aimed_told : (id uri : List ℕ) → IsUuid id → IsTarget uri → IsTold Aimed aimed (id, uri)
aimed_told id uri is target = both_told IsUuid refers_line IsTarget refers_target_line id uri (refers_told id is) (refers_target_told uri target)

pub refers_date_refused : (stop : Stop) (bytes r rest id uri : List ℕ) → IsUuid id → IsTarget uri → bytes ≡ refers_line id ++ r → r ≡ refers_target_line uri ++ rest
    → NoneStands InRange refers_date_line stop rest → NoneStands IsRevisited revisit_end stop bytes
refers_date_refused stop bytes r rest id uri is target e₁ e₂ none =
    ends_refused stop bytes (second_refused Aimed aimed InRange refers_date_line stop bytes rest (id, uri) (is, target) (aimed_told id uri is target)
    (two (refers_line id) (refers_target_line uri) bytes r rest e₁ e₂) none)

-- a reference is told, whatever follows
reference_told : (reference : Reference) → IsRevisited reference → IsTold IsRevisited refers_to reference
unfolding refers_to
reference_told reference is w x y was e =
    let told = both_told Aimed aimed InRange refers_date_line (reference.id, reference.uri) reference.date
    (aimed_told reference.id reference.uri is.id_is is.target) (refers_date_told reference.date)
    ((w.id, w.uri), w.date) x y ((was.id_is, was.target), was.date_is) e in
    let one : reference ≡ w = λ i. record { id = (told.0 i).0.0; uri = (told.0 i).0.1; date = (told.0 i).1 } in
    (one, told.1)

pub profile_refused : (stop : Stop) (bytes rest : List ℕ) (reference : Reference) → IsRevisited reference → bytes ≡ refers_to reference ++ rest
    → Differs stop rest profile_lines → NoneStands IsRevisited revisit_end stop bytes
unfolding revisit_end
profile_refused stop bytes rest reference is e d =
    none_more IsRevisited (λ r. refers_to r ++ profile_lines) stop bytes (content_line kinds.Revisit)
    (none_after IsRevisited refers_to stop bytes profile_lines rest reference is (reference_told reference is) e d)

pub content_refused : (stop : Stop) (bytes r rest : List ℕ) (reference : Reference) → IsRevisited reference → bytes ≡ refers_to reference ++ r → r ≡ profile_lines ++ rest
    → Differs stop rest (content_line kinds.Response) → NoneStands IsRevisited revisit_end stop bytes
unfolding revisit_end content_line
content_refused stop bytes r rest reference is e₁ e₂ d =
    none_after IsRevisited (λ r. refers_to r ++ profile_lines) stop bytes (content_line kinds.Revisit) rest reference is
    (told_more IsRevisited refers_to profile_lines reference (reference_told reference is)) (two (refers_to reference) profile_lines bytes r rest e₁ e₂) d

-- the end that stands
pub refers_stand : (bytes r s rest : List ℕ) (reference : Reference) → bytes ≡ refers_line reference.id ++ r → r ≡ refers_target_line reference.uri ++ s
    → s ≡ refers_date_line reference.date ++ rest → bytes ≡ refers_to reference ++ rest
unfolding refers_to
refers_stand bytes r s rest reference e₁ e₂ e₃ = three (refers_line reference.id) (refers_target_line reference.uri) (refers_date_line reference.date) bytes r s rest e₁ e₂ e₃

pub end_stands : (bytes r s rest : List ℕ) (reference : Reference) → bytes ≡ refers_to reference ++ r → r ≡ profile_lines ++ s → s ≡ content_line kinds.Response ++ rest
    → bytes ≡ revisit_end reference ++ rest
unfolding revisit_end content_line
end_stands bytes r s rest reference e₁ e₂ e₃ = three (refers_to reference) profile_lines (content_line kinds.Revisit) bytes r s rest e₁ e₂ e₃
