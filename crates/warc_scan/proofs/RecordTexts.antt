-- The openings of records are lines that tell no length.
use Rattle.std.proofs.Common.{◌≡◌, ◌≢◌, ℕ, zero, suc, ◌<◌, Bool, true, false, ◌&&◌, ◌==◌, if◌then◌else◌, inl, inr, List, [], ◌∷◌, ◌++◌, length, take, get_or, append_assoc, None, Some, refl, sym, ap, subst, ◌∙◌, arith}
use Rattle.std.specs.Prelude.{Option, IfSome, codes, nat_lt}
use Rattle.std.proofs.Math.ListN.{get_or-append}
use Rattle.std.proofs.Math.Seq.{get_or-take}
use Rattle.std.proofs.lemmas.Bool.{and_parts, false≢true, ltb-true}
use Rattle.std.proofs.lemmas.Bool.Decides.{nat_tests}
use Rattle.std.proofs.lemmas.List.{append-nil, get_or_default}
use Rattle.httparse.specs.Ascii.{crlf_bytes}
use Rattle.digest32.specs.Base32.{IsDigest, base32}
use Rattle.digest32.proofs.Alphabet.{alphabet_ranges}
use Rattle.digest32.proofs.Texts.{is_digest_text}
use Rattle.time_text.specs.Texts.{InRange, warc_date}
use Rattle.time_text.proofs.DateLaws.{warc_date_is_visible}
use Rattle.warc_text.specs.Groups.{IsOneLine}
use Rattle.warc_text.specs.Ids.{id_text, uuid_text}
use Rattle.warc_text.specs.Lines.{concurrent_line, content_line, cut_line, date_field, date_line, digest_line, field, id_field, id_line, opening, profile_lines, refers_date_line, refers_line, refers_target_line, target_line, type_line, version_line}
use Rattle.warc_text.specs.Records.{refers_to, request_opening, response_opening, revisit_end, revisit_front, revisit_opening}
use Rattle.warc_text.specs.References.{Reference}
use Rattle.warc_text.specs.declared.kind.RecordKind.{RecordKind}
use Rattle.warc_text.specs.declared.kind.RecordKind.TheVariants as kinds
use Rattle.warc_text.proofs.LengthLaws.{length-uuid_text}
use Rattle.record_opening.specs.Forms.{fits, uuid_form}
use Rattle.record_opening.specs.OpenValues.{length_mark}
use Rattle.record_opening.specs.Openings.{IsOpening, IsRevisited, IsTarget, Opening, opening_by, opening_text}
use Rattle.record_opening.specs.RecordLines.{AreOtherLines, IsOtherLine, IsOtherText, lines_text}
use Rattle.record_opening.proofs.Forms.{uuid_fits}
use Rattle.record_opening.proofs.Targets.{target_is_one_line}

-- ---- texts without a line's end

abbrev no_return : ℕ → Bool
no_return byte = if byte == 13 then false else true

abbrev is_one_line : List ℕ → Bool
is_one_line [] = true
is_one_line (b ∷ text) = no_return b && is_one_line text

return_is_one : no_return 13 ≡ false
return_is_one = refl

one_line_by_test : (text : List ℕ) → is_one_line text ≡ true → IsOneLine text
one_line_by_test [] is k d lt = absurd (omega arith)
one_line_by_test (b ∷ text) is zero d lt = λ e. false≢true (sym return_is_one ∙ ap no_return (sym e) ∙ (and_parts (no_return b) (is_one_line text) is).0)
one_line_by_test (b ∷ text) is (suc k) d lt = one_line_by_test text (and_parts (no_return b) (is_one_line text) is).1 k d (omega arith)

one_line_append : (a b : List ℕ) → IsOneLine a → IsOneLine b → IsOneLine (a ++ b)
one_line_append [] b p q k d lt = q k d lt
one_line_append (c ∷ a) b p q zero d lt = p zero d (omega arith)
one_line_append (c ∷ a) b p q (suc k) d lt = one_line_append a b (λ i e low. p (suc i) e (omega arith)) q k d (omega arith)

date_is_one_line : (date : ℕ) → InRange date → IsOneLine (warc_date date)
date_is_one_line date is k d lt = let visible = warc_date_is_visible date is k d lt in λ e. omega (arith, visible.0, e)

digest_is_one_line : (digest : List ℕ) → IsDigest digest → IsOneLine (base32 digest)
digest_is_one_line digest is k d lt =
    let byte = get_or (base32 digest) k d in
    elim (alphabet_ranges byte ((is_digest_text digest (base32 digest) is refl).in_alphabet k d lt)) [
      | inl letter ↦ λ e. omega (arith, letter.0, e)
      | inr digit ↦ λ e. omega (arith, digit.0, e)
    ]

-- only a line's end has the form of one
return_fits : (form : ℕ) → fits form 13 ≡ true → form ≡ 13
return_fits form is = grind (arith, nat_tests)

uuid_is_one_line : (id : List ℕ) → IsOneLine (uuid_text id)
uuid_is_one_line id k d lt = λ e.
    let small : k < 36 = omega (arith, lt, length-uuid_text id) in
    let byte : get_or (uuid_text id) k 0 ≡ 13 = get_or_default (uuid_text id) k 0 d lt ∙ e in
    let fit : fits (get_or uuid_form k 0) 13 ≡ true = subst (λ b. fits (get_or uuid_form k 0) b ≡ true) byte (uuid_fits id k small) in
    one_line_by_test uuid_form refl k 0 small (return_fits (get_or uuid_form k 0) fit)

id_is_one_line : (id : List ℕ) → IsOneLine (id_text id)
unfolding id_text
id_is_one_line id =
    one_line_append (codes "<urn:uuid:" ++ uuid_text id) (codes ">")
    (one_line_append (codes "<urn:uuid:") (uuid_text id) (one_line_by_test (codes "<urn:uuid:") refl) (uuid_is_one_line id))
    (one_line_by_test (codes ">") refl)

-- ---- texts of lines

texts_append : (xs ys : List (List ℕ)) → lines_text (xs ++ ys) ≡ lines_text xs ++ lines_text ys
texts_append [] ys = refl
texts_append (x ∷ xs) ys = ap (λ t. (x ++ crlf_bytes) ++ t) (texts_append xs ys) ∙ sym (append_assoc (x ++ crlf_bytes) (lines_text xs) (lines_text ys))

others_append : (xs ys : List (List ℕ)) → AreOtherLines xs → AreOtherLines ys → AreOtherLines (xs ++ ys)
others_append [] ys p q = q
others_append (x ∷ xs) ys p q = (p.0, others_append xs ys p.1 q)

joined : (a b : List ℕ) → IsOtherText a → IsOtherText b → IsOtherText (a ++ b)
joined a b p q = record {
  lines = p.lines ++ q.lines;
  other = others_append p.lines q.lines p.other q.other;
  composed = ap (λ t. t ++ b) p.composed ∙ ap (λ t. lines_text p.lines ++ t) q.composed ∙ sym (texts_append p.lines q.lines);
}

no_lines : IsOtherText []
no_lines = record { lines = []; other = tt; composed = refl }

one_line : (line : List ℕ) → IsOtherLine line → IsOtherText (line ++ crlf_bytes)
one_line line is = record { lines = line ∷ []; other = (is, tt); composed = sym (append-nil (line ++ crlf_bytes)) }

-- ---- a field with another name

-- the name isn't that of a length: its ninth byte isn't an `L`
abbrev is_no_length : ℕ → Bool
is_no_length byte = if byte == 76 then false else true

abbrev is_other_name : List ℕ → Bool
is_other_name mark = is_one_line mark && (nat_lt 8 (length mark) && is_no_length (get_or mark 8 0))

length_is_none : is_no_length 76 ≡ false
length_is_none = refl

ninth_of_mark : get_or length_mark 8 0 ≡ 76
ninth_of_mark = refl

other_name : (mark behind : List ℕ) → nat_lt 8 (length mark) ≡ true → is_no_length (get_or mark 8 0) ≡ true → take 16 (mark ++ behind) ≢ length_mark
other_name mark behind nine other e =
    let long : 8 < length mark = ltb-true 8 (length mark) nine in
    let ninth : get_or mark 8 0 ≡ 76 =
    sym (get_or-append mark behind 0 8 long) ∙ sym (get_or-take 16 (mark ++ behind) 8 0 (omega arith)) ∙ ap (λ (l : List ℕ). get_or l 8 0) e ∙ ninth_of_mark in
    false≢true (sym length_is_none ∙ ap is_no_length (sym ninth) ∙ other)

field_lines : (name value : List ℕ) → is_other_name (name ++ codes ": ") ≡ true → IsOneLine value → IsOtherText (field name value)
unfolding field
field_lines name value is one =
    let mark = name ++ codes ": " in
    let line = and_parts (is_one_line mark) (nat_lt 8 (length mark) && is_no_length (get_or mark 8 0)) is in
    let ninth = and_parts (nat_lt 8 (length mark)) (is_no_length (get_or mark 8 0)) line.1 in
    one_line (mark ++ value) (record {
      one = one_line_append mark value (one_line_by_test mark line.0) one;
      other = λ behind e.
          other_name mark (value ++ (crlf_bytes ++ behind)) ninth.0 ninth.1
          (ap (take 16) (sym (append_assoc mark value (crlf_bytes ++ behind)) ∙ sym (append_assoc (mark ++ value) crlf_bytes behind)) ∙ e);
    })

-- ---- the lines of records

version_is_other : IsOtherText version_line
unfolding version_line
version_is_other = one_line (codes "WARC/1.1") (record {
  one = one_line_by_test (codes "WARC/1.1") refl;
  other = λ behind e. other_name (codes "WARC/1.1" ++ crlf_bytes) behind refl refl e;
})

type_is_other : (kind : RecordKind) → IsOtherText (type_line kind)
unfolding type_line
type_is_other kinds.Info = field_lines (codes "WARC-Type") (codes "warcinfo") refl (one_line_by_test (codes "warcinfo") refl)
type_is_other kinds.Response = field_lines (codes "WARC-Type") (codes "response") refl (one_line_by_test (codes "response") refl)
type_is_other kinds.Revisit = field_lines (codes "WARC-Type") (codes "revisit") refl (one_line_by_test (codes "revisit") refl)
type_is_other kinds.Request = field_lines (codes "WARC-Type") (codes "request") refl (one_line_by_test (codes "request") refl)

id_is_other : (id : List ℕ) → IsOtherText (id_line id)
unfolding id_line id_field
id_is_other id = field_lines (codes "WARC-Record-ID") (id_text id) refl (id_is_one_line id)

date_is_other : (date : ℕ) → InRange date → IsOtherText (date_line date)
unfolding date_line date_field
date_is_other date is = field_lines (codes "WARC-Date") (warc_date date) refl (date_is_one_line date is)

opening_is_other : (kind : RecordKind) (id : List ℕ) (date : ℕ) → InRange date → IsOtherText (opening kind id date)
unfolding opening
opening_is_other kind id date is =
    joined (version_line ++ type_line kind ++ id_line id) (date_line date)
    (joined (version_line ++ type_line kind) (id_line id) (joined version_line (type_line kind) version_is_other (type_is_other kind)) (id_is_other id))
    (date_is_other date is)

target_is_other : (uri : List ℕ) → IsTarget uri → IsOtherText (target_line uri)
unfolding target_line
target_is_other uri is = field_lines (codes "WARC-Target-URI") uri refl (target_is_one_line uri is)

digest_is_other : (digest : List ℕ) → IsDigest digest → IsOtherText (digest_line digest)
unfolding digest_line
digest_is_other digest is =
    field_lines (codes "WARC-Payload-Digest") (codes "sha1:" ++ base32 digest) refl
    (one_line_append (codes "sha1:") (base32 digest) (one_line_by_test (codes "sha1:") refl) (digest_is_one_line digest is))

concurrent_is_other : (id : List ℕ) → IsOtherText (concurrent_line id)
unfolding concurrent_line id_field
concurrent_is_other id = field_lines (codes "WARC-Concurrent-To") (id_text id) refl (id_is_one_line id)

refers_are_other : (reference : Reference) → IsRevisited reference → IsOtherText (refers_to reference)
unfolding refers_to refers_line refers_target_line refers_date_line id_field date_field
refers_are_other reference is =
    joined (refers_line reference.id ++ refers_target_line reference.uri) (refers_date_line reference.date)
    (joined (refers_line reference.id) (refers_target_line reference.uri)
    (field_lines (codes "WARC-Refers-To") (id_text reference.id) refl (id_is_one_line reference.id))
    (field_lines (codes "WARC-Refers-To-Target-URI") reference.uri refl (target_is_one_line reference.uri is.target)))
    (field_lines (codes "WARC-Refers-To-Date") (warc_date reference.date) refl (date_is_one_line reference.date is.date_is))

profile_is_other : IsOtherText profile_lines
unfolding profile_lines
profile_is_other =
    let profile = codes "http://netpreserve.org/warc/1.1/revisit/identical-payload-digest" in
    joined (field (codes "WARC-Profile") profile) (field (codes "WARC-Truncated") (codes "length"))
    (field_lines (codes "WARC-Profile") profile refl (one_line_by_test profile refl))
    (field_lines (codes "WARC-Truncated") (codes "length") refl (one_line_by_test (codes "length") refl))

cut_is_other : (cut : Bool) → IsOtherText (cut_line cut)
unfolding cut_line
cut_is_other true = field_lines (codes "WARC-Truncated") (codes "disconnect") refl (one_line_by_test (codes "disconnect") refl)
cut_is_other false = no_lines

content_is_other : (kind : RecordKind) → IsOtherText (content_line kind)
unfolding content_line
content_is_other kinds.Info =
    field_lines (codes "Content-Type") (codes "application/warc-fields") refl (one_line_by_test (codes "application/warc-fields") refl)
content_is_other kinds.Response =
    field_lines (codes "Content-Type") (codes "application/http;msgtype=response") refl (one_line_by_test (codes "application/http;msgtype=response") refl)
content_is_other kinds.Revisit =
    field_lines (codes "Content-Type") (codes "application/http;msgtype=response") refl (one_line_by_test (codes "application/http;msgtype=response") refl)
content_is_other kinds.Request =
    field_lines (codes "Content-Type") (codes "application/http;msgtype=request") refl (one_line_by_test (codes "application/http;msgtype=request") refl)

-- ---- the openings of a group's records

front_is_other : (kind : RecordKind) (id : List ℕ) (o : Opening) → IsOpening o → IsOtherText (opening kind id o.date ++ target_line o.uri ++ digest_line o.digest)
front_is_other kind id o is =
    joined (opening kind id o.date ++ target_line o.uri) (digest_line o.digest)
    (joined (opening kind id o.date) (target_line o.uri) (opening_is_other kind id o.date is.date_is) (target_is_other o.uri is.target))
    (digest_is_other o.digest is.digest_is)

by_reference : (id : List ℕ) (o : Opening) → IsOpening o → (same : Option Reference) → IfSome same IsRevisited → IsOtherText (opening_by id o same)
unfolding response_opening revisit_opening revisit_front revisit_end
by_reference id o is None refers =
    let front = opening kinds.Response id o.date ++ target_line o.uri ++ digest_line o.digest in
    joined (front ++ cut_line o.cut) (content_line kinds.Response)
    (joined front (cut_line o.cut) (front_is_other kinds.Response id o is) (cut_is_other o.cut)) (content_is_other kinds.Response)
by_reference id o is (Some reference) refers =
    let front = opening kinds.Revisit id o.date ++ target_line o.uri ++ digest_line o.digest in
    let end = refers_to reference ++ profile_lines ++ content_line kinds.Revisit in
    joined front end (front_is_other kinds.Revisit id o is)
    (joined (refers_to reference ++ profile_lines) (content_line kinds.Revisit)
    (joined (refers_to reference) profile_lines (refers_are_other reference refers) profile_is_other) (content_is_other kinds.Revisit))

pub first_is_other : (id : List ℕ) (o : Opening) → IsOpening o → IsOtherText (opening_text id o)
first_is_other id o is = by_reference id o is o.same is.refers

pub second_is_other : (id answer_id : List ℕ) (o : Opening) → IsOpening o → IsOtherText (request_opening id answer_id o.date o.uri)
unfolding request_opening
second_is_other id answer_id o is =
    let front = opening kinds.Request id o.date ++ target_line o.uri in
    joined (front ++ concurrent_line answer_id) (content_line kinds.Request)
    (joined front (concurrent_line answer_id)
    (joined (opening kinds.Request id o.date) (target_line o.uri) (opening_is_other kinds.Request id o.date is.date_is) (target_is_other o.uri is.target))
    (concurrent_is_other answer_id))
    (content_is_other kinds.Request)
