-- The lengths of the texts.
use Rattle.std.proofs.Common.{◌≡◌, ℕ, ◌+◌, List, [], ◌∷◌, ◌++◌, length, length-append, refl, ap, ◌∙◌, arith}
use Rattle.std.specs.Prelude.{decimal, codes, Some, None}
use Rattle.uuid.proofs.TextLemmas.{by_index_length}
use Rattle.digest32.specs.Base32.{base32, IsDigest}
use Rattle.digest32.proofs.Texts.{length-digest_text}
use Rattle.time_text.specs.Texts.{warc_date}
use Rattle.capture.specs.declared.captured.Taken.{Taken}
use Rattle.warc_text.specs.declared.id.IdKind.TheVariants as ids
use Rattle.warc_text.specs.declared.kind.RecordKind.{RecordKind}
use Rattle.warc_text.specs.declared.kind.RecordKind.TheVariants as kinds
use Rattle.warc_text.specs.Ids.{id_of, id_text, uuid_text}
use Rattle.warc_text.specs.Lines.{field, id_field, date_field, version_line, type_line, id_line, date_line, opening, target_line, digest_line, concurrent_line, refers_line, refers_target_line, refers_date_line, profile_lines, cut_line, content_line, length_lines, record_end, ended, software_lines, namespace_line, volume_line, info_block}
use Rattle.warc_text.specs.References.{Reference}
use Rattle.warc_text.specs.Records.{info_opening, info_text, response_opening, response_text, refers_to, revisit_front, revisit_end, revisit_opening, revisit_text, request_opening, request_text, group_text, answer_text}
use Rattle.warc_text.specs.Lengths.{ended_length, info_block_length, info_length, response_length, revisit_length, request_length}

sum3 : (a b c : List ℕ) → length (a ++ b ++ c) ≡ length a + length b + length c
sum3 a b c = omega (arith, length-append (a ++ b) c, length-append a b)

sum4 : (a b c d : List ℕ) → length (a ++ b ++ c ++ d) ≡ length a + length b + length c + length d
sum4 a b c d = omega (arith, length-append (a ++ b ++ c) d, sum3 a b c)

sum5 : (a b c d e : List ℕ) → length (a ++ b ++ c ++ d ++ e) ≡ length a + length b + length c + length d + length e
sum5 a b c d e = omega (arith, length-append (a ++ b ++ c ++ d) e, sum4 a b c d)

sum6 : (a b c d e f : List ℕ) → length (a ++ b ++ c ++ d ++ e ++ f) ≡ length a + length b + length c + length d + length e + length f
sum6 a b c d e f = omega (arith, length-append (a ++ b ++ c ++ d ++ e) f, sum5 a b c d e)

field_sum : (name value : List ℕ) → length (name ++ codes ": " ++ value ++ codes "\r\n") ≡ length name + length value + 4
field_sum name value = sum4 name (codes ": ") value (codes "\r\n") ∙ omega arith

pub length-field : (name value : List ℕ) → length (field name value) ≡ length name + length value + 4
unfolding field
length-field name value =
    field_sum name value

pub length-uuid_text : (uuid : List ℕ) → length (uuid_text uuid) ≡ 36
unfolding uuid_text
length-uuid_text uuid = by_index_length 36 _

pub length-id_text : (id : List ℕ) → length (id_text id) ≡ 47
unfolding id_text
length-id_text id =
    let whole : length (codes "<urn:uuid:" ++ uuid_text id ++ codes ">") ≡ 47 =
    sum3 (codes "<urn:uuid:") (uuid_text id) (codes ">") ∙ omega (arith, length-uuid_text id) in
    whole

pub length-id_field : (name id : List ℕ) → length (id_field name id) ≡ length name + 51
unfolding id_field
length-id_field name id =
    length-field name (id_text id) ∙ omega (arith, length-id_text id)

pub length-date_field : (name : List ℕ) (date : ℕ) → length (date_field name date) ≡ length name + length (warc_date date) + 4
unfolding date_field
length-date_field name date = length-field name (warc_date date)

pub length-id_line : (id : List ℕ) → length (id_line id) ≡ 65
unfolding id_line
length-id_line id = length-id_field _ id

pub length-date_line : (date : ℕ) → length (date_line date) ≡ 13 + length (warc_date date)
unfolding date_line
length-date_line date =
    length-date_field (codes "WARC-Date") date ∙ omega arith

length-version_line : length version_line ≡ 10
unfolding version_line
length-version_line = refl

pub length-opening : (kind : RecordKind) (id : List ℕ) (date : ℕ) → length (opening kind id date) ≡ 88 + length (type_line kind) + length (warc_date date)
unfolding opening
length-opening kind id date =
    sum4 version_line (type_line kind) (id_line id) (date_line date)
    ∙ omega (arith, length-version_line, length-id_line id, length-date_line date)

length-type_info : length (type_line kinds.Info) ≡ 21
unfolding type_line field
length-type_info = refl

length-type_response : length (type_line kinds.Response) ≡ 21
unfolding type_line field
length-type_response = refl

length-type_revisit : length (type_line kinds.Revisit) ≡ 20
unfolding type_line field
length-type_revisit = refl

length-type_request : length (type_line kinds.Request) ≡ 20
unfolding type_line field
length-type_request = refl

length-content_info : length (content_line kinds.Info) ≡ 39
unfolding content_line field
length-content_info = refl

length-content_response : length (content_line kinds.Response) ≡ 49
unfolding content_line field
length-content_response = refl

length-content_revisit : length (content_line kinds.Revisit) ≡ 49
unfolding content_line field
length-content_revisit = refl

length-content_request : length (content_line kinds.Request) ≡ 48
unfolding content_line field
length-content_request = refl

length-profile_lines : length profile_lines ≡ 104
unfolding profile_lines field
length-profile_lines = refl

length-record_end : length record_end ≡ 4
unfolding record_end
length-record_end = refl

length-target_line : (uri : List ℕ) → length (target_line uri) ≡ 19 + length uri
unfolding target_line
length-target_line uri =
    length-field (codes "WARC-Target-URI") uri ∙ omega arith

pub length-digest_line : (digest : List ℕ) → IsDigest digest → length (digest_line digest) ≡ 60
unfolding digest_line
length-digest_line digest is =
    length-field (codes "WARC-Payload-Digest") (codes "sha1:" ++ base32 digest) ∙ omega (arith, length-digest_text digest is)

pub length-concurrent_line : (id : List ℕ) → length (concurrent_line id) ≡ 69
unfolding concurrent_line
length-concurrent_line id = length-id_field _ id

pub length-refers_line : (id : List ℕ) → length (refers_line id) ≡ 65
unfolding refers_line
length-refers_line id = length-id_field _ id

length-refers_target_line : (uri : List ℕ) → length (refers_target_line uri) ≡ 29 + length uri
unfolding refers_target_line
length-refers_target_line uri =
    length-field (codes "WARC-Refers-To-Target-URI") uri ∙ omega arith

pub length-refers_date_line : (date : ℕ) → length (refers_date_line date) ≡ 23 + length (warc_date date)
unfolding refers_date_line
length-refers_date_line date =
    length-date_field (codes "WARC-Refers-To-Date") date ∙ omega arith

length-length_lines : (n : ℕ) → length (length_lines n) ≡ 20 + length (decimal n)
unfolding length_lines
length-length_lines n =
    length-append (field (codes "Content-Length") (decimal n)) (13 ∷ 10 ∷ [])
    ∙ omega (arith, length-field (codes "Content-Length") (decimal n))

pub length-ended : (block : List ℕ) → length (ended block) ≡ ended_length (length block)
unfolding ended
length-ended block =
    sum3 (length_lines (length block)) block record_end
    ∙ omega (arith, length-length_lines (length block), length-record_end)

length-software_lines : length software_lines ≡ 40
unfolding software_lines field
length-software_lines = refl

pub length_of_info_block : (namespace : List ℕ) (volume : ℕ) → length (info_block namespace volume) ≡ info_block_length volume
unfolding info_block namespace_line volume_line
length_of_info_block namespace volume =
    sum3 software_lines (field (codes "archive-namespace") (uuid_text namespace)) (field (codes "archive-volume") (decimal volume))
    ∙ omega (arith, length-software_lines, length-field (codes "archive-namespace") (uuid_text namespace), length-uuid_text namespace, length-field (codes "archive-volume") (decimal volume))

pub length_of_info : (namespace : List ℕ) (volume born : ℕ) → length (info_text namespace volume born) ≡ info_length volume born
unfolding info_text info_opening
length_of_info namespace volume born =
    let id = id_of namespace ids.Info volume in
    let block = info_block namespace volume in
    let last : length (ended block) ≡ ended_length (info_block_length volume) = length-ended block ∙ ap ended_length (length_of_info_block namespace volume) in
    sum3 (opening kinds.Info id born) (content_line kinds.Info) (ended block)
    ∙ omega (arith, length-opening kinds.Info id born, length-type_info, length-content_info, last)

pub length-response_text : (id : List ℕ) (taken : Taken) (digest : List ℕ) → IsDigest digest → length (response_text id taken digest) ≡ response_length taken
unfolding response_text response_opening
length-response_text id taken digest is =
    let block = taken.head ++ taken.wire in
    let last : length (ended block) ≡ ended_length (length taken.head + length taken.wire) = length-ended block ∙ ap ended_length (length-append taken.head taken.wire) in
    sum6 (opening kinds.Response id taken.date) (target_line taken.uri) (digest_line digest) (cut_line taken.cut) (content_line kinds.Response) (ended block)
    ∙ omega (arith, length-opening kinds.Response id taken.date, length-type_response, length-target_line taken.uri, length-digest_line digest is, length-content_response, last)

length-revisit_end : (reference : Reference) → length (revisit_end reference) ≡ 270 + length reference.uri + length (warc_date reference.date)
unfolding revisit_end refers_to
length-revisit_end reference =
    sum5 (refers_line reference.id) (refers_target_line reference.uri) (refers_date_line reference.date) profile_lines (content_line kinds.Revisit)
    ∙ omega (arith, length-refers_line reference.id, length-refers_target_line reference.uri, length-refers_date_line reference.date, length-profile_lines, length-content_revisit)

pub length-revisit_text : (id : List ℕ) (taken : Taken) (digest : List ℕ) (reference : Reference) → IsDigest digest
    → length (revisit_text id taken digest reference) ≡ revisit_length taken reference
unfolding revisit_text revisit_opening revisit_front
length-revisit_text id taken digest reference is =
    sum5 (opening kinds.Revisit id taken.date) (target_line taken.uri) (digest_line digest) (revisit_end reference) (ended taken.head)
    ∙ omega (arith, length-opening kinds.Revisit id taken.date, length-type_revisit, length-target_line taken.uri, length-digest_line digest is, length-revisit_end reference, length-ended taken.head)

pub length-request_text : (id answer_id : List ℕ) (taken : Taken) → length (request_text id answer_id taken) ≡ request_length taken
unfolding request_text request_opening
length-request_text id answer_id taken =
    sum5 (opening kinds.Request id taken.date) (target_line taken.uri) (concurrent_line answer_id) (content_line kinds.Request) (ended taken.request)
    ∙ omega (arith, length-opening kinds.Request id taken.date, length-type_request, length-target_line taken.uri, length-concurrent_line answer_id, length-content_request, length-ended taken.request)

pub response_group_length : (namespace : List ℕ) (number : ℕ) (taken : Taken) (digest : List ℕ) → IsDigest digest
    → length (group_text namespace number taken digest None) ≡ response_length taken + request_length taken
unfolding group_text answer_text
response_group_length namespace number taken digest is =
    let id = id_of namespace ids.Response number in
    let request_id = id_of namespace ids.Request number in
    length-append (response_text id taken digest) (request_text request_id id taken)
    ∙ omega (arith, length-response_text id taken digest is, length-request_text request_id id taken)

pub revisit_group_length : (namespace : List ℕ) (number : ℕ) (taken : Taken) (digest : List ℕ) (reference : Reference) → IsDigest digest
    → length (group_text namespace number taken digest (Some reference)) ≡ revisit_length taken reference + request_length taken
unfolding group_text answer_text
revisit_group_length namespace number taken digest reference is =
    let id = id_of namespace ids.Response number in
    let request_id = id_of namespace ids.Request number in
    length-append (revisit_text id taken digest reference) (request_text request_id id taken)
    ∙ omega (arith, length-revisit_text id taken digest reference is, length-request_text request_id id taken)
