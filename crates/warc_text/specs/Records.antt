-- The records of a volume (ISO 28500, WARC 1.1, section 6). The opening of a record is all up to its block's length.
use Rattle.std.specs.Prelude.{ℕ, Bool, List, ◌++◌, Option, Some, None}
use Rattle.capture.specs.declared.captured.Taken.{Taken}
use Rattle.warc_text.specs.declared.id.IdKind.TheVariants as ids
use Rattle.warc_text.specs.declared.kind.RecordKind.TheVariants as kinds
use Rattle.warc_text.specs.Ids.{id_of}
use Rattle.warc_text.specs.References.{Reference}
use Rattle.warc_text.specs.Lines.{opening, target_line, digest_line, concurrent_line, refers_line, refers_target_line, refers_date_line, profile_lines, cut_line, content_line, ended, info_block}

-- no warcinfo has more bytes
abbrev pub info_most : ℕ
info_most = 512

-- the warcinfo of a volume
unfoldable pub info_opening : List ℕ → ℕ → List ℕ
info_opening id born = opening kinds.Info id born ++ content_line kinds.Info

unfoldable pub info_text : List ℕ → ℕ → ℕ → List ℕ
info_text namespace volume born =
    info_opening (id_of namespace ids.Info volume) born ++ ended (info_block namespace volume)

-- the response of a capture that keeps its wire, whole or cut
unfoldable pub response_opening : List ℕ → ℕ → List ℕ → List ℕ → Bool → List ℕ
response_opening id date uri digest cut =
    opening kinds.Response id date ++ target_line uri ++ digest_line digest
    ++ cut_line cut ++ content_line kinds.Response

unfoldable pub response_text : List ℕ → Taken → List ℕ → List ℕ
response_text id taken digest =
    response_opening id taken.date taken.uri digest taken.cut ++ ended (taken.head ++ taken.wire)

-- the record that a revisit refers to
unfoldable pub refers_to : Reference → List ℕ
refers_to reference =
    refers_line reference.id ++ refers_target_line reference.uri ++ refers_date_line reference.date

-- the response of a capture whose payload is that of an earlier one: what its opening says of the capture itself, and
-- of the other
unfoldable pub revisit_front : List ℕ → ℕ → List ℕ → List ℕ → List ℕ
revisit_front id date uri digest = opening kinds.Revisit id date ++ target_line uri ++ digest_line digest

unfoldable pub revisit_end : Reference → List ℕ
revisit_end reference = refers_to reference ++ profile_lines ++ content_line kinds.Revisit

unfoldable pub revisit_opening : List ℕ → ℕ → List ℕ → List ℕ → Reference → List ℕ
revisit_opening id date uri digest reference = revisit_front id date uri digest ++ revisit_end reference

unfoldable pub revisit_text : List ℕ → Taken → List ℕ → Reference → List ℕ
revisit_text id taken digest reference =
    revisit_opening id taken.date taken.uri digest reference ++ ended taken.head

-- the request of a capture, beside the response with that id
unfoldable pub request_opening : List ℕ → List ℕ → ℕ → List ℕ → List ℕ
request_opening id answer_id date uri =
    opening kinds.Request id date ++ target_line uri ++ concurrent_line answer_id
    ++ content_line kinds.Request

unfoldable pub request_text : List ℕ → List ℕ → Taken → List ℕ
request_text id answer_id taken =
    request_opening id answer_id taken.date taken.uri ++ ended taken.request

-- the response or the revisit of a capture
unfoldable pub answer_text : List ℕ → Taken → List ℕ → Option Reference → List ℕ
answer_text id taken digest None = response_text id taken digest
answer_text id taken digest (Some reference) = revisit_text id taken digest reference

-- the group of a capture: its response or revisit, and its request
unfoldable pub group_text : List ℕ → ℕ → Taken → List ℕ → Option Reference → List ℕ
group_text namespace number taken digest same =
    let answer_id = id_of namespace ids.Response number in
    answer_text answer_id taken digest same
    ++ request_text (id_of namespace ids.Request number) answer_id taken
