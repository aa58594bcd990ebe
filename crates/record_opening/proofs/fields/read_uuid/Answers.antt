use Rattle.std.proofs.Common.{◌≡◌, sym, ap, ◌∙◌, arith}
use Rattle.std.proofs.lemmas.Bool.{false≢true}
use Rattle.std.proofs.lemmas.Slice.Eq.{bytes_eq-Decides}
use Rattle.uuid.specs.Text.{hyphenated_text, lower}
use Rattle.warc_text.specs.Ids.{uuid_text}
use Rattle.record_opening.proofs.Pieces.{piece_stands}
use Rattle.record_opening.proofs.UuidFronts.{not_parsed, other_form, uuid_stop}
use Rattle.record_opening.proofs.UuidParsing.{parsed_is_uuid}
use Rattle.record_opening.proofs.fields.read_uuid.Goals as goal

pub returns-then-bytes-lt-UUID_LEN-clause-err : goal.returns-then-bytes-lt-UUID_LEN-clause-err
returns-then-bytes-lt-UUID_LEN-clause-err c = uuid_stop c.args.bytes.now c.open_form.result (omega arith) c.open_form.ensures

pub returns-in_default-clause-err : goal.returns-in_default-clause-err
returns-in_default-clause-err c =
    not_parsed c.args.bytes.now c.split_at.result.0.now (omega arith) c.split_at.ensures.front (λ id e. false≢true (c.in_default.ensures.ok.1 (id, e)))

pub returns-then-eq-clause-ok : goal.returns-then-eq-clause-ok
unfolding uuid_text
returns-then-eq-clause-ok c =
    let text = c.split_at.result.0.now in
    let id = c.in-Ok.id in
    let written : c.as_bytes.result.now ≡ uuid_text id = c.as_bytes.ensures.value ∙ c.encode_lower-written.ensures.text ∙ ap (hyphenated_text lower) c.hyphenated.ensures in
    let same : c.as_bytes.result.now ≡ text = (bytes_eq-Decides c.as_bytes.result.now text).0 (sym c.if-eq.ensures) in (
      parsed_is_uuid text id c.split_at.ensures.front_len c.in-Ok.ensures.bytes,
      piece_stands c.args.bytes.now text c.split_at.result.1.now (uuid_text id) 36 c.split_at.ensures.front c.split_at.ensures.back (sym same ∙ written),
    )

pub returns-else-eq-clause-err : goal.returns-else-eq-clause-err
unfolding uuid_text
returns-else-eq-clause-err c =
    let text = c.split_at.result.0.now in
    let id = c.in-Ok.id in
    let written : c.as_bytes.result.now ≡ uuid_text id = c.as_bytes.ensures.value ∙ c.encode_lower-written.ensures.text ∙ ap (hyphenated_text lower) c.hyphenated.ensures in
    other_form c.args.bytes.now text c.as_bytes.result.now id (omega arith) c.split_at.ensures.front c.in-Ok.ensures.bytes written
    (λ e. false≢true (c.if-eq.ensures ∙ (bytes_eq-Decides c.as_bytes.result.now text).1 e))
