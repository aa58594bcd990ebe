use Rattle.std.proofs.Common.{◌≡◌, ◌++◌, ap, subst, ◌∙◌}
use Rattle.std.specs.Prelude.{IfErr, IfOk}
use Rattle.uuid.specs.Text.{hyphenated_text, lower}
use Rattle.warc_text.specs.Ids.{uuid_text}
use Rattle.record_opening.specs.Stops.{Differs}
use Rattle.record_opening.proofs.fields.strip_uuid.Goals as goal

pub returns-clause-ok : goal.returns-clause-ok
unfolding uuid_text
returns-clause-ok c =
    let text : c.as_bytes.result.now ≡ uuid_text c.args.id.now = c.as_bytes.ensures.value ∙ c.encode_lower-text.ensures.text ∙ ap (hyphenated_text lower) c.hyphenated.ensures in
    subst (λ t. IfOk c.strip.result (λ rest. c.args.bytes.now ≡ t ++ rest.now)) text c.strip.ensures.ok

pub returns-clause-err : goal.returns-clause-err
unfolding uuid_text
returns-clause-err c =
    let text : c.as_bytes.result.now ≡ uuid_text c.args.id.now = c.as_bytes.ensures.value ∙ c.encode_lower-text.ensures.text ∙ ap (hyphenated_text lower) c.hyphenated.ensures in
    subst (λ t. IfErr c.strip.result (λ stop. Differs stop c.args.bytes.now t)) text c.strip.ensures.err
