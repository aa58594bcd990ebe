use Rattle.std.proofs.Common.{ap, sym, map, ◌∙◌}
use Rattle.http_head.specs.Heads.{named_value}
use Rattle.warc_reader.specs.Requests.{is_request}
use Rattle.warc_reader.proofs.RecordLaws.{if_ok}
use Rattle.warc_reader.proofs.TableLaws.{none_noted, request_noted}
use Rattle.warc_reader.proofs.requests.Requests.add.Goals as goal

pub returns-then-not-is_request : goal.returns-then-not-is_request
returns-then-not-is_request c =
    none_noted c.args.self.now (map named_value c.args.fields.now) c.args.at
    (sym (c.is_request.ensures ∙ ap is_request c.kind_of.ensures) ∙ c.if-not-is_request.true)

pub returns : goal.returns
returns c =
    if_ok _ _
    (λ x beside. request_noted c.args.self.now (record { by_id = c.note_own_id.new.places; by_concurrent = c.note_concurrent.new.places })
    (map named_value c.args.fields.now) c.args.at (sym (c.is_request.ensures ∙ ap is_request c.kind_of.ensures) ∙ c.if-not-is_request.false)
    c.in_ok-note_own_id.ensures beside)
    c.note_concurrent.result c.note_concurrent.ensures
