use Rattle.std.proofs.Common.{ap, sym, map, ◌∙◌}
use Rattle.capture.specs.Fields.{values_of}
use Rattle.http_head.specs.Heads.{named_value}
use Rattle.warc_reader.specs.Fields.{concurrent_to}
use Rattle.warc_reader.specs.Tables.{first_at, place_at}
use Rattle.warc_reader.proofs.TableLaws.{beside_at, request_found}
use Rattle.warc_reader.proofs.requests.Requests.find.Goals as goal

pub returns-in-Some : goal.returns-in-Some
returns-in-Some c = λ done rises holds.
    c.find_first.ensures
    ∙ ap (first_at (place_at c.args.self.now.by_id) (values_of concurrent_to (map named_value c.args.fields.now)))
    (c.find_at.ensures ∙ ap (beside_at c.args.self.now.by_concurrent) c.in-Some.ensures)
    ∙ sym (request_found c.args.self.now done (map named_value c.args.fields.now) rises holds)

pub returns-in-None : goal.returns-in-None
returns-in-None c = λ done rises holds.
    c.find_first-in-None.ensures
    ∙ ap (first_at (place_at c.args.self.now.by_id) (values_of concurrent_to (map named_value c.args.fields.now)))
    (ap (beside_at c.args.self.now.by_concurrent) c.in-None.ensures)
    ∙ sym (request_found c.args.self.now done (map named_value c.args.fields.now) rises holds)
