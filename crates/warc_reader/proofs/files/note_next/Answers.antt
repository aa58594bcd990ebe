use Rattle.std.proofs.Common.{ap, map, ◌∙◌}
use Rattle.http_head.specs.Heads.{named_value}
use Rattle.warc_reader.proofs.FileLaws.{read_one}
use Rattle.warc_reader.proofs.files.note_next.Goals as goal

pub returns-in-Ok-add-clause-read : goal.returns-in-Ok-add-clause-read
returns-in-Ok-add-clause-read c =
    read_one c.args.file.now c.args.rest.now c.args.requests.now c.add.new.self c.in-Ok.record c.requires.read c.in-Ok.ensures.ok
    (λ done form holds same. c.in-Ok-add.ensures done form holds (ap (map named_value) c.as_slice.ensures ∙ same))
