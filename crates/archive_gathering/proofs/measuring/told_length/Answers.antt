use Rattle.std.proofs.Common.{rules, ◌∙◌}
use Rattle.capture.specs.Methods.{asks_for_head}
use Rattle.message_body.specs.Framings.{told_by_response}
use Rattle.archive_gathering.proofs.MeasuringLaws.{parts_tell, too_long}
use Rattle.archive_gathering.proofs.measuring.told_length.Goals as goal

pub returns-in-Err-BodyTooLong : goal.returns-in-Err-BodyTooLong
returns-in-Err-BodyTooLong c = λ text h of.
    let b = asks_for_head c.args.method.now in
    let long = too_long (told_by_response b c.args.head.now) (search rules) in
    (long.len, parts_tell b text h c.args.head.now of ∙ long.is, long.long)
