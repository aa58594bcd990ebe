use Rattle.message_body.proofs.DecodeLaws.{no_section_of_other_end}
use Rattle.message_body.proofs.decode.trailer_of.Goals as goal

pub returns-then-end-text : goal.returns-then-end-text
returns-then-end-text c = no_section_of_other_end c.args.text.now c.in-Some.end c.in-Some.ensures c.if-end-text.true
