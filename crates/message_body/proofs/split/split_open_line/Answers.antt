use Rattle.message_body.proofs.SplitSteps.{without_lf, cut_in_line, nothing_in_line}
use Rattle.message_body.proofs.split.split_open_line.Goals as goal

pub returns-in-None : goal.returns-in-None
returns-in-None c = cut_in_line c.args.text.now (without_lf c.args.text.now c.in-None.ensures)

pub returns-in-Some : goal.returns-in-Some
returns-in-Some c =
    nothing_in_line c.args.text.now c.in-Some.field-0 c.requires c.in-Some.ensures.0.high c.in-Some.ensures.1
