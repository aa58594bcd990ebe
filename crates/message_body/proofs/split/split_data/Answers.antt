use Rattle.message_body.proofs.SplitSteps.{cut_in_data}
use Rattle.message_body.proofs.split.split_data.Goals as goal

pub returns-then-come-size : goal.returns-then-come-size
returns-then-come-size c =
    cut_in_data c.args.text.now c.args.start c.args.size c.requires.0 c.requires.1 c.if-come-size.true
