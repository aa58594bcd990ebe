use Rattle.message_body.proofs.InPlaceLaws.{moved_behind, moved_front}
use Rattle.std.proofs.Common.{ap, take, drop, ◌+◌, ◌-◌, ◌∙◌}
use Rattle.message_body.proofs.in_place.move_forward.Goals as goal

pub returns-clause-front : goal.returns-clause-front
returns-clause-front c =
    ap (take (c.args.len + (c.args.span.end - c.args.span.start))) c.copy_within.ensures.after
    ∙ moved_front c.args.bytes.now c.args.len c.args.at c.args.span c.requires.before c.requires.ordered c.requires.fits

pub returns-clause-behind : goal.returns-clause-behind
returns-clause-behind c =
    ap (drop (c.args.at + c.args.span.end)) c.copy_within.ensures.after
    ∙ moved_behind c.args.bytes.now c.args.len c.args.at c.args.span c.requires.before c.requires.ordered c.requires.fits
