use Rattle.http_head.proofs.LimitLaws.{short_by_count}
use Rattle.http_head.proofs.lines.is_short_head.Goals as goal

pub returns : goal.returns
returns c =
    short_by_count c.args.head.now c.count_line_feeds.result c.requires.ends c.requires.at_once c.if-head-gt-HEAD_LIMIT.false c.count_line_feeds.ensures
