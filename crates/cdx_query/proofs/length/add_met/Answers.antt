use Rattle.std.proofs.Common.{◌∙◌, sym}
use Rattle.cdx_query.proofs.Passed.{count_more}
use Rattle.cdx_query.proofs.length.add_met.Goals as goal

pub returns : goal.returns
returns c = λ rest whole part.
    count_more c.args.query.now c.args.left.now c.args.len.now c.item_len.result c.saturating_add.result c.args.entry.now rest whole
    (sym c.meets.ensures ∙ c.if-not-meets.false) c.requires c.item_len.ensures c.saturating_add.ensures part
