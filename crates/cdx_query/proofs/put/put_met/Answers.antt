use Rattle.std.proofs.Common.{◌∙◌, sym}
use Rattle.std.proofs.lemmas.Result.{on_ok_weaker}
use Rattle.cdx_query.proofs.Passed.{put_more}
use Rattle.cdx_query.proofs.put.put_met.Goals as goal

pub returns : goal.returns
returns c =
    on_ok_weaker c.put_item.result (λ written rest.
    put_more c.args.query.now c.args.left.now c.args.entry.now rest c.args.out.now.items c.put_item.new.out.items (sym c.meets.ensures ∙ c.if-not-meets.false) c.requires written)
    c.put_item.ensures
