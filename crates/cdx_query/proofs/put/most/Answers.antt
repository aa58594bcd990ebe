use Rattle.std.proofs.Common.{◌∙◌, ap}
use Rattle.std.specs.Prelude.{filter}
use Rattle.cdx_query.specs.Picking.{limited, meets}
use Rattle.cdx_query.proofs.Passed.{all_met}
use Rattle.cdx_query.proofs.put.most.Goals as goal

pub returns-in-None : goal.returns-in-None
returns-in-None c =
    ap (λ limit. limited limit (filter (meets c.args.query.now) c.args.entries.now)) c.in-None.is ∙ all_met (meets c.args.query.now) c.args.entries.now
