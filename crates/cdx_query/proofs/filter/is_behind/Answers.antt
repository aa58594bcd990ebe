use Rattle.std.proofs.Common.{◌∙◌, ap}
use Rattle.cdx_query.specs.Picking.{begins}
use Rattle.cdx_query.proofs.Starts.{begins_behind, begins_not}
use Rattle.cdx_query.proofs.filter.is_behind.Goals as goal

pub returns-in-Some : goal.returns-in-Some
returns-in-Some c =
    c.starts_with.ensures.value ∙ ap (begins c.args.mark.now) c.in-Some.ensures.1
    ∙ begins_behind c.args.host.now c.args.mark.now c.args.key.now c.in-Some.ensures.0

pub returns-in-None : goal.returns-in-None
returns-in-None c = begins_not c.args.host.now c.args.mark.now c.args.key.now c.in-None.ensures
