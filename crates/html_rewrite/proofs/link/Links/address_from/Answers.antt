-- The outline is that of the page's own address.
use Rattle.html_rewrite.proofs.link.Links.address_from.Goals as goal

pub address_from-requires : goal.address_from-requires
address_from-requires c = c.args.self.now.outlined c.in-Some.base c.in-Some-outline.outline c.in-Some.is c.in-Some-outline.is
