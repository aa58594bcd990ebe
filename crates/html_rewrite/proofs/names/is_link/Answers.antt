-- Names that are longer than each row are in none.
use Rattle.std.proofs.Common.{sym}
use Rattle.html_rewrite.proofs.NameLemmas.{long_is_no_link}
use Rattle.html_rewrite.proofs.names.is_link.Goals as goal

pub returns-then-element-attribute-gt-LONGEST : goal.returns-then-element-attribute-gt-LONGEST
returns-then-element-attribute-gt-LONGEST c = sym (long_is_no_link c.args.element.now c.args.attribute.now c.if-element-attribute-gt-LONGEST.true)
