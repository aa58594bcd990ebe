use Rattle.std.proofs.Common.{None, Some, ◌∙◌}
use Rattle.cdxj_index.proofs.Calls.{of_key_is}
use Rattle.cdxj_index.proofs.entry_map.EntryMap.range.Goals as goal

pub returns-in-Some : goal.returns-in-Some
returns-in-Some c = c.of.ensures ∙ of_key_is c.args.self.now.keys c.args.key.now (Some c.in-Some.captures.now) c.requires c.in-Some.ensures.value

pub returns-in-None : goal.returns-in-None
returns-in-None c = c.none.ensures ∙ of_key_is c.args.self.now.keys c.args.key.now None c.requires c.in-None.ensures.value
