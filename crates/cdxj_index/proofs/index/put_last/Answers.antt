use Rattle.std.proofs.Common.{ap, ◌∙◌}
use Rattle.std.proofs.lemmas.Result.{on_ok_weaker}
use Rattle.index_entry.specs.Facts.{Facts}
use Rattle.cdxj_index.specs.Maps.{entry_of, shown_all}
use Rattle.cdxj_index.proofs.Built.{numbers_push}
use Rattle.cdxj_index.proofs.index.put_last.Goals as goal

pub returns-clause-numbers : goal.returns-clause-numbers
returns-clause-numbers c =
    on_ok_weaker _ (λ shown.
    numbers_push c.args.numbers.now.items c.push.new.self.items c.facts.inside.number c.in_ok-share.field-0 (entry_of c.args.entry) (shown_all c.args.groups.now.items) (shown_all c.append.new.groups.items) c.in_ok-push.ensures.items
    (ap (λ (f : Facts). f.number) (c.facts.view_is ∙ c.facts-facts.ensures)) c.in_ok-share.ensures shown c.requires.numbers)
    c.append.ensures.shown
