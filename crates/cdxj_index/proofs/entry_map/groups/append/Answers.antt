use Rattle.std.proofs.Common.{◌≡◌, [], ◌∷◌, ◌++◌, refl, sym, ap, ◌∙◌}
use Rattle.std.proofs.lemmas.List.{nil_from_length}
use Rattle.index_entry.specs.Facts.{Facts}
use Rattle.cdxj_index.specs.Groups.{AreGroups}
use Rattle.cdxj_index.specs.Maps.{entry_of, shown_all}
use Rattle.index_entry.specs.Order.{moment_of}
use Rattle.cdxj_index.proofs.Grouped.{appended_apart, appended_first, appended_there, last_group, other_key, same_key}
use Rattle.cdxj_index.proofs.entry_map.groups.append.Goals as goal

pub returns-in_default-clause-groups : goal.returns-in_default-clause-groups
returns-in_default-clause-groups c =
    appended_first c.pop.new.self.items c.push.new.self.items c.in_ok-group_of.field-0 (nil_from_length c.pop.new.self.items (sym c.pop.new.self.ok.0 ∙ c.in_default.ensures.cases.1)) c.in_ok-push.ensures.items c.in_ok-group_of.ensures.group

pub insert-requires : goal.insert-requires
insert-requires c = (last_group c.args.groups.now.items c.pop.new.self.items (c.in-Some.key, c.in-Some.captures) c.requires.groups c.in-Some.ensures.items).of_key.ordered

there : (c : goal.In_ok-push-2) → AreGroups c.push-then-eq.new.self.items × (shown_all c.push-then-eq.new.self.items ≡ shown_all c.args.groups.now.items ++ entry_of c.args.entry ∷ [])
there c =
    let is = ap (λ (f : Facts). f.key) (c.facts.view_is ∙ c.facts-facts.ensures) in
    let same = same_key _ _ c.in-Some.key (entry_of c.args.entry).key (sym c.eq.ensures ∙ c.if-eq.true) refl is in
    appended_there c.args.groups.now.items c.push-then-eq.new.self.items c.pop.new.self.items c.in-Some.key c.in-Some.captures c.insert.new.self c.args.entry (entry_of c.args.entry) c.moment-moment.result refl same (c.moment-moment.ensures.value ∙ ap moment_of c.facts-facts.ensures) c.moment-moment.ensures.fits c.requires.groups
    c.requires.last c.in-Some.ensures.items c.in_ok-push-2.ensures.items c.in_ok-insert.ensures.ordered c.in_ok-insert.ensures.ok

pub returns-then-eq-clause-groups : goal.returns-then-eq-clause-groups
returns-then-eq-clause-groups c = (there c).0

pub returns-then-eq-clause-shown : goal.returns-then-eq-clause-shown
returns-then-eq-clause-shown c = (there c).1

pub returns-clause-groups : goal.returns-clause-groups
returns-clause-groups c =
    let is = ap (λ (f : Facts). f.key) (c.facts.view_is ∙ c.facts-facts.ensures) in
    let apart = other_key _ _ c.in-Some.key (entry_of c.args.entry).key (sym c.eq.ensures ∙ c.if-eq.false) refl is in
    appended_apart c.args.groups.now.items c.push-2.new.self.items c.push-3.new.self.items c.pop.new.self.items (c.in-Some.key, c.in-Some.captures) c.in_ok-group_of-2.field-0 (entry_of c.args.entry) c.in_ok-group_of-2.ensures.key apart c.requires.groups c.requires.last c.in-Some.ensures.items c.in_ok-push-3.ensures.items
    c.in_ok-push-4.ensures.items c.in_ok-group_of-2.ensures.group
