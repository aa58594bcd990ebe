use Rattle.std.proofs.Common.{ap, sym, ◌∙◌}
use Rattle.index_entry.specs.Facts.{Facts}
use Rattle.index_entry.specs.Order.{without}
use Rattle.cdxj_index.proofs.Calls.{taken, taken_nothing}
use Rattle.cdxj_index.proofs.index.Index.take_back.Goals as goal

pub invariant_of-self : goal.invariant_of-self
invariant_of-self c =
    (taken c.self.inside.map.keys c.remove-in-Some.new.self.keys c.self.inside.numbers c.remove.new.self c.args.number c.in-Some.taken c.facts-entry.result.now c.entry.inside.key c.moment.result c.args.self.now (sym c.facts-entry.ensures) (ap (λ (f : Facts). f.key) c.entry.view_is) c.moment.ensures.value c.self.invariant c.self.view_is c.in-Some.ensures.value c.remove-in-Some.ensures.keys c.remove-in-Some.ensures.taken c.in-Some.ensures.updates c.in-Some.ensures.len).0

pub returns-in-Some : goal.returns-in-Some
returns-in-Some c =
    (taken c.self.inside.map.keys c.remove-in-Some.new.self.keys c.self.inside.numbers c.remove.new.self c.args.number c.in-Some.taken c.facts-entry.result.now c.entry.inside.key c.moment.result c.args.self.now (sym c.facts-entry.ensures) (ap (λ (f : Facts). f.key) c.entry.view_is) c.moment.ensures.value c.self.invariant c.self.view_is c.in-Some.ensures.value c.remove-in-Some.ensures.keys c.remove-in-Some.ensures.taken c.in-Some.ensures.updates c.in-Some.ensures.len).1

pub returns-in_default : goal.returns-in_default
returns-in_default c =
    taken_nothing c.self.inside.map.keys c.self.inside.numbers c.args.number c.self.invariant c.in_default.ensures.value ∙ ap (without c.args.number) c.self.view_is
