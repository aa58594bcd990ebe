use Rattle.std.proofs.Common.{ap, sym, ◌∙◌}
use Rattle.index_entry.specs.Facts.{Facts}
use Rattle.index_entry.specs.Queries.{with_number}
use Rattle.cdxj_index.proofs.Calls.{added, undone}
use Rattle.cdxj_index.proofs.index.Index.add_shared.Goals as goal

pub invariant_of-self-else-is_err : goal.invariant_of-self-else-is_err
invariant_of-self-else-is_err c =
    (added c.self.inside.map.keys c.insert-2.new.self.keys c.self.inside.numbers c.insert.new.self c.in_ok-shared.shared c.into_shared-entry.result c.args.entry c.number_of-number.result c.in_ok-insert.field-0 c.args.self.now c.insert-2.result (c.in_ok-shared.ensures ∙ c.into_shared-entry.ensures) c.into_shared-entry.ensures (c.number_of-number.ensures.number ∙ ap (λ (f : Facts). f.number) (c.facts.ensures ∙ c.into_shared-entry.ensures)) c.self.invariant c.self.view_is c.requires c.insert-2.ensures.keys (sym c.is_err.ensures.value ∙ c.if-is_err.false) c.insert-2.ensures.ok c.in_ok-insert.ensures.old c.in_ok-insert.ensures.updates c.in_ok-insert.ensures.len).0

pub invariant_of-self-then-is_err : goal.invariant_of-self-then-is_err
invariant_of-self-then-is_err c =
    (undone c.self.inside.map.keys c.insert-2.new.self.keys c.self.inside.numbers c.insert.new.self c.remove.new.self c.number_of-number.result c.in_ok-shared.shared c.in_ok-insert.field-0 c.remove.result c.args.self.now c.insert-2.result c.self.invariant c.self.view_is (ap (λ n. with_number n c.args.self.now) (c.number_of-number.ensures.number ∙ ap (λ (f : Facts). f.number) (c.facts.ensures ∙ c.into_shared-entry.ensures)) ∙ c.requires) c.insert-2.ensures.keys (sym c.is_err.ensures.value ∙ c.if-is_err.true) c.insert-2.ensures.err c.in_ok-insert.ensures.old c.in_ok-insert.ensures.updates c.in_ok-insert.ensures.len c.remove.ensures.value c.remove.ensures.updates c.remove.ensures.len).0

pub returns-clause-ok : goal.returns-clause-ok
returns-clause-ok c =
    (added c.self.inside.map.keys c.insert-2.new.self.keys c.self.inside.numbers c.insert.new.self c.in_ok-shared.shared c.into_shared-entry.result c.args.entry c.number_of-number.result c.in_ok-insert.field-0 c.args.self.now c.insert-2.result (c.in_ok-shared.ensures ∙ c.into_shared-entry.ensures) c.into_shared-entry.ensures (c.number_of-number.ensures.number ∙ ap (λ (f : Facts). f.number) (c.facts.ensures ∙ c.into_shared-entry.ensures)) c.self.invariant c.self.view_is c.requires c.insert-2.ensures.keys (sym c.is_err.ensures.value ∙ c.if-is_err.false) c.insert-2.ensures.ok c.in_ok-insert.ensures.old c.in_ok-insert.ensures.updates c.in_ok-insert.ensures.len).1

pub returns-then-is_err-clause-err : goal.returns-then-is_err-clause-err
returns-then-is_err-clause-err c =
    (undone c.self.inside.map.keys c.insert-2.new.self.keys c.self.inside.numbers c.insert.new.self c.remove.new.self c.number_of-number.result c.in_ok-shared.shared c.in_ok-insert.field-0 c.remove.result c.args.self.now c.insert-2.result c.self.invariant c.self.view_is (ap (λ n. with_number n c.args.self.now) (c.number_of-number.ensures.number ∙ ap (λ (f : Facts). f.number) (c.facts.ensures ∙ c.into_shared-entry.ensures)) ∙ c.requires) c.insert-2.ensures.keys (sym c.is_err.ensures.value ∙ c.if-is_err.true) c.insert-2.ensures.err c.in_ok-insert.ensures.old c.in_ok-insert.ensures.updates c.in_ok-insert.ensures.len c.remove.ensures.value c.remove.ensures.updates c.remove.ensures.len).1
