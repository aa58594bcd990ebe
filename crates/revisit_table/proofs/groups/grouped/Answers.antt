-- The first group that is left is put behind the others.
use Rattle.std.proofs.Common.{◌++◌, sym, subst, ◌∙◌, ap, append-nil}
use Rattle.std.specs.Prelude.{All}
use Rattle.std.proofs.lemmas.List.{nil_from_length}
use Rattle.std.proofs.lemmas.List.Elements.{All-push}
use Rattle.revisit_table.specs.Groups.{HasNumbers, numbers_among}
use Rattle.revisit_table.specs.Table.{numbers_of}
use Rattle.revisit_table.proofs.GroupLemmas.{apart_with, group_filled, same_with}
use Rattle.revisit_table.proofs.groups.grouped.Goals as goal

pub groups-preserved : goal.groups-preserved
groups-preserved c =
    let was = c.groups.invariant in
    let entry = c.in-Some.first.now in
    let behind = c.in-Some.behind.now in
    let numbers = c.in_ok-numbers.numbers in
    let left = c.in_ok-numbers.left.now in
    let group = c.in_ok-numbers.ensures in
    let splits = c.in-Some.ensures.cases.0 in
    let put = c.in_ok-push.ensures.items in
    record {
      same = same_with c.args.sorted.now c.groups.rest.now behind left entry c.groups.groups.items c.push.new.self.items numbers splits put group was.apart was.same;
      apart = apart_with c.groups.rest.now behind left entry c.groups.groups.items c.push.new.self.items numbers splits put group was.apart;
      in_order = group.in_order;
      filled = subst (All HasNumbers) (sym put) (All-push HasNumbers c.groups.groups.items (entry.0, numbers) was.filled (group_filled entry.0 entry.1 behind left numbers group));
    }

pub returns-clause-same : goal.returns-clause-same
returns-clause-same c = λ digest.
    let none = nil_from_length c.groups.rest.now c.in_default.ensures.cases in
    sym (append-nil (numbers_among c.groups.groups.items digest)) ∙ ap (λ l. numbers_among c.groups.groups.items digest ++ l) (sym (ap (numbers_of digest) none)) ∙ c.groups.invariant.same digest
