use Rattle.std.proofs.Common.{◌≡◌, ◌++◌, ◌∷◌, ap, subst, sym, ◌∙◌}
use Rattle.std.specs.Prelude.{IfOk}
use Rattle.std.specs.BTreeMap.{get}
use Rattle.std.specs.Ordering.{nat_cmp}
use Rattle.index_entry.specs.Facts.{Facts}
use Rattle.cdxj_index.specs.Groups.{AreGroups}
use Rattle.cdxj_index.specs.Maps.{AreNumbers, by_numbers, entry_of, shown_all, values_shown}
use Rattle.index_entry.specs.Queries.{IsIndex}
use Rattle.cdxj_index.proofs.Built.{all_taken, held_next, next_behind, next_taken}
use Rattle.cdxj_index.proofs.Calls.{is_index}
use Rattle.cdxj_index.proofs.Grouped.{AreGroups-none}
use Rattle.cdxj_index.proofs.index.Index.again.Goals as goal

pub loop-entry-init : goal.loop-entry-init
loop-entry-init c = (
  subst AreGroups (sym c.new-groups.ensures.items) AreGroups-none,
  ap values_shown c.in_ok-numbers.ensures.items ∙ sym (ap (λ gs. by_numbers (shown_all gs)) c.new-groups.ensures.items),
  ap (λ gs. shown_all gs ++ c.into_iter-entry-iterator.result) c.new-groups.ensures.items ∙ c.into_iter-entry-iterator.ensures.into_iter_gives ∙ c.all-entry-items.ensures ∙ c.self.view_is,
)

pub put_last-requires-clause-last : goal.put_last-requires-clause-last
put_last-requires-clause-last c other h =
    let numbers = subst (λ es. AreNumbers es c.self.inside.numbers) c.self.view_is c.self.invariant.of_numbers in
    let number = ap (λ (f : Facts). f.number) c.entry.view_is in
    let found = ap (λ n. get nat_cmp c.self.inside.numbers n) (sym number) ∙ sym c.in-Some-get.ensures.value in
    let next = held_next c.args.self.now c.self.inside.numbers (shown_all c.loop-entry.groups.items) c.loop-entry.entry-iterator c.next.new.self c.in-Some.entry.now c.in-Some-get.shared.now numbers c.loop-entry.invariant.2 c.in-Some.ensures.steps found in
    let own : entry_of c.in_ok-share.field-0 ≡ c.in-Some.entry.now = c.in_ok-share.ensures ∙ next in
    let steps = c.in-Some.ensures.steps ∙ ap (λ e. e ∷ c.next.new.self) (sym own) in
    let index = subst IsIndex c.self.view_is (is_index c.self.inside.map.keys c.self.inside.numbers c.self.invariant) in
    next_behind (shown_all c.loop-entry.groups.items) c.loop-entry.entry-iterator c.next.new.self c.args.self.now (entry_of c.in_ok-share.field-0) other index c.loop-entry.invariant.2 steps h

pub loop-entry-preserved : goal.loop-entry-preserved
loop-entry-preserved c =
    let numbers = subst (λ es. AreNumbers es c.self.inside.numbers) c.self.view_is c.self.invariant.of_numbers in
    let number = ap (λ (f : Facts). f.number) c.entry.view_is in
    let found = ap (λ n. get nat_cmp c.self.inside.numbers n) (sym number) ∙ sym c.in-Some-get.ensures.value in
    let next = held_next c.args.self.now c.self.inside.numbers (shown_all c.loop-entry.groups.items) c.loop-entry.entry-iterator c.next.new.self c.in-Some.entry.now c.in-Some-get.shared.now numbers c.loop-entry.invariant.2 c.in-Some.ensures.steps found in
    let own : entry_of c.in_ok-share.field-0 ≡ c.in-Some.entry.now = c.in_ok-share.ensures ∙ next in
    let steps = c.in-Some.ensures.steps ∙ ap (λ e. e ∷ c.next.new.self) (sym own) in (
      c.in_ok-put_last.ensures.groups,
      c.in_ok-put_last.ensures.numbers,
      next_taken (shown_all c.loop-entry.groups.items) (shown_all c.put_last.new.groups.items) c.loop-entry.entry-iterator c.next.new.self c.args.self.now (entry_of c.in_ok-share.field-0) c.loop-entry.invariant.2 steps c.in_ok-put_last.ensures.shown,
    )

pub of_parts-requires-clause-index : goal.of_parts-requires-clause-index
of_parts-requires-clause-index c =
    let index = subst IsIndex c.self.view_is (is_index c.self.inside.map.keys c.self.inside.numbers c.self.invariant) in
    let all = all_taken (shown_all c.loop-entry.groups.items) c.loop-entry.entry-iterator c.args.self.now c.loop-entry.invariant.2 c.in-None.ensures.steps.0 in
    subst IsIndex (sym all) index

pub returns : goal.returns
returns c =
    let all = all_taken (shown_all c.loop-entry.groups.items) c.loop-entry.entry-iterator c.args.self.now c.loop-entry.invariant.2 c.in-None.ensures.steps.0 in
    subst (λ es. IfOk c.of_parts.result (λ index. index ≡ es)) all c.of_parts.ensures
