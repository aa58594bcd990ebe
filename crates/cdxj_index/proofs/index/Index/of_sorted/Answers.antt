use Rattle.std.proofs.Common.{◌≡◌, ◌<◌, ◌+◌, ◌++◌, List, Some, arith, ap, drop, subst, sym, length, ◌∙◌}
use Rattle.std.specs.Prelude.{IfOk, slice_get}
use Rattle.std.specs.Global.{Vec}
use Rattle.std.proofs.lemmas.List.{drop_all}
use Rattle.index_entry.specs.Facts.{Facts}
use Rattle.cdxj_index.specs.Groups.{AreGroups}
use Rattle.cdxj_index.specs.Maps.{by_numbers, entry_of, shown_all, values_shown}
use Rattle.index_entry.specs.Queries.{IsIndex}
use Rattle.cdxj_index.proofs.Built.{all_taken, left_from, next_behind, next_taken}
use Rattle.cdxj_index.proofs.Grouped.{AreGroups-none}
use Rattle.cdxj_index.proofs.index.Index.of_sorted.Goals as goal

pub loop-place-init : goal.loop-place-init
loop-place-init c = (
  subst AreGroups (sym c.in_ok-groups.ensures.items) AreGroups-none,
  ap values_shown c.in_ok-numbers.ensures.items ∙ sym (ap (λ gs. by_numbers (shown_all gs)) c.in_ok-groups.ensures.items),
  ap (λ gs. shown_all gs ++ drop 0 c.args.entries.items) c.in_ok-groups.ensures.items,
)

pub among-requires : goal.among-requires
among-requires c =
    subst (λ (v : Vec Facts). c.loop-place.place < length v.items) (sym c.in_ok-all.ensures.ok) (omega (arith, c.loop-place-test.true, c.in-Ok.ensures, c.len.ensures, c.args.entries.ok.0))

pub put_last-requires-clause-groups : goal.put_last-requires-clause-groups
put_last-requires-clause-groups c = c.loop-place.invariant.0

pub put_last-requires-clause-last : goal.put_last-requires-clause-last
put_last-requires-clause-last c other h =
    next_behind (shown_all c.loop-place.groups.items) (drop c.loop-place.place c.args.entries.items) (drop (c.loop-place.place + 1) c.args.entries.items) c.args.entries.items (entry_of c.in_ok-entry.entry) other c.requires c.loop-place.invariant.2
    (left_from c.args.entries.items c.loop-place.place (entry_of c.in_ok-entry.entry) (subst (λ (es : List Facts). slice_get es c.loop-place.place ≡ Some (entry_of c.in_ok-entry.entry)) (ap (λ (v : Vec Facts). v.items) c.in_ok-all.ensures.ok) c.in_ok-entry.ensures)) h

pub loop-place-preserved : goal.loop-place-preserved
loop-place-preserved c = (
  c.in_ok-put_last.ensures.groups,
  c.in_ok-put_last.ensures.numbers,
  next_taken (shown_all c.loop-place.groups.items) (shown_all c.put_last.new.groups.items) (drop c.loop-place.place c.args.entries.items) (drop (c.loop-place.place + 1) c.args.entries.items) c.args.entries.items (entry_of c.in_ok-entry.entry) c.loop-place.invariant.2
      (left_from c.args.entries.items c.loop-place.place (entry_of c.in_ok-entry.entry) (subst (λ (es : List Facts). slice_get es c.loop-place.place ≡ Some (entry_of c.in_ok-entry.entry)) (ap (λ (v : Vec Facts). v.items) c.in_ok-all.ensures.ok) c.in_ok-entry.ensures)) c.in_ok-put_last.ensures.shown,
)

pub of_parts-requires-clause-index : goal.of_parts-requires-clause-index
of_parts-requires-clause-index c =
    let none = drop_all c.loop-place.place c.args.entries.items (omega (arith, c.loop-place-test.false, c.in-Ok.ensures, c.len.ensures, c.args.entries.ok.0)) in
    let all = all_taken (shown_all c.loop-place.groups.items) (drop c.loop-place.place c.args.entries.items) c.args.entries.items c.loop-place.invariant.2 none in
    subst IsIndex (sym all) c.requires

pub returns : goal.returns
returns c =
    let none = drop_all c.loop-place.place c.args.entries.items (omega (arith, c.loop-place-test.false, c.in-Ok.ensures, c.len.ensures, c.args.entries.ok.0)) in
    let all = all_taken (shown_all c.loop-place.groups.items) (drop c.loop-place.place c.args.entries.items) c.args.entries.items c.loop-place.invariant.2 none in
    subst (λ es. IfOk c.of_parts.result (λ index. index ≡ es)) all c.of_parts.ensures
