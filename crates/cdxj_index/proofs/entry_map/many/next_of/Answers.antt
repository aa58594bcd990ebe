use Rattle.std.proofs.Common.{subst, sym}
use Rattle.cdxj_index.specs.declared.entry_map.captures.Captures.TheVariants.{Many}
use Rattle.cdxj_index.specs.Maps.{IsFirstAfter}
use Rattle.cdxj_index.proofs.Sides.{is_after, next_is, none_held, on_none, told_first}
use Rattle.cdxj_index.proofs.entry_map.many.next_of.Goals as goal

pub returns-in_err-entry-clause-none : goal.returns-in_err-entry-clause-none
returns-in_err-entry-clause-none c =
    on_none c.from_residual.result (λ other after.
    none_held c.args.places.now c.deref.result.now other c.deref.ensures ((c.range.ensures.in_range tt).5 c.in_err-entry.ensures.steps.0 other (is_after other c.args.time after, tt)))

pub returns-clause-some : goal.returns-clause-some
returns-clause-some c =
    let told = c.range.ensures.in_range tt in
    let moment = c.in_ok-entry.field-0-0.now in
    let shared = c.in_ok-entry.entry.now in
    let steps = c.in_ok-entry.ensures.steps in
    let there = told_first _ c.range.result c.next.new.self (moment, shared) steps told.1 in
    subst (IsFirstAfter (Many c.args.places.now) c.args.time) (sym c.facts.ensures)
    (next_is c.args.places.now c.deref.result.now c.args.time moment shared c.deref.ensures there.0.0 there.1 (λ other within some. told_first _ c.range.result c.next.new.self (moment, shared) steps (told.2 other (within, tt) some)))
