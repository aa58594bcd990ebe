use Rattle.std.proofs.Common.{subst, sym}
use Rattle.cdxj_index.specs.declared.entry_map.captures.Captures.TheVariants.{Many}
use Rattle.cdxj_index.specs.Maps.{IsLastUntil}
use Rattle.cdxj_index.proofs.Sides.{is_until, last_is, none_held, on_none}
use Rattle.cdxj_index.proofs.entry_map.many.last_of.Goals as goal

pub returns-in_err-entry-clause-none : goal.returns-in_err-entry-clause-none
returns-in_err-entry-clause-none c =
    on_none c.from_residual.result (λ other fits until.
    none_held c.args.places.now c.deref.result.now other c.deref.ensures ((c.range.ensures.in_range tt).5 c.in_err-entry.ensures.steps.0 other (tt, is_until other c.args.time fits until)))

pub returns-clause-some : goal.returns-clause-some
returns-clause-some c =
    let told = c.range.ensures.in_range tt in
    let moment = c.in_ok-entry.field-0-0.now in
    let shared = c.in_ok-entry.entry.now in
    let there = told.3 (moment, shared) c.next_back.new.self c.in_ok-entry.ensures.steps in
    subst (IsLastUntil (Many c.args.places.now) c.args.time) (sym c.facts.ensures)
    (last_is c.args.places.now c.deref.result.now c.args.time moment shared c.deref.ensures there.0.1 there.1 (λ other within some. told.4 (moment, shared) c.next_back.new.self c.in_ok-entry.ensures.steps other (tt, within) some))
