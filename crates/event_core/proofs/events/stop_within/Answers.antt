-- A store, and a stop behind it.
use Rattle.std.proofs.Common.{refl}
use Rattle.event_core.proofs.FaultLaws.{rose_past}
use Rattle.event_core.proofs.StopLaws.{if_err, if_ok, within_ends, within_goes}
use Rattle.event_core.proofs.events.stop_within.Goals as goal

pub stop_event-requires-clause-stands : goal.stop_event-requires-clause-stands
stop_event-requires-clause-stands c = λ so.
    let at = c.requires.stands so in
    let to = c.store_event-answer.ensures.goes_on refl c.args.opening.now.limits c.args.opening.now.namespace at.was at.stands in
    record { was = to.is; stands = to.stands }

pub returns-clause-goes_on : goal.returns-clause-goes_on
returns-clause-goes_on c = if_ok _ _ c.stop_event.result
    (λ next goes calls so. within_goes c.args.opening.now.limits c.args.opening.now.namespace _ _ c.args.taken.now c.store_event-answer.result c.args.choice
    (c.store_event-answer.ensures.goes_on refl c.args.opening.now.limits c.args.opening.now.namespace) _ next.1 (goes so) calls)
    c.stop_event.ensures.goes_on

pub returns-clause-refused : goal.returns-clause-refused
returns-clause-refused c = if_err _ _ c.stop_event.result
    (λ refused ends calls so. within_ends c.args.opening.now.limits c.args.opening.now.namespace _ _ c.args.taken.now c.store_event-answer.result c.args.choice
    (c.store_event-answer.ensures.goes_on refl c.args.opening.now.limits c.args.opening.now.namespace) refused.0 _ (ends so) calls)
    c.stop_event.ensures.refused

pub returns-clause-rose : goal.returns-clause-rose
returns-clause-rose c = if_ok _ _ c.stop_event.result
    (λ next rose. rose_past _ _ _ _ _ c.store_event-answer.ensures.faults rose)
    c.stop_event.ensures.rose

pub returns-clause-faults : goal.returns-clause-faults
returns-clause-faults c = if_err _ _ c.stop_event.result
    (λ refused rose. rose_past _ _ _ _ _ c.store_event-answer.ensures.faults rose)
    c.stop_event.ensures.faults
