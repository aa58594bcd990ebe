use Rattle.std.proofs.Common.{sym, subst}
use Rattle.std.specs.Prelude.{IfErr, IfOk, IsTrue, is_some}
use Rattle.disk_model.specs.Device.{reading_of}
use Rattle.disk_model.specs.contracts.memory_disk.MemoryDiskDisk.TheImpl.{ghosts}
use Rattle.archive_core.specs.Told.{told_of}
use Rattle.archive_core.specs.Holdings.{Holdings}
use Rattle.disk_model.specs.declared.memory_disk.MemoryDisk.{MemoryDisk}
use Rattle.event_core.proofs.StopLaws.{fused_ends, fused_goes, fused_stands, if_err, if_ok}
use Rattle.event_core.specs.declared.event.Event.{Event}
use Rattle.event_core.specs.declared.event.Event.TheVariants as events
use Rattle.event_core.specs.steps.Standing.{EndsBy, GoesOn, IsStanding}
use Rattle.event_core.proofs.events.take_event.Goals as goal

pub stop_within-requires-clause-stands : goal.stop_within-requires-clause-stands
stop_within-requires-clause-stands c = λ so.
    let at = c.requires.stands so in
    subst (λ (h : Holdings MemoryDisk). IsStanding c.args.opening.now.limits c.args.opening.now.namespace (told_of ghosts h)) (sym c.fused.ensures)
    (record {
      was = at.was;
      stands = fused_stands c.args.opening.now.limits c.args.opening.now.namespace c.args.archive c.in-StopWithin.calls at.was at.stands;
    })

pub returns-in-Stop-clause-refused : goal.returns-in-Stop-clause-refused
returns-in-Stop-clause-refused c =
    subst (λ (event : Event). IfErr c.stop_event.result
    (λ refused. IsTrue (is_some c.args.opening.now.first.value) → EndsBy c.args.opening.now.limits c.args.opening.now.namespace (told_of ghosts c.args.archive) event refused.0 (reading_of refused.1)))
    (sym c.in-Stop.is) c.stop_event.ensures.refused

pub returns-in-StopWithin-clause-goes_on : goal.returns-in-StopWithin-clause-goes_on
returns-in-StopWithin-clause-goes_on c =
    subst (λ (event : Event). IfOk c.stop_within.result
    (λ next. IsTrue (is_some c.args.opening.now.first.value) → GoesOn c.args.opening.now.limits c.args.opening.now.namespace (told_of ghosts c.args.archive) (told_of ghosts next.0) event next.1))
    (sym c.in-StopWithin.is)
    (if_ok _ _ c.stop_within.result
    (λ next goes so. fused_goes c.args.opening.now.limits c.args.opening.now.namespace c.args.archive c.in-StopWithin.calls c.fused.result c.fused.ensures
    (told_of ghosts next.0) (events.StopWithin c.in-StopWithin.taken c.in-StopWithin.calls c.in-StopWithin.choice) next.1 (goes c.in-StopWithin.calls so))
    c.stop_within.ensures.goes_on)

pub returns-in-StopWithin-clause-refused : goal.returns-in-StopWithin-clause-refused
returns-in-StopWithin-clause-refused c =
    subst (λ (event : Event). IfErr c.stop_within.result
    (λ refused. IsTrue (is_some c.args.opening.now.first.value) → EndsBy c.args.opening.now.limits c.args.opening.now.namespace (told_of ghosts c.args.archive) event refused.0 (reading_of refused.1)))
    (sym c.in-StopWithin.is)
    (if_err _ _ c.stop_within.result
    (λ refused ends so. fused_ends c.args.opening.now.limits c.args.opening.now.namespace c.args.archive c.in-StopWithin.calls c.fused.result c.fused.ensures
    (events.StopWithin c.in-StopWithin.taken c.in-StopWithin.calls c.in-StopWithin.choice) refused.0 (reading_of refused.1) (ends c.in-StopWithin.calls so))
    c.stop_within.ensures.refused)
