use Rattle.std.proofs.Common.{All, List, [], ◌∷◌, Option, subst, sym}
use Rattle.std.specs.Prelude.{IfSome}
use Rattle.std.proofs.lemmas.List.Elements.{All-append, All-cons, All-nil}
use Rattle.event_core.specs.Events.{CanCome}
use Rattle.event_core.specs.declared.event.Event.{Event}
use Rattle.case_events.proofs.events.events_in.Goals as goal

pub loop-step-preserved : goal.loop-step-preserved
loop-step-preserved c =
    let comes : CanCome c.in-Some.event = subst (λ (found : Option Event). IfSome found CanCome) c.in-Some.is c.in_ok-event.ensures in record {
      come = subst (λ (events : List Event). All CanCome events) (sym c.in_ok-push-in-Some.ensures.items)
          (All-append CanCome c.loop-step.events.items (c.in-Some.event ∷ []) c.loop-step.invariant.come
          (All-cons CanCome c.in-Some.event [] comes (All-nil CanCome)));
    }
