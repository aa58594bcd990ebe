-- Each event so far can come.
use Rattle.std.proofs.Common.{All}
use Rattle.event_core.specs.Events.{CanCome}
use Rattle.case_events.proofs.events.events_in.Given as goal

abbrev pub invariant-loop-step : goal.invariant-loop-step
invariant-loop-step l = record {
  come : All CanCome l.events.items;
}
