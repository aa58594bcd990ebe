-- Nobody names the state in which a run begins.
use Rattle.std.specs.Prelude.{None}
use Rattle.case_events.proofs.events.events_outcome_of.Given as goal

abbrev pub ghost-run_events : goal.ghost-run_events
ghost-run_events a = None
