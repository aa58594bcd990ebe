-- The book of the state that is named.
use Rattle.event_core.specs.Running.{first_book}
use Rattle.event_core.proofs.run.run_events.Given as goal

abbrev pub ghost-told_by : goal.ghost-told_by
ghost-told_by g a = first_book g.start
