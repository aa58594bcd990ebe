-- The archive stood where the book with which the run began was named.
use Rattle.std.specs.Prelude.{is_some}
use Rattle.event_core.proofs.stopping.reopen.Given as goal

abbrev pub ghost-told_by : goal.ghost-told_by
ghost-told_by a = is_some a.from.now.value
