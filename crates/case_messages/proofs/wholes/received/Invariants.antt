use Rattle.std.proofs.Common.{◌≡◌}
use Rattle.case_messages.proofs.wholes.received.Given as goal

abbrev pub invariant-loop-piece : goal.invariant-loop-piece
invariant-loop-piece l = l.reader.answers_head ≡ l.answers_head
