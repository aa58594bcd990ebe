use Rattle.http_head.specs.HeadReading.{IsOpen}
use Rattle.case_messages.proofs.heads.collected.Given as goal

abbrev pub invariant-loop-piece : goal.invariant-loop-piece
invariant-loop-piece l = IsOpen l.reader
