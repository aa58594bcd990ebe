use Rattle.std.proofs.Common.{◌≡◌, ◌+◌, ◌≤◌, length}
use Rattle.capture.specs.Head as head
use Rattle.http_head.proofs.lines.line_ends_len.Given as goal

abbrev pub invariant-loop-rest : goal.invariant-loop-rest
invariant-loop-rest l = record {
  fits : length l.rest ≤ length l.stream;
  counted : head.line_ends_len l.stream + length l.rest ≡ length l.stream + head.line_ends_len l.rest;
}

abbrev pub decreases-loop-rest : goal.decreases-loop-rest
decreases-loop-rest l = length l.rest
