-- While nothing has come the input is as it was, and the buffer keeps its length.
use Rattle.std.proofs.Common.{◌≡◌, length}
use Rattle.system_network.proofs.Inputs.{IsStill}
use Rattle.system_network.proofs.streams.EndingInput.read_when_there.Given as goal

abbrev pub invariant-loop : goal.invariant-loop
invariant-loop g l = (length l.into ≡ length l.initial.into) × IsStill l.counter l.initial.self l.self
