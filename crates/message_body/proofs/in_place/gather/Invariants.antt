use Rattle.std.proofs.Common.{◌≡◌, ◌-◌, length}
use Rattle.message_body.proofs.InPlaceLaws.{GoesOn}
use Rattle.message_body.proofs.in_place.gather.Given as goal

abbrev pub invariant-chunks : goal.invariant-chunks
invariant-chunks l =
    record {
      goes : GoesOn l.fn.bytes l.bytes l.len l.at;
      long : length l.bytes ≡ length l.fn.bytes;
    }

abbrev pub decreases-chunks : goal.decreases-chunks
decreases-chunks l = length l.bytes - l.at
