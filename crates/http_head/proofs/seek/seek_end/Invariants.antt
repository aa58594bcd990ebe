use Rattle.std.proofs.Common.{◌≡◌, ◌≢◌, ◌-◌, ◌≤◌, length, take}
use Rattle.http_head.specs.steps.HeadSeek.{seek_after}
use Rattle.http_head.specs.declared.seek.Seek.TheVariants.{Ended}
use Rattle.http_head.proofs.seek.seek_end.Given as goal

abbrev pub invariant-seeking : goal.invariant-seeking
invariant-seeking l = record {
  fits : l.used ≤ length l.piece;
  seek : l.seek ≡ seek_after l.fn.start (take l.used l.piece);
  going : l.seek ≢ Ended;
}

abbrev pub decreases-seeking : goal.decreases-seeking
decreases-seeking l = length l.piece - l.used
