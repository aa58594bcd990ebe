-- What was taken so far leads to what follows, and each piece brings the archive nearer to its limit.
use Rattle.std.proofs.Common.{◌≡◌, [], ◌-◌, length}
use Rattle.capture.specs.Captures.{captures}
use Rattle.replica.specs.Following.{Leads}
use Rattle.replica.proofs.following.follow_source.Given as goal

abbrev pub invariant-following : goal.invariant-following
invariant-following g l =
    record {
      leads : Leads g.D.Disk l.source g.N.Link.Link.tells l.initial.archive l.archive (g.N.Dialer.links l.initial.dialer) (g.N.Dialer.links l.dialer);
      limits : l.archive.limits ≡ l.initial.archive.limits;
      faults : g.N.Dialer.faults l.dialer ≡ g.N.Dialer.faults l.initial.dialer;
      window : l.window ≡ [];
    }

abbrev pub decreases-following : goal.decreases-following
decreases-following g l = l.initial.archive.limits.captures - length (captures l.archive.book)
