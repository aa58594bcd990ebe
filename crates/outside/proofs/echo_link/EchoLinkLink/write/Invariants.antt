use Rattle.std.proofs.Common.{◌≡◌, ◌++◌, take}
use Rattle.outside.specs.EchoLink.{Echoes}
use Rattle.outside.proofs.echo_link.EchoLinkLink.write.Given as goal

-- so many bytes were taken, and nothing else changed but what is left to give
abbrev pub invariant-taking : goal.invariant-taking
invariant-taking l = record {
  same : l.self ≡ record l.fn.self {
    traffic = record l.fn.self.traffic { taken = l.fn.self.traffic.taken ++ take l.n l.piece };
    left = l.self.left;
  };
  echoes : Echoes l.self;
}
