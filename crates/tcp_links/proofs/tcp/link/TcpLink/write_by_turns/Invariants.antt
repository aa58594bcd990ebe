-- Writes in turns keep what is known of the link's end and failure.
use Rattle.std.proofs.Common.{◌≡◌}
use Rattle.tcp_links.proofs.tcp.link.TcpLink.write_by_turns.Given as goal

abbrev pub invariant-loop : goal.invariant-loop
invariant-loop g l = (l.self.ended ≡ l.initial.self.ended) × (l.self.failed ≡ l.initial.self.failed)
