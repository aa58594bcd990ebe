-- Reads in turns keep what is known of the link's end and failure, and the buffer its length.
use Rattle.std.proofs.Common.{◌≡◌, length}
use Rattle.tcp_links.proofs.tcp.link.TcpLink.read_request.Given as goal

abbrev pub invariant-loop : goal.invariant-loop
invariant-loop g l =
    (length l.into ≡ length l.initial.into) × (l.self.ended ≡ l.initial.self.ended) × (l.self.failed ≡ l.initial.self.failed)
