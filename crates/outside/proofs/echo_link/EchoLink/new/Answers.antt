use Rattle.outside.proofs.Echoes.{IsEcho-new}
use Rattle.outside.proofs.echo_link.EchoLink.new.Goals as goal

pub invariant_of-result : goal.invariant_of-result
invariant_of-result c = rw (c.new.ensures.items, c.new-3.ensures, c.new-2.ensures.items) IsEcho-new
