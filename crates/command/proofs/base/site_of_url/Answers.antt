-- The host of a URL is ASCII.
use Rattle.command.proofs.HostTexts.{IsAscii-host_of}
use Rattle.command.proofs.base.site_of_url.Goals as goal

pub from_str-requires-2 : goal.from_str-requires-2
from_str-requires-2 c = rw c.host_of.ensures (IsAscii-host_of c.args.url.now c.port.ensures.valid)
