-- Each member of the crew may have the archive, with its disk, in a thread of its own.
use denote.Param.Send.{sendable}
use Rattle.std.proofs.Crossing.{crosses}
use Rattle.real_outside.proofs.Moving.{system_disk_send}
use Rattle.memproxy.proofs.main.Goals as goal

pub run-requires-send-D : goal.run-requires-send-D
run-requires-send-D c κs = search (sendable, crosses, system_disk_send) depth 20
