-- The last file is there.
use Rattle.std.proofs.Common.{arith}
use Rattle.held_folder.proofs.held.Held.sync_last.Goals as goal

pub sync_found-requires-clause-there : goal.sync_found-requires-clause-there
sync_found-requires-clause-there g c = λ told. omega (arith, (c.requires.known told).knows.no_fewer c.args.kind, c.in-Some.ensures.0, c.known.ensures)
