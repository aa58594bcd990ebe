use Rattle.archive_shelf.proofs.ComparingLaws as laws
use Rattle.archive_shelf.proofs.laws.first_keeps_its_wire.Goals as goal

pub returns : goal.returns
returns c = laws.first_keeps_its_wire
