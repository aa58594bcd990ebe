use Rattle.event_core.proofs.NewLaws as laws
use Rattle.event_core.proofs.laws.new_disks_start.Goals as goal

pub returns : goal.returns
returns c = laws.new_start
