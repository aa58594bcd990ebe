use Rattle.event_core.proofs.HoldLaws as laws
use Rattle.event_core.proofs.laws.disks_hold_what_is_acknowledged.Goals as goal

pub returns : goal.returns
returns c = laws.disks_hold
