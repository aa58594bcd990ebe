use Rattle.std.proofs.Common.{◌≡◌, take}
use Rattle.vault_lists.proofs.finding.all_copied.Given as goal

abbrev pub invariant-loop-shared : goal.invariant-loop-shared
invariant-loop-shared l = l.entries.items ≡ take l.shared-index l.taken
