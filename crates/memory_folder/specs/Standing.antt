-- How sure it is that something is on the disk.
use Rattle.std.specs.Prelude.{Bool, true, false}
use Rattle.memory_folder.specs.declared.standing.Standing.{Standing}
use Rattle.memory_folder.specs.declared.standing.Standing.TheVariants.{Fresh, Sure, Doubtful}

abbrev pub is_sure : Standing → Bool
is_sure Fresh = false
is_sure Sure = true
is_sure Doubtful = false

-- after a sync, done or failed: it answers for what wasn't synced yet and for nothing else
abbrev pub after_sync : Bool → Standing → Standing
after_sync true Fresh = Sure
after_sync false Fresh = Doubtful
after_sync done Sure = Sure
after_sync done Doubtful = Doubtful
