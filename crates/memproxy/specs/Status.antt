-- The status that the process ends with.
use Rattle.std.specs.Prelude.{ℕ}
use Rattle.command.specs.declared.Status.{Status}
use Rattle.command.specs.declared.Status.TheVariants.{Done, Words, Archive, Outside, Memory}

-- the number of a status
abbrev pub status_number : Status → ℕ
status_number Done = 0
status_number Words = 1
status_number Archive = 2
status_number Outside = 3
status_number Memory = 4
