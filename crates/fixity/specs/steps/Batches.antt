-- What was read at once of the volume that is checked.
use Rattle.std.specs.Prelude.{◌≡◌, ℕ, ◌+◌, ◌≤◌, List, drop, length, take}
use Rattle.fixity.specs.declared.batch.Batch.{Batch}
use Rattle.fixity.specs.declared.due.Due.{Due}
use Rattle.fixity.specs.declared.groups.Table.{Table}

-- the number of the capture whose group is due at its front
abbrev pub number_in : Due → Batch → ℕ
number_in due batch = due.first + batch.at.before

-- its bytes stand in the file, from its place on
abbrev pub IsPart : List ℕ → Batch → Type 0
IsPart file batch = batch.bytes.items ≡ take (length batch.bytes.items) (drop batch.at.place file)

-- and it ends inside a file of this length
abbrev pub FitsIn : ℕ → Batch → Type 0
FitsIn len batch = batch.at.place + length batch.bytes.items ≤ len

-- so it is with both batches
pub record AreParts (file : List ℕ) (table : Table) : Type 0 where
  pub ready : IsPart file table.ready
  pub ahead : IsPart file table.crew.caller.ahead

pub record AllFit (len : ℕ) (table : Table) : Type 0 where
  pub ready : FitsIn len table.ready
  pub ahead : FitsIn len table.crew.caller.ahead
