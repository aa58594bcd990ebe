-- Which changes of a record are pending, and what is left of them at a stop.
use Rattle.std.specs.Prelude.{ℕ, Bool, Option, Some, None, List, [], ◌∷◌}
use Rattle.disk_model.specs.declared.change.Change.{Change}
use Rattle.disk_model.specs.Changes.{is_pending, durable_changes, torn_changes}

-- the changes of a stop where the pending ones are made for so many bytes, or not at all
abbrev pub kept_changes : Option ℕ → List Change → List Change
kept_changes None changes = durable_changes changes
kept_changes (Some budget) changes = torn_changes budget changes

-- whether each change is pending
abbrev pub pending_of : List Change → List Bool
pending_of [] = []
pending_of (change ∷ later) = is_pending change later ∷ pending_of later
