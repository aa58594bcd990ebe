-- The clock of a folder's disk as a value.
use Rattle.folder_model.specs.Times.{Times}
use Rattle.folder_model.specs.declared.timed.Timed.{Timed}

-- the moments that it keeps
abbrev pub times_of : {F T : Type 0} → Timed F T → Times
times_of timed = record { made = timed.made.value; begun = timed.begun.value }
