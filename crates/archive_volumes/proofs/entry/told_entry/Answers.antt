use Rattle.archive_volumes.proofs.entry.told_entry.Goals as goal

pub returns : goal.returns
returns c = c.entry_with.ensures
