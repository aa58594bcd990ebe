-- What an archive tells as a shelf.
use Rattle.disk_model.specs.declared.disk.Disk.{Ghosts}
use Rattle.warc_journal.specs.Journals.{disk_of}
use Rattle.archive_shelf.specs.Contents.{Contents}
use Rattle.archive_shelf.specs.Told.{Told}
use Rattle.archive_core.specs.Holdings.{Holdings, contents_of}
use Rattle.archive_volumes.specs.Volumes.{crash_of, muted}

-- what is told of an archive on a disk, by its contents: where they aren't told, nothing is of what may be opened
abbrev pub told_on : {D : Type 0} → Ghosts D → D → Contents → Told
told_on d disk now = record { contents = now; faults = d.faults disk; reading = d.reading disk; crash = crash_of (muted now.tells d) disk }

-- what is told of an archive
abbrev pub told_of : {D : Type 0} → Ghosts D → Holdings D → Told
told_of d held = told_on d (disk_of held.journal) (contents_of held)
