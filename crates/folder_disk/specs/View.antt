-- What contracts see of a disk over a folder.
use Rattle.folder_disk.specs.Kept.{Kept}
use Rattle.folder_disk.specs.Standing.{held_at}
use Rattle.folder_disk.specs.declared.folder_disk.FolderDisk.TheInside.{Inside}

abbrev pub kept_of : {S N F T P : Type 0} → Inside S N F T P → Kept F
kept_of disk = record { held = held_at disk.standing; faults = disk.faults }
