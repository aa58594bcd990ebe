-- Disks in a folder.
use Rattle.folder_model.specs.declared.folders.Lock.{Lock}
use Rattle.real_outside.specs.declared.real_disk.RealDisk.{RealDisk}

-- how a disk has its folder: to write, or beside others that read
abbrev pub lock_of : {R F T : Type 0} → RealDisk R F T → Lock
lock_of disk = disk.lock
