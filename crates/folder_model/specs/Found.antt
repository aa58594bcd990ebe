-- What is found where a folder may be.
use Rattle.std.specs.Prelude.{◌≡◌, false, IsTrue, Option, Some, None, IfSome, []}
use Rattle.folder_model.specs.Folder.{Contents, FolderPast, contents_of, MayLeave}

-- a folder that was just made: it has no files, and a crash may leave none
abbrev pub just_made : FolderPast
just_made = record { first = λ name. None; there = false; deeds = [] }

-- a folder was made where there was none
abbrev pub IsMadeThere : Option FolderPast → Option FolderPast → Type 0
IsMadeThere old new = (old ≡ None) × (new ≡ Some just_made)

-- the files that are there: none without a folder
abbrev pub contents_found : Option FolderPast → Contents
contents_found None name = None
contents_found (Some past) name = contents_of past name

-- all that there is is on the disk, and nothing was done since
abbrev pub IsAllOnDisk : FolderPast → Type 0
IsAllOnDisk past = IsTrue past.there × (past.deeds ≡ [])

-- What is found once the machine was started again behind a crash: what that may leave, and all of it is on the disk.
abbrev pub IsFoundAfterCrash : Option FolderPast → Option FolderPast → Type 0
IsFoundAfterCrash None new = new ≡ None
IsFoundAfterCrash (Some past) new = MayLeave past (contents_found new) × IfSome new IsAllOnDisk
