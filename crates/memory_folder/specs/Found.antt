-- Where a folder in memory is found.
use Rattle.std.specs.Prelude.{Bool, ◌==◌, Option, length}
use Rattle.std.specs.Option.{option_map}
use Rattle.folder_model.specs.Folder.{FolderPast}
use Rattle.memory_folder.specs.Past.{past_of}
use Rattle.memory_folder.specs.declared.memory_folder.MemoryFolder.{MemoryFolder}
use Rattle.memory_folder.specs.declared.memory_folders.MemoryFolders.{MemoryFolders}

-- the past of a folder, where there is one
abbrev pub past_found : Option MemoryFolder → Option FolderPast
past_found place = option_map (λ (folder : MemoryFolder). past_of folder.store) place

-- what is there: none while it is held
abbrev pub found_in : MemoryFolders → Option FolderPast
found_in folders = past_found folders.folder

-- nobody else comes
abbrev pub is_alone : MemoryFolders → Bool
is_alone folders = length folders.visits.items == 0
