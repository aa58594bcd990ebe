-- A range that is written anew.
use Rattle.std.specs.Prelude.{ℕ, List, length, take, drop}
use Rattle.folder_model.specs.File.{Wrote, Shortened}
use Rattle.folder_model.specs.Folder.{FolderPast, did_to, bytes_of}

-- a range of a file as it is read, which may end before
abbrev pub range_in : FolderPast → List ℕ → ℕ → ℕ → List ℕ
range_in past name at len = take len (drop at (bytes_of past name))

-- the range was written anew, and the file cut where it ends
abbrev pub written_anew : FolderPast → List ℕ → ℕ → ℕ → FolderPast
written_anew past name at len = did_to (did_to past name (Wrote at (range_in past name at len) 0)) name (Shortened (length (bytes_of past name)) 0)
