-- How the program holds its archive.
use Rattle.std.specs.Prelude.{ℕ, List, [], ◌∷◌, codes, if◌then◌else◌}
use Rattle.std.specs.Str.{bytes_eq}
use Rattle.folder_model.specs.declared.folders.Lock.{Lock}
use Rattle.folder_model.specs.declared.folders.Lock.TheVariants.{Alone, Shared}

-- `check` and `verify` share it with others that read, and all else has it alone.
abbrev pub lock_of : List (List ℕ) → Lock
lock_of [] = Alone
lock_of (word ∷ words) = if bytes_eq word (codes "check") then Shared else (if bytes_eq word (codes "verify") then Shared else Alone)
