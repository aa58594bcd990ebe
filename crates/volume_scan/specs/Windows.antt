-- A part of a file, as it was read.
use Rattle.std.specs.Prelude.{◌≡◌, ◌≤◌, ℕ, ◌+◌, List, drop, length, take}
use Rattle.volume_scan.specs.Unread.{file_at}
use Rattle.volume_scan.specs.declared.window.Window.{Window}

-- it lies inside the file
abbrev pub IsInside : Window → Type 0
IsInside window = window.from + length window.bytes.items ≤ window.len

-- what it shows stands in the file
pub record Shows (window : Window) (files : List (List ℕ)) : Type 0 where
  pub len : window.len ≡ length (file_at files window.file)
  pub shown : window.bytes.items ≡ take (length window.bytes.items) (drop window.from (file_at files window.file))
