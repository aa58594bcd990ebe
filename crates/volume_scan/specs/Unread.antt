-- What files hold behind what was read of them.
use Rattle.std.specs.Prelude.{◌≡◌, ◌≤◌, ℕ, ◌+◌, ◌-◌, Bool, true, false, List, [], drop, length, slice_index_or, take}
use Rattle.capture.specs.Tails.{IsTail}
use Rattle.warc_journal.specs.declared.extent.Further.{Further}
use Rattle.warc_journal.specs.declared.extent.Further.TheVariants.{Absent, Empty, Unknown}
use Rattle.warc_text.specs.StandsFor.{commit_byte}
use Rattle.volume_scan.specs.declared.position.Position.{Position}

-- the bytes of the file with this number: none where it isn't there
abbrev pub file_at : List (List ℕ) → ℕ → List ℕ
file_at files k = slice_index_or files k []

-- what stands behind what was read in the file of the last volume: nothing without a volume
abbrev pub unread : Position → List (List ℕ) → List ℕ
unread position files =
    drop position.extent.end (file_at (take position.extent.volumes files) (position.extent.volumes - 1))

-- what is known of the rest of a volume's file that isn't read on: it is a tail, or there is none
abbrev pub IsBehind : Bool → List ℕ → Type 0
IsBehind false rest = rest ≡ []
IsBehind true rest = IsTail commit_byte rest

-- the same of all files behind the last volume's, of which there is one at most
abbrev pub IsFurthest : Further → ℕ → List (List ℕ) → Type 0
IsFurthest Absent volumes files = length files ≤ volumes
IsFurthest Empty volumes files = (length files ≡ volumes + 1) × (file_at files volumes ≡ [])
IsFurthest Unknown volumes files = (length files ≡ volumes + 1) × IsTail commit_byte (file_at files volumes)
