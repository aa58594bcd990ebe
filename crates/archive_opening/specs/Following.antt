-- What a scan has read was gathered.
use Rattle.std.specs.Prelude.{ℕ, ◌≡◌, ◌≢◌, ◌+◌, ◌-◌, ◌^◌, ◌<◌, Bool, true, false, IsTrue, List, [], length, slice_index_or, None}
use Rattle.capture.specs.Captures.{captures}
use Rattle.disk_model.specs.declared.disk.Disk.{Ghosts}
use Rattle.volume_scan.specs.Scannings.{captures_of, file_count, files_in, position_of, texts as texts_read}
use Rattle.volume_scan.specs.declared.position.Stage.TheVariants.{Done, Skipped}
use Rattle.volume_scan.specs.declared.scanning.Scanning.{Scanning}
use Rattle.warc_journal.specs.Texts.{Hold}
use Rattle.archive_volumes.specs.Held.{book_of}
use Rattle.archive_gathering.specs.declared.gathered.Gathered.{Gathered}
use Rattle.archive_gathering.specs.Gathering.{IsGathered, IsSteady}

-- What a scan has read was gathered.
pub record Follows {D : Type 0} (d : Ghosts D) (scanning : Scanning D) (g : Gathered) : Type 0 where
  pub texts : List (List ℕ)
  pub gathered : IsGathered None g texts
  pub volumes : (position_of scanning).extent.volumes ≡ length texts
  pub none : length texts ≡ 0 → (position_of scanning).extent.end ≡ 0
  pub ends : (k : ℕ) → k + 1 ≡ length texts → (position_of scanning).extent.end ≡ length (slice_index_or texts k [])
  pub count : captures_of scanning ≡ length (captures (book_of g.held))
  pub namespace : 0 < length texts → (position_of scanning).namespace ≡ (book_of g.held).namespace
  pub whole : (position_of scanning).stage ≢ Skipped
  pub read : IsTrue d.tells → texts_read d scanning ≡ texts

-- All was gathered: the files hold just these texts, where the disk tells.
pub record HasAll {D : Type 0} (d : Ghosts D) (scanning : Scanning D) (g : Gathered) : Type 0 where
  pub follows : Follows d scanning g
  pub held : IsTrue d.tells → Hold follows.texts (files_in d scanning)

-- how many volumes and captures may still be found
abbrev pub left : {D : Type 0} → Scanning D → ℕ
left scanning = (file_count scanning - (position_of scanning).extent.volumes) + (2 ^ 32 - captures_of scanning)

-- what one step more says: there may be more, or all was gathered
abbrev pub ReadsOn : {D : Type 0} → Ghosts D → Scanning D → Scanning D → Gathered → Bool → Type 0
ReadsOn d old new g true = Follows d new g × IsSteady g × (left new < left old)
ReadsOn d old new g false = HasAll d new g × ((position_of new).stage ≡ Done) × IsSteady g
