-- What the command `verify` leaves.
use Rattle.std.specs.Prelude.{◌≡◌, ◌⊎◌, ℕ, suc, Bool, true, false, if◌then◌else◌, nat_eq, List, [], ◌∷◌, ◌++◌, codes, decimal, length, map, All, IsTrue}
use Rattle.std.specs.List.{flat_map, list_any}
use Rattle.archive_core.specs.Holdings.{Holdings}
use Rattle.archive_volumes.specs.Facts.{facts_of}
use Rattle.archive_volumes.specs.declared.volume_facts.VolumeFacts.{VolumeFacts}
use Rattle.capture.specs.Faults.{Rose}
use Rattle.disk_model.specs.Image.{Image, file_of}
use Rattle.disk_model.specs.declared.disk.Disk.{Ghosts as Disks}
use Rattle.disk_model.specs.declared.kind.Kind.TheVariants.{Warc}
use Rattle.fixity.specs.Verdicts.{IsVerdict, volume_of}
use Rattle.fixity.specs.declared.verdict.Verdict.{Verdict}
use Rattle.fixity.specs.declared.verdict.Verdict.TheVariants.{Sound, Damaged}
use Rattle.httparse.specs.Ascii.{line_feed}
use Rattle.outside.specs.declared.sink.Sink.{Ghosts as Sinks}
use Rattle.archive_reopening.specs.Known.{Opening}
use Rattle.command.specs.Opening.{IsOpened}
use Rattle.command.specs.Printing.{LacksMemory, Printed, Prints}
use Rattle.command.specs.Texts.{file_name}
use Rattle.command.specs.declared.status.Status.{Status}
use Rattle.command.specs.declared.status.Status.TheVariants.{Archive, Done}

-- ---- what is printed

-- The line of a volume: how long it is where it is sound, without an unfinished tail, or where its damage begins.
unfoldable pub verdict_line : ℕ → Verdict → List ℕ
verdict_line volume (Sound bytes) = file_name Warc volume ++ codes " sound " ++ decimal bytes ++ (line_feed ∷ [])
verdict_line volume (Damaged place) = file_name Warc volume ++ codes " damaged " ++ decimal place ++ (line_feed ∷ [])

-- ---- the verdicts

-- a volume that was checked, as its archive knows it, with the verdict on its bytes
pub record Checked : Type 0 where
  pub facts : VolumeFacts
  pub verdict : Verdict

-- their lines, in order
abbrev pub lines_of : List Checked → List ℕ
lines_of checked = flat_map (λ (c : Checked). verdict_line c.facts.volume c.verdict) checked

abbrev pub is_damaged : Verdict → Bool
is_damaged (Sound bytes) = false
is_damaged (Damaged place) = true

-- the verdict is the one on the bytes of the volume's file, of so many volumes that an archive of this namespace has; behind the last one alone a tail may stand
abbrev pub IsRight : (namespace : List ℕ) → (count : ℕ) → Image → Checked → Type 0
IsRight namespace count image c =
    IsVerdict (volume_of c.facts.volume namespace c.facts.first c.facts.count (nat_eq (suc c.facts.volume) count)) (file_of image Warc c.facts.volume) c.verdict

-- ---- the command

module _ {D O : Type 0} (disks : Disks D) (sinks : Sinks O) (namespace : List ℕ) (volumes : List VolumeFacts) (was is : D) (out_was out_is : O) (status : Status) where
  -- The first of the volumes were checked, in order: the verdicts are those on the bytes that a read gives, and their lines were printed. Each was checked, and the
  -- status tells whether one is damaged; or the disk failed behind them, which was told then. Or there was no memory.
  abbrev pub ChecksVolumes : Type 0
  ChecksVolumes =
      ((checked : List Checked) × (rest : List VolumeFacts) × (map (λ (c : Checked). c.facts) checked ++ rest ≡ volumes)
      × (IsTrue disks.tells → All (IsRight namespace (length volumes) (disks.reading was)) checked)
      × (((rest ≡ []) × (disks.faults is ≡ disks.faults was)
      × Prints sinks (if list_any (λ (c : Checked). is_damaged c.verdict) checked then Archive else Done) (lines_of checked) out_was out_is status)
      ⊎ (Rose (disks.faults was) (disks.faults is) × Prints sinks Archive (lines_of checked ++ codes "disk fault\n") out_was out_is status)))
      ⊎ LacksMemory sinks out_was out_is status

-- The archive was opened, and its volumes were checked. What is due in them is told by bytes alone, whatever is known (`lined`), and a read gives what it gave.
pub record IsVerified {D O : Type 0} (disks : Disks D) (sinks : Sinks O) (opening : Opening D) (is : D) (output : Printed O) : Type 0 where
  pub held : Holdings D
  pub opened : IsOpened disks opening held
  pub reading : IsTrue disks.tells → disks.reading is ≡ disks.reading opening.disk
  pub checked : ChecksVolumes disks sinks held.book.namespace (facts_of held.book) opening.disk is output.was output.is output.status
