-- What a check of an archive's volumes has made of the first of them.
use Rattle.std.specs.Prelude.{◌≡◌, ◌+◌, ◌<◌, ◌^◌, Bool, List, ◌++◌, length, map, All, IsTrue, Result, Ok, Err, ⊤}
use Rattle.std.specs.List.{list_any}
use Rattle.archive_volumes.specs.declared.volume_facts.VolumeFacts.{VolumeFacts}
use Rattle.disk_model.specs.Image.{Image, file_count}
use Rattle.disk_model.specs.declared.kind.Kind.TheVariants.{Warc}
use Rattle.fixity.specs.declared.fault.FixityFault.{FixityFault}
use Rattle.fixity.specs.declared.fault.FixityFault.TheVariants.{DiskFault, Memory}
use Rattle.verifying.specs.Verifies.{Checked, IsRight, is_damaged, lines_of}
use Rattle.verifying.specs.declared.plan.Plan.{Plan}
use Rattle.verifying.specs.declared.report.Report.{Report}

-- the number behind the last capture of a volume can be written down
abbrev pub IsSmall : VolumeFacts → Type 0
IsSmall facts = facts.first + facts.count < 2 ^ 32

-- its file is there
abbrev pub IsThere : Image → VolumeFacts → Type 0
IsThere image facts = facts.volume < file_count image Warc

-- so many workers can check volumes, the numbers of whose captures can be written down
pub record IsPlan (plan : Plan) : Type 0 where
  pub some : 0 < plan.workers
  pub few : plan.workers < 17
  pub small : All IsSmall plan.volumes.items

-- all volumes but these were checked, in order, and their lines stand in the report
pub record HasChecked (tells : Bool) (image : Image) (plan : Plan) (rest : List VolumeFacts) (report : Report) : Type 0 where
  pub checked : List Checked
  pub front : map (λ (c : Checked). c.facts) checked ++ rest ≡ plan.volumes.items
  pub right : IsTrue tells → All (IsRight plan.namespace (length plan.volumes.items) image) checked
  pub lines_are : report.lines.items ≡ lines_of checked
  pub damaged_is : report.damaged ≡ list_any (λ (c : Checked). is_damaged c.verdict) checked

-- all but these were, or the disk failed behind the first of them, or there was no memory
abbrev pub ChecksUpTo : Bool → Image → Plan → List VolumeFacts → Report → Result ⊤ FixityFault → Type 0
ChecksUpTo tells image plan rest report (Ok done) = HasChecked tells image plan rest report
ChecksUpTo tells image plan rest report (Err DiskFault) = (unchecked : List VolumeFacts) × HasChecked tells image plan unchecked report
ChecksUpTo tells image plan rest report (Err Memory) = ⊤
