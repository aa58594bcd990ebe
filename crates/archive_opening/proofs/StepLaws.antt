-- What one step of an opening says, by what the scan found and what was gathered of it.
use Rattle.std.proofs.Common.{◌≡◌, ℕ, ◌-◌, ◌^◌, ◌<◌, Bool, IsTrue, List, length, Result, Ok, Err, OnOk, sym, ap, subst, ◌∙◌, arith}
use Rattle.std.specs.Prelude.{IfErr, IfOk, None}
use Rattle.capture.specs.Captures.{captures}
use Rattle.disk_model.specs.declared.disk.Disk.{Ghosts}
use Rattle.disk_model.specs.declared.kind.Kind.{Kind}
use Rattle.disk_model.specs.declared.kind.Kind.TheVariants.{Warc}
use Rattle.volume_scan.specs.Books.{DamagedFilesStandForNoBook, FilesBeginWithWhatWasRead}
use Rattle.volume_scan.specs.Scannings.{Finds, GoesOnWith, IsInPlace, captures_of, disk_of, file_count, files_in, position_of}
use Rattle.volume_scan.specs.declared.found.Found.{Found}
use Rattle.volume_scan.specs.declared.found.Found.TheVariants.{Info, Group, End}
use Rattle.volume_scan.specs.declared.position.Position.{Position}
use Rattle.volume_scan.specs.declared.scanning.Scanning.{Scanning}
use Rattle.warc_journal.specs.Journals.{Rests}
use Rattle.warc_journal.specs.declared.place.Place.{Place}
use Rattle.warc_scan.specs.Groups.{IsGroup}
use Rattle.record_opening.specs.Infos.{IsInfo}
use Rattle.warc_scan.specs.declared.group.Group.{Group as GroupFound}
use Rattle.archive_shelf.specs.declared.fault.ReopenFault.{ReopenFault}
use Rattle.archive_shelf.specs.declared.fault.ReopenFault.TheVariants as faults
use Rattle.archive_opening.proofs.FollowingLaws.{damage_of_group, damage_of_volume, fewer_group, fewer_info, follows_group, follows_info, has_all, some_texts}
use Rattle.archive_gathering.specs.Gathering.{Gathers, IsRefused, IsRefusedAt, IsSteady}
use Rattle.archive_opening.specs.Following.{Follows, HasAll, ReadsOn}
use Rattle.archive_volumes.specs.Held.{book_of}
use Rattle.archive_gathering.specs.Noting.{IsGroupAt}
use Rattle.archive_opening.specs.Opening.{IsDamage, IsDamageIn, IsReadRefusal}
use Rattle.archive_gathering.specs.declared.gathered.Gathered.{Gathered}

module _ {D : Type 0} (d : Ghosts D) (old new : Scanning D) (was is : Gathered) (follows : Follows d old was) where
  -- where a group was found
  group_is : (place : Place) (group : GroupFound) (on : GoesOnWith d old new place group)
      → IsGroup (book_of was.held).namespace (length (captures (book_of was.held))) on.text group
  group_is place group on =
      subst (λ (n : List ℕ). IsGroup n (length (captures (book_of was.held))) on.text group) (follows.namespace (some_texts d old new was is follows place group on))
      (subst (λ (n : ℕ). IsGroup (position_of old).namespace n on.text group) follows.count on.is)

  pub group_at : (place : Place) (group : GroupFound) (on : GoesOnWith d old new place group) → IsGroupAt (book_of was.held) follows.texts on.text place group
  group_at place group on =
      let some = some_texts d old new was is follows place group on in
      record {
        some = some;
        is = group_is place group on;
        volume = on.volume ∙ follows.volumes;
        at = on.at ∙ follows.ends (length follows.texts - 1) (omega (arith, some));
        len = on.len;
      }

  module _ (rests : IsTrue d.tells → Rests d (disk_of old) (disk_of new)) (count : file_count new ≡ file_count old) (few : captures_of old < 2 ^ 32 - 1) where
    reads_more : (found : Found) (more : Bool) → Finds d old new found → Gathers None was is follows.texts found more → IsSteady is → ReadsOn d old new is more
    reads_more (Info volume namespace born) more one gathers steady =
        let begun = gathers.1 one.text (one.number ∙ follows.volumes) one.is in
        subst (ReadsOn d old new is) (sym gathers.0) (
          follows_info d old new was is follows volume namespace born one begun.gathered begun.count begun.namespace_is,
          steady,
          fewer_info d old new was is follows volume namespace born one count,
        )
    reads_more (Group place read) more on gathers steady =
        let taken = gathers.1 on.text (group_at place read.group on) tt in
        subst (ReadsOn d old new is) (sym gathers.0) (
          follows_group d old new was is follows place read.group on (some_texts d old new was is follows place read.group on) taken.gathered taken.count taken.namespace_is,
          steady,
          fewer_group d old new was is follows place read.group on count (omega (arith, few)),
        )
    reads_more End more ends gathers steady =
        subst (ReadsOn d old new is) (sym gathers.0) (
          subst (HasAll d new) (sym gathers.1) (has_all d old new was rests follows ends),
          ap (λ (p : Position). p.stage) ends.position,
          steady,
        )

    pub reads_by : (found : Found) (result : Result Bool ReopenFault) → Finds d old new found → IfOk result (Gathers None was is follows.texts found)
        → OnOk result (IsSteady is) → IfOk result (ReadsOn d old new is)
    reads_by found (Ok more) finds gathers steady = reads_more found more finds gathers steady
    reads_by found (Err fault) finds gathers steady = tt

  module _ (in_place : IsInPlace d old) (after : IsInPlace d new) (begin : FilesBeginWithWhatWasRead) (none : DamagedFilesStandForNoBook)
      (rests : IsTrue d.tells → Rests d (disk_of old) (disk_of new)) (told : IsTrue d.tells) where
    refused_at : (found : Found) (kind : Kind) (file place : ℕ) → Finds d old new found → kind ≡ Warc → IsRefusedAt None was follows.texts found file place
        → IsDamageIn (files_in d old) (faults.Damaged kind file place)
    refused_at (Info volume namespace born) kind file place one is_warc refused =
        let info : IsInfo (length follows.texts) one.text namespace born (length one.text) =
        subst (λ (v : ℕ). IsInfo v one.text namespace born (length one.text)) (one.number ∙ follows.volumes) one.is in
        let damage = damage_of_volume d old new was follows in_place after begin none told (rests told) volume namespace born one info
        (refused.2 one.text (one.number ∙ follows.volumes) one.is) in
        (is_warc, damage.1, subst (λ (f : ℕ). IsDamage (files_in d old) f place) (sym refused.0) (subst (IsDamage (files_in d old) volume) (sym refused.1) damage.2))
    refused_at (Group at read) kind file place on is_warc refused =
        let damage = damage_of_group d old new was follows in_place after begin none told (rests told) at read.group on (group_is at read.group on)
        (refused.2 on.text (group_at at read.group on)) in
        (is_warc, damage.1, subst (λ (f : ℕ). IsDamage (files_in d old) f place) (sym refused.0) (subst (IsDamage (files_in d old) at.volume) (sym refused.1) damage.2))
    refused_at End kind file place ends is_warc refused = absurd refused

    pub refused_by : (found : Found) (fault : ReopenFault) → Finds d old new found → IsRefused None was follows.texts found fault
        → IsReadRefusal (files_in d old) fault
    refused_by found (faults.Damaged kind file place) finds refused = refused_at found kind file place finds refused.0 refused.1
    refused_by found (faults.OtherNamespace other) finds refused = absurd refused
    refused_by found faults.DiskFault finds refused = absurd refused
    refused_by found faults.Memory finds refused = tt

  pub damage_by : IsInPlace d old → IsInPlace d new → FilesBeginWithWhatWasRead → DamagedFilesStandForNoBook
      → (IsTrue d.tells → Rests d (disk_of old) (disk_of new)) → (found : Found) (result : Result Bool ReopenFault) → Finds d old new found
      → IfErr result (IsRefused None was follows.texts found) → IfErr result (λ fault. IsTrue d.tells → IsReadRefusal (files_in d old) fault)
  damage_by in_place after begin none rests found (Ok more) finds refused = tt
  damage_by in_place after begin none rests found (Err fault) finds refused = λ told. refused_by in_place after begin none rests told found fault finds refused
