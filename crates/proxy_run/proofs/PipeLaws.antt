-- What the command `pipe` leaves.
use Rattle.std.proofs.Common.{◌≡◌, ◌⊎◌, ℕ, ◌≤◌, Bool, true, IsTrue, List, Option, sym, ap, subst, ◌∙◌, inl, inr, arith}
use Rattle.archive_core.proofs.TellingLaws.{quiet_muted}
use Rattle.archive_core.specs.Holdings.{Holdings}
use Rattle.archive_reopening.specs.Known.{by_checkpoints}
use Rattle.archive_reopening.specs.Standing.{LeavesStored}
use Rattle.archive_core.specs.Told.{told_of}
use Rattle.archive_settling.specs.Supplying.{OpensNoMore}
use Rattle.archive_shelf.specs.Openings.{StaysCovered}
use Rattle.archive_shelf.specs.Told.{GoesOn}
use Rattle.archive_shelf.specs.declared.depth.Depth.TheVariants.{Checkpoints}
use Rattle.archive_volumes.proofs.ChangeLaws.{DiskLaws}
use Rattle.archive_volumes.specs.Volumes.{OpensNear, crash_of, muted}
use Rattle.capture.specs.declared.book.Book.{Book}
use Rattle.outside.specs.Gate.{Connections}
use Rattle.command.specs.Objects.{Around, Kinds, Objects}
use Rattle.command.specs.Settling.{ClosesSettled, OpensSettled}
use Rattle.proxy_run.specs.Pipes.{HasServed, Pipes, around_in}
use Rattle.proxy_run.specs.Serving.{ServesOne, pipe_site, status_of}
use Rattle.command.specs.declared.status.Status.{Status}
use Rattle.command.specs.declared.status.Status.TheVariants.{Done, Memory, Outside}
use Rattle.command.proofs.SettlingLaws.{closed_faults, closed_opens, ready_faults, ready_opens, ready_tells, told_tells}
use Rattle.proxy_run.proofs.ConnectionLaws.{leaves_just}
use Rattle.crew.specs.Crews.{IsEnd}
use Rattle.session.specs.declared.served.Served.{Served}
use Rattle.session.specs.declared.served.Served.TheVariants as served
use Rattle.warc_journal.specs.Journals.{disk_of}

-- nothing but connections might have been gained, and none was
pub none_gained : (was : Around) (connections : Connections) → connections ≡ was.connections → record was { connections = connections } ≡ was
none_gained was connections same = ap (λ (k : Connections). record was { connections = k }) same

-- how the serving of a connection ends, over a gate that met no fault
pub ends_by : (ended : Served) (status : Status) {F : Type 0} → status ≡ status_of ended → F
    → (status ≡ Outside) ⊎ (((status ≡ Done) ⊎ (status ≡ Memory)) × F)
ends_by served.Done status is same = inr (inl is, same)
ends_by served.ClientBroke status is same = inl is
ends_by served.ClientEndedEarly status is same = inl is
ends_by (served.ClientRefused refusal) status is same = inr (inl is, same)
ends_by served.WantOfMemory status is same = inr (inr is, same)

pub ends_with : {F G : Type 0} (status : Status) → (F → G) → (status ≡ Outside) ⊎ (((status ≡ Done) ⊎ (status ≡ Memory)) × F)
    → (status ≡ Outside) ⊎ (((status ≡ Done) ⊎ (status ≡ Memory)) × G)
ends_with status on (inl failed) = inl failed
ends_with status on (inr ends) = inr (ends.0, on ends.1)

-- ---- the archive

module _ {D G L P N M C O : Type 0} (kinds : Kinds D G L P N M C O) (laws : DiskLaws kinds.disks) (was is : Objects D G (N × C) O) (known : Option Book)
    (asked : Option (List ℕ)) (said status : Status) (before after : Holdings D)
    (opened : OpensSettled kinds.disks (by_checkpoints was.disk asked known) before) where
  pub has_served : after.told ≡ before.told
      → ServesOne true (record { site = pipe_site; clock_tells = kinds.clocks.tells }) (around_in kinds was) (around_in kinds is) (told_of kinds.disks before) (told_of kinds.disks after) said
      → HasServed kinds was is before after said
  has_served same one = record {
    one = one;
    left = leaves_just kinds.disks laws one.connection.rounds before after same (λ told image now. (opened.left told image now).stands) one.connection.images;
  }

  serves_by : after.told ≡ before.told
      → (ServesOne true (record { site = pipe_site; clock_tells = kinds.clocks.tells }) (around_in kinds was) (around_in kinds is) (told_of kinds.disks before) (told_of kinds.disks after) said
      ⊎ (IsEnd (kinds.gates.closed was.gate) (kinds.gates.faults was.gate) (kinds.gates.faults is.gate) said × (around_in kinds is ≡ around_in kinds was) × (after ≡ before)))
      → HasServed kinds was is before after said
      ⊎ (IsEnd (kinds.gates.closed was.gate) (kinds.gates.faults was.gate) (kinds.gates.faults is.gate) said × (around_in kinds is ≡ around_in kinds was) × (after ≡ before))
  serves_by same (inl one) = inl (has_served same one)
  serves_by same (inr none) = inr none

  pub pipes_by : ClosesSettled kinds.disks after said is.disk status → (IsTrue after.told → OpensNear kinds.disks is.disk after.book) → (IsTrue kinds.disks.tells → LeavesStored kinds.disks was.disk before.book is.disk after.book)
      → (IsTrue kinds.clients_tell → IsTrue kinds.origins_tell
      → ServesOne true (record { site = pipe_site; clock_tells = kinds.clocks.tells }) (around_in kinds was) (around_in kinds is) (told_of kinds.disks before) (told_of kinds.disks after) said
      ⊎ (IsEnd (kinds.gates.closed was.gate) (kinds.gates.faults was.gate) (kinds.gates.faults is.gate) said × (around_in kinds is ≡ around_in kinds was) × (after ≡ before)))
      → GoesOn true (told_of kinds.disks before) (told_of kinds.disks after)
      → (said ≡ Outside) ⊎ (((said ≡ Done) ⊎ (said ≡ Memory)) × (kinds.gates.faults is.gate ≡ kinds.gates.faults was.gate)) → is.out ≡ was.out
      → Pipes kinds known asked was is status
  pipes_by closed near stored serves goes_on ends silent =
      let quiet = quiet_muted kinds.disks before.told
      (λ told. told_tells Checkpoints kinds.disks.tells known (sym (ready_tells kinds.disks opened) ∙ told)) was.disk (disk_of opened.held.journal) opened.opened.is.quiet in
      let first = ready_opens kinds.disks opened in
      let behind = subst (λ (t : Bool). OpensNoMore (crash_of (muted t kinds.disks) (disk_of after.journal)) (crash_of (muted t kinds.disks) is.disk)) goes_on.same_tells
      (closed_opens kinds.disks closed) in
      let during = subst (λ (t : Bool). StaysCovered (crash_of (muted before.told kinds.disks) (disk_of before.journal)) (crash_of (muted t kinds.disks) (disk_of after.journal)))
      goes_on.same_tells goes_on.covered in
      let later = subst (λ (t : Bool). (crash_of (muted before.told kinds.disks) (disk_of before.journal)).moment ≤ (crash_of (muted t kinds.disks) (disk_of after.journal)).moment)
      goes_on.same_tells goes_on.later in
      record {
        before = before;
        after = after;
        said = said;
        opened = opened;
        serves = λ clients origins. serves_by goes_on.same_tells (serves clients origins);
        goes_on = goes_on;
        closed = closed;
        near = λ told. near (goes_on.same_tells ∙ told);
        stored = stored;
        covered = λ t le all.
            behind.covered t (omega (arith, le, quiet.later, first.later, later))
            (during t (omega (arith, le, quiet.later, first.later))
            (first.covered t (omega (arith, le, quiet.later)) (quiet.covered t le all)));
        ends = ends;
        disk_faults = omega (arith, ready_faults kinds.disks opened, goes_on.faults, closed_faults kinds.disks closed);
        prints_nothing = silent;
      }

-- ---- the disk's count

-- it stands still at each settling and at the connection, where it does in all
module _ {D G L P N M C O : Type 0} (kinds : Kinds D G L P N M C O) {known : Option Book} {asked : Option (List ℕ)} {was is : Objects D G (N × C) O} {status : Status}
    (piped : Pipes kinds known asked was is status) (same : kinds.disks.faults is.disk ≡ kinds.disks.faults was.disk) where
  pub faults_behind : kinds.disks.faults (disk_of piped.after.journal) ≡ kinds.disks.faults was.disk
  faults_behind = omega (arith, same, ready_faults kinds.disks piped.opened, piped.goes_on.faults, closed_faults kinds.disks piped.closed)

  pub faults_before : kinds.disks.faults (disk_of piped.before.journal) ≡ kinds.disks.faults was.disk
  faults_before = omega (arith, faults_behind, ready_faults kinds.disks piped.opened, piped.goes_on.faults)
