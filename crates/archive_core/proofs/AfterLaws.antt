-- A store whose payload is compared first: what only reads the disk, and then a store or a refusal.
use Rattle.std.proofs.Common.{◌≡◌, ℕ, ◌<◌, true, length, Option, Result, Ok, Err, IsTrue, refl, sym, ap, subst, ◌∙◌, inl}
use Rattle.std.specs.Prelude.{IsErrAnd, ⊤}
use Rattle.capture.specs.Captures.{captures}
use Rattle.capture.specs.declared.captured.Taken.{Taken}
use Rattle.disk_model.specs.Image.{Image}
use Rattle.disk_model.specs.declared.disk.Disk.{Ghosts}
use Rattle.warc_journal.specs.Extents.{cdxj_files}
use Rattle.warc_journal.specs.Journals.{Rests, disk_of, extent_of}
use Rattle.warc_journal.specs.declared.journal.Journal.{Journal}
use Rattle.archive_shelf.proofs.CallLaws.{leaves_no_more_itself, stores_behind, unwritten_store}
use Rattle.archive_shelf.specs.Answers.{CountsIf, StoreLeaves, is_store_fault}
use Rattle.archive_shelf.specs.Told.{WritesNothing}
use Rattle.archive_shelf.specs.declared.fault.StoreFault.{StoreFault}
use Rattle.archive_shelf.specs.declared.fault.StoreFault.TheVariants as stores
use Rattle.archive_shelf.specs.declared.receipt.Receipt.{Receipt}
use Rattle.archive_payloads.specs.Choosing.{is_look_fault}
use Rattle.archive_core.specs.Holdings.{Holdings, contents_of}
use Rattle.archive_core.specs.Looking.{LooksFor, OnlyLooks}
use Rattle.archive_core.specs.Stores.{Admits, Stores}
use Rattle.archive_core.specs.Told.{told_of}
use Rattle.archive_volumes.specs.Volumes.{crash_of, muted}
use Rattle.archive_core.proofs.FillLaws.{fills_after, fills_none}
use Rattle.archive_volumes.proofs.ChangeLaws.{DiskLaws, laws_muted}
use Rattle.archive_volumes.proofs.StoreLaws.{opens_earlier}
use Rattle.archive_volumes.proofs.WrittenLaws.{rests_itself}

-- ---- nothing was written

-- the archive is full, before anything was read
full_stores : {D : Type 0} (d : Ghosts D) (laws : DiskLaws d) (was : Holdings D) (taken : Taken) (fault : StoreFault)
    → Admits {T = ⊤} (contents_of was) (Err fault) → Stores d was was taken (Err fault)
full_stores d laws was taken (stores.Full count limit) full = record {
  told = record {
    leaves = (record { seen = refl; shown = refl; others = refl }, full.0, full.1, full.2);
    reading = λ alone told. ((λ none. refl), refl);
    faults = refl;
    crash = unwritten_store true taken (told_of d was) (told_of d was) (stores.Full count limit) refl
        (opens_earlier (muted was.told d) (laws_muted d was.told laws) (disk_of was.journal))
        (leaves_no_more_itself (crash_of (muted was.told d) (disk_of was.journal)));
  };
  just = tt;
  fills = ((λ tells. rests_itself d (disk_of was.journal)), refl, refl);
  bytes = λ tells. ((λ none. refl), refl);
}
full_stores d laws was taken stores.DiskFault full = absurd full
full_stores d laws was taken (stores.Damaged at kept found) full = absurd full
full_stores d laws was taken stores.Memory full = absurd full

-- and where a `?` hands that out
pub full_exit : {D : Type 0} (d : Ghosts D) (laws : DiskLaws d) (was : Holdings D) (taken : Taken) (fault : StoreFault)
    (answer : Result Receipt StoreFault) → IsErrAnd answer (λ other. other ≡ fault)
    → Admits {T = ⊤} (contents_of was) (Err fault) → Stores d was was taken answer
full_exit d laws was taken fault (Ok receipt) is full = absurd is
full_exit d laws was taken fault (Err other) is full =
    subst (λ (f : StoreFault). Stores d was was taken (Err f)) (sym is) (full_stores d laws was taken fault full)

module _ {D : Type 0} (d : Ghosts D) (laws : DiskLaws d) (was : Holdings D) (journal : Journal D) (taken : Taken)
    (unwritten : WritesNothing true (told_of d was) (told_of d (record was { journal = journal })))
    (rests : IsTrue d.tells → Rests d (disk_of was.journal) (disk_of journal)) (extent : extent_of journal ≡ extent_of was.journal) where
  abbrev looked : Holdings D
  looked = record was { journal = journal }

  -- a fault that was met while the disk was read
  faulty : (fault : StoreFault) → StoreLeaves true taken (contents_of was) (contents_of was) (Err fault)
      → CountsIf (is_store_fault (Err fault)) (d.faults (disk_of was.journal)) (d.faults (disk_of journal))
      → Stores d was (record was { journal = journal }) taken (Err fault)
  faulty fault leaves counts = record {
    told = record {
      leaves = leaves;
      faults = counts;
      reading = λ alone told. ((λ none. unwritten.reading alone told), ap (λ (image : Image). cdxj_files image) (unwritten.reading alone told));
      crash = unwritten_store true taken (told_of d was) (told_of d looked) fault refl
          (opens_earlier (muted was.told d) (laws_muted d was.told laws) (disk_of journal)) unwritten.crash;
    };
    just = tt;
    fills = fills_none d was looked taken fault (rests, extent, refl);
    bytes = λ tells. ((λ none. (rests tells).read), ap (λ (image : Image). cdxj_files image) (rests tells).read);
  }

  fault_by : length (captures was.book) < was.limits.captures → (fault : StoreFault)
      → LooksFor (contents_of (record was { journal = journal })) taken (Err fault)
      → CountsIf (is_look_fault {T = Option ℕ} (Err fault)) (d.faults (disk_of was.journal)) (d.faults (disk_of journal))
      → Stores d was (record was { journal = journal }) taken (Err fault)
  fault_by not_full (stores.Full count limit) looks counts = absurd looks
  fault_by not_full stores.DiskFault looks counts =
      faulty stores.DiskFault (was.book, refl, not_full, inl refl, refl, refl) counts
  fault_by not_full (stores.Damaged at kept found) looks counts =
      faulty (stores.Damaged at kept found) (record { seen = refl; shown = refl; others = refl }, not_full, looks.0, looks.1) counts
  fault_by not_full stores.Memory looks counts = faulty stores.Memory (record { seen = refl; shown = refl; others = refl }) counts

  -- ---- and then a store

  pub then_by : d.faults (disk_of journal) ≡ d.faults (disk_of was.journal)
      → (is : Holdings D) (result : Result Receipt StoreFault)
      → Stores d (record was { journal = journal }) is taken result → Stores d was is taken result
  then_by steady is result stored = record {
    told = stores_behind true taken (told_of d was) (told_of d looked) (told_of d is) result refl steady
        (opens_earlier (muted was.told d) (laws_muted d was.told laws) (disk_of journal)) unwritten
        stored.told;
    just = stored.just;
    fills = fills_after d was is journal taken extent rests result stored.fills;
    bytes = λ tells. (
      λ none. (stored.bytes tells).0 none ∙ (rests tells).read,
      (stored.bytes tells).1 ∙ ap (λ (image : Image). cdxj_files image) (rests tells).read,
    );
  }

-- what only looked is known by its journal
known_by : {D : Type 0} (d : Ghosts D) (was mid : Holdings D) → OnlyLooks d was mid
    → WritesNothing true (told_of d was) (told_of d (record was { journal = mid.journal }))
known_by {D} d was mid looks =
    subst (λ (held : Holdings D). WritesNothing true (told_of d was) (told_of d held)) looks.others looks.unwritten

pub stores_after : {D : Type 0} (d : Ghosts D) (laws : DiskLaws d) (was mid is : Holdings D) (taken : Taken) (result : Result Receipt StoreFault)
    → OnlyLooks d was mid → d.faults (disk_of mid.journal) ≡ d.faults (disk_of was.journal) → Stores d mid is taken result → Stores d was is taken result
stores_after {D} d laws was mid is taken result looks steady stored =
    then_by d laws was mid.journal taken (known_by d was mid looks) looks.bytes looks.extent steady is result
    (subst (λ (held : Holdings D). Stores d held is taken result) looks.others stored)

pub fault_after : {D : Type 0} (d : Ghosts D) (laws : DiskLaws d) (was mid : Holdings D) (taken : Taken) (fault : StoreFault)
    → OnlyLooks d was mid → length (captures was.book) < was.limits.captures → LooksFor (contents_of mid) taken (Err fault)
    → CountsIf (is_look_fault {T = Option ℕ} (Err fault)) (d.faults (disk_of was.journal)) (d.faults (disk_of mid.journal))
    → Stores d was mid taken (Err fault)
fault_after {D} d laws was mid taken fault looks not_full answer counts =
    subst (λ (held : Holdings D). Stores d was held taken (Err fault)) (sym looks.others)
    (fault_by d laws was mid.journal taken (known_by d was mid looks) looks.bytes looks.extent not_full fault
    (subst (λ (held : Holdings D). LooksFor (contents_of held) taken (Err fault)) looks.others answer) counts)

-- and the same where a `?` hands the fault out
pub fault_exit : {D : Type 0} (d : Ghosts D) (laws : DiskLaws d) (was mid : Holdings D) (taken : Taken) (fault : StoreFault)
    (answer : Result Receipt StoreFault) → IsErrAnd answer (λ other. other ≡ fault)
    → OnlyLooks d was mid → length (captures was.book) < was.limits.captures → LooksFor (contents_of mid) taken (Err fault)
    → CountsIf (is_look_fault {T = Option ℕ} (Err fault)) (d.faults (disk_of was.journal)) (d.faults (disk_of mid.journal))
    → Stores d was mid taken answer
fault_exit d laws was mid taken fault (Ok receipt) is looks not_full answer counts = absurd is
fault_exit d laws was mid taken fault (Err other) is looks not_full answer counts =
    subst (λ (f : StoreFault). Stores d was mid taken (Err f)) (sym is) (fault_after d laws was mid taken fault looks not_full answer counts)
