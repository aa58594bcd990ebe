-- A crash leaves the archive's book alone as long as its disk doesn't fail, and in any case its checkpoints, and what stood in its volumes.
use Rattle.std.proofs.Common.{◌≡◌, ◌⊎◌, ℕ, ◌≤◌, Bool, List, ◌++◌, length, IsTrue, Some, None, Result, Ok, Err, refl, sym, ap, subst, ◌∙◌, arith, length-append}
use Rattle.std.specs.declared.snapshot.Snapshot.{Snapshot}
use Rattle.capture.specs.Captures.{captures}
use Rattle.capture.specs.Growth.{Grows}
use Rattle.capture.specs.declared.book.Book.{Book}
use Rattle.capture.specs.declared.captured.Stored.{Stored}
use Rattle.capture.specs.declared.captured.Taken.{Taken}
use Rattle.capture.proofs.GrowthLaws.{grows_from_itself, growth_keeps_captures}
use Rattle.disk_model.specs.declared.disk.Disk.{Ghosts}
use Rattle.warc_journal.specs.Extents.{cdxj_files}
use Rattle.warc_journal.specs.Journals.{disk_of}
use Rattle.archive_shelf.specs.Openings.{HasIds, IsEarlier, KeepsCheckpoints, LeavesNoMore, Moves, SameBook}
use Rattle.archive_shelf.specs.declared.fault.StoreFault.{StoreFault}
use Rattle.archive_shelf.specs.declared.fault.StoreFault.TheVariants as stores
use Rattle.archive_shelf.specs.declared.receipt.Receipt.{Receipt}
use Rattle.archive_shelf.proofs.CallLaws.{no_more}
use Rattle.archive_volumes.proofs.ChangeLaws.{DiskLaws, laws_muted}
use Rattle.archive_volumes.proofs.StoreLaws.{opens_earlier}
use Rattle.archive_volumes.specs.Volumes.{muted}
use Rattle.archive_settling.proofs.FinishedLaws.{checkpoints_later, same_checkpoints_of}
use Rattle.archive_core.specs.Holdings.{Holdings}
use Rattle.archive_core.specs.Lasting.{KeepsStored}
use Rattle.archive_core.specs.Stores.{Stores}
use Rattle.archive_core.specs.Told.{told_of}
use Rattle.vault_turns.specs.Calm.{StaysCalm, StaysRight, StaysStood, StillStands}
use Rattle.vault_turns.specs.Guarded.{Stands}
use Rattle.vault_turns.specs.History.{IsBegun, sure_in}
use Rattle.vault_turns.specs.Noting.{Notes}
use Rattle.vault_turns.specs.Own.{AreCounted, count_faults, faults_since}
use Rattle.vault_turns.specs.declared.noted.Noted.{Noted}
use Rattle.vault_turns.specs.declared.noted.Sure.{Sure}
use Rattle.vault_turns.proofs.FaultLaws.{count_noted, since_append}
use Rattle.vault_turns.proofs.HistoryLaws.{sure_stays}
use Rattle.vault_turns.proofs.NotingLaws.{values}

-- the ids of a book that grew differ where those of the later one do
pub ids_earlier : (was now : Book) → Grows was now → HasIds now → HasIds was
ids_earlier was now grows ids =
    let kept = growth_keeps_captures was now grows in
    let few : length (captures was) ≤ length (captures now) =
    omega (arith, ap (λ (l : List Stored). length l) kept.1, length-append (captures was) kept.0) in
    λ m n less less₂ e. ids m n (omega (arith, few, less)) (omega (arith, few, less₂)) (rw grows.namespace e)

-- what holds of a history holds where room was made for more
pub roomy : {D : Type 0} (d : Ghosts D) (held : Holdings D) (before room : List (Snapshot Noted)) → room ≡ before
    → Stands (values before) held × AreCounted (values before) (d.faults (disk_of held.journal)) × StaysCalm d (values before) held × StaysRight d (values before) held × StaysStood d (values before) held
    → Stands (values room) held × AreCounted (values room) (d.faults (disk_of held.journal)) × StaysCalm d (values room) held × StaysRight d (values room) held × StaysStood d (values room) held
roomy d held before room same holds =
    subst
    (λ (l : List (Snapshot Noted)). Stands (values l) held × AreCounted (values l) (d.faults (disk_of held.journal)) × StaysCalm d (values l) held × StaysRight d (values l) held
    × StaysStood d (values l) held)
    (sym same) holds

-- what was sure when the archive was given stays what it was
sure_before : (history added after : List Noted) → IsBegun history → after ≡ history ++ added → sure_in after ≡ sure_in history
sure_before history added after begun joined = ap sure_in joined ∙ sure_stays history added begun

module _ {D : Type 0} (d : Ghosts D) (laws : DiskLaws d) (history added after : List Noted) (was is : Holdings D) (begun : IsBegun history)
    (joined : after ≡ history ++ added) (calm : StaysCalm d history was) where
  calm_before : IsTrue (sure_in after).calm → IsTrue (sure_in history).calm
  calm_before told = subst (λ (s : Sure). IsTrue s.calm) (sure_before history added after begun joined) told

  none_before : faults_since after ≡ 0 → (faults_since history ≡ 0) × (count_faults added ≡ 0)
  none_before none =
      let all = ap faults_since joined ∙ since_append history added begun in
      (omega (arith, none, all), omega (arith, none, all))

  earlier : IsEarlier (told_of d is).crash
  earlier = opens_earlier (muted is.told d) (laws_muted d is.told laws) (disk_of is.journal)

  quiet_calm : is.book ≡ was.book → (told_of d was).crash.moment ≤ (told_of d is).crash.moment → Moves (told_of d was).crash (told_of d is).crash (λ x. ⊥)
      → StaysCalm d after is
  quiet_calm same later moves told none ids x o =
      subst (λ (b : Book). SameBook x b ⊎ (None ≡ Some x)) (sym same)
      (calm (calm_before told) (none_before none).0 (subst HasIds same ids) x
      (no_more (moves (told_of d was).crash.moment x (omega arith) (earlier (told_of d was).crash.moment (told_of d is).crash.moment x later o))))

  -- behind a turn that only read
  pub read_calm : is.book ≡ was.book → LeavesNoMore (told_of d was).crash (told_of d is).crash → StaysCalm d after is
  read_calm same more = quiet_calm same more.later more.moves

  -- behind a store, whatever that answered
  module _ (by : ℕ) (taken : Taken) (began : Bool) (grows : Grows was.book is.book) where
    pub store_calm : (result : Result Receipt StoreFault) → Notes by taken began result added → Stores d was is taken result → StaysCalm d after is
    store_calm (Ok receipt) notes store = λ told none ids. store.told.crash.only (ids_earlier was.book is.book grows ids)
    store_calm (Err (stores.Full count limit)) notes store = quiet_calm store.told.leaves.0.seen store.told.crash.later (store.told.crash.quiet tt)
    store_calm (Err stores.DiskFault) notes store = λ told none ids.
        let one = count_noted by taken began (Err stores.DiskFault) added notes in
        absurd (omega (arith, one, (none_before none).1))
    store_calm (Err (stores.Damaged number kept found)) notes store =
        quiet_calm store.told.leaves.0.seen store.told.crash.later (store.told.crash.quiet tt)
    store_calm (Err stores.Memory) notes store = quiet_calm store.told.leaves.seen store.told.crash.later (store.told.crash.quiet tt)

-- ---- checkpoints

-- behind a turn after which a crash leaves no files of checkpoints but those that it might have left before
pub stays_right : {D : Type 0} (d : Ghosts D) (history added after : List Noted) (was is : Holdings D) → IsBegun history → after ≡ history ++ added
    → Grows was.book is.book → KeepsCheckpoints (told_of d was).crash (told_of d is).crash → StaysRight d history was → StaysRight d after is
stays_right d history added after was is begun joined grows kept right sure told image left =
    let before = kept (cdxj_files image) (told, image, left, refl) in
    let so = subst (λ (s : Sure). IsTrue s.right) (sure_before history added after begun joined) sure in
    checkpoints_later was.book is.book image grows
    (same_checkpoints_of image before.1 was.book (sym before.3) (right so before.0 before.1 before.2))

-- behind one that only read
pub read_right : {D : Type 0} (d : Ghosts D) (history added after : List Noted) (was is : Holdings D) → IsBegun history → after ≡ history ++ added
    → is.book ≡ was.book → LeavesNoMore (told_of d was).crash (told_of d is).crash → StaysRight d history was → StaysRight d after is
read_right d history added after was is begun joined same more right =
    stays_right d history added after was is begun joined (subst (λ (b : Book). Grows was.book b) (sym same) (grows_from_itself was.book)) more.kept right

-- ---- what stood

-- behind a turn that leaves it
pub stays_stood : {D : Type 0} (d : Ghosts D) (history added after : List Noted) (was is : Holdings D) → IsBegun history → after ≡ history ++ added
    → (IsTrue d.tells → KeepsStored d (sure_in history).stood was → KeepsStored d (sure_in history).stood is)
    → StaysStood d history was → StaysStood d after is
stays_stood d history added after was is begun joined keeps stands =
    subst (λ (s : Sure). IsTrue s.lasts → StillStands d s.stood is) (sym (sure_before history added after begun joined))
    (λ sure tells. keeps tells (stands sure tells))
