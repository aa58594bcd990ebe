use Rattle.archive_payloads.specs.Damage.{TellsFound}
use Rattle.archive_payloads.proofs.FaultLaws.{read_brought, read_exit}
use Rattle.archive_volumes.specs.declared.spot.Spot.{Spot}
use Rattle.archive_reading.proofs.RereadLaws.{own_brought_there}
use Rattle.archive_reading.specs.Rereading.{IsBackThere, IsBroughtThere}
use Rattle.warc_journal.specs.Journals.{texts, disk_of}
use Rattle.std.proofs.Common.{IsTrue, Ok, refl, sym, subst, inl, arith, ℕ}
use Rattle.std.specs.Prelude.{slice_get, ◌≡◌, Some, IfErr, IfOk}
use Rattle.capture.specs.declared.captured.Brought.{Brought}
use Rattle.archive_reading.proofs.BringLaws.{damaged, named, own_brought, replayable}
use Rattle.archive_payloads.proofs.DamageLaws.{keeper_found}
use Rattle.archive_reading.proofs.DigestLaws.{own_goes, one_spot}
use Rattle.archive_volumes.proofs.GroupLaws.{got}
use Rattle.archive_reading.specs.Bringing.{AreOf, BringsFrom, IsChecked, IsReadRight, brought_of}
use Rattle.archive_reading.specs.Digests.{GoesByOwn}
use Rattle.archive_volumes.specs.Held.{book_of}
use Rattle.archive_volumes.specs.Spots.{IsSpotOf}
use Rattle.archive_reading.specs.declared.payload.ReadBack.{ReadBack}
use Rattle.archive_reading.specs.declared.part.ReadFault.TheVariants as reads
use Rattle.archive_payloads.proofs.bringing.bring_own.Goals as goal

pub returns-in_ok-brought-in-Right-clause-brings : goal.returns-in_ok-brought-in-Right-clause-brings
returns-in_ok-brought-in-Right-clause-brings g c =
    let spot = c.index-spots-number.result in
    let book = book_of c.args.volumes.now.held in
    let here : slice_get c.args.spots.now c.args.number ≡ Some spot = got c.args.spots.now c.args.number spot c.requires.below c.index-spots-number.is in
    let its : IsSpotOf book c.args.number spot = c.requires.readable.are.each c.args.number spot here in
    let checked : IsChecked spot.digest c.in_ok-read.read = c.in_ok-read.ensures.checked spot here in
    let right : IsTrue c.args.told.now.value → AreOf book c.args.number c.in-Right.head c.in-Right.payload = λ told.
    subst (λ (r : ReadBack). IsReadRight book c.args.number r) c.in-Right.is (c.in_ok-read.ensures.right told) in
    subst (λ (b : Brought). BringsFrom c.args.told.now.value book c.args.number (Ok b)) (sym c.in_ok-brought-in-Right.ensures) (
      replayable book c.args.number spot its c.in-Right.head c.in-Right.payload (subst (λ (r : ReadBack). IsChecked spot.digest r) c.in-Right.is checked).0,
      named book c.args.number spot its c.in-Right.head c.in-Right.payload,
      λ told. own_brought book c.args.number spot its c.in-Right.head c.in-Right.payload (right told),
    )

pub returns-in_ok-brought-in-Right-clause-digest : goal.returns-in_ok-brought-in-Right-clause-digest
returns-in_ok-brought-in-Right-clause-digest g c other at =
    subst (λ (b : Brought). GoesByOwn c.args.number other.digest (Ok b)) (sym c.in_ok-brought-in-Right.ensures)
    (subst (λ (r : ReadBack). IsChecked other.digest r) c.in-Right.is (c.in_ok-read.ensures.checked other at)).1

pub returns-in-Damaged-clause-brings : goal.returns-in-Damaged-clause-brings
returns-in-Damaged-clause-brings g c =
    let spot = c.index-spots-number.result in
    let here : slice_get c.args.spots.now c.args.number ≡ Some spot = got c.args.spots.now c.args.number spot c.requires.below c.index-spots-number.is in
    let never : IsTrue c.args.told.now.value → ⊥ = λ told.
    subst (λ (r : ReadBack). IsReadRight (book_of c.args.volumes.now.held) c.args.number r) c.in-Damaged.is (c.in_ok-read.ensures.right told) in (
      omega arith,
      inl refl,
      damaged c.args.told.now.value spot.digest c.in-Damaged.found never
          (subst (λ (r : ReadBack). IsChecked spot.digest r) c.in-Damaged.is (c.in_ok-read.ensures.checked spot here)),
    )

pub returns-in-Damaged-clause-digest : goal.returns-in-Damaged-clause-digest
returns-in-Damaged-clause-digest g c other at =
    own_goes c.args.spots.now c.args.number c.index-spots-number.result other
    (got c.args.spots.now c.args.number c.index-spots-number.result c.requires.below c.index-spots-number.is) at c.in-Damaged.found

pub returns-in_ok-brought-in-Right-clause-there : goal.returns-in_ok-brought-in-Right-clause-there
returns-in_ok-brought-in-Right-clause-there g c tells other at =
    let spot = c.index-spots-number.result in
    let all = texts g.D.Disk c.args.volumes.now.journal in
    let namespace = (book_of c.args.volumes.now.held).namespace in
    let here : slice_get c.args.spots.now c.args.number ≡ Some spot = got c.args.spots.now c.args.number spot c.requires.below c.index-spots-number.is in
    subst (IsBroughtThere all namespace c.args.number other) (sym c.in_ok-brought-in-Right.ensures)
    (subst (λ (s : Spot). IsBroughtThere all namespace c.args.number s (brought_of spot c.in-Right.head c.in-Right.payload))
    (one_spot c.args.spots.now c.args.number spot other here at)
    (own_brought_there all c.args.spots.now namespace c.args.number spot c.in-Right.head c.in-Right.payload
    (subst (IsBackThere all c.args.spots.now namespace c.args.number spot) c.in-Right.is (c.in_ok-read.ensures.there tells spot here))))

pub returns-in-Damaged-clause-found : goal.returns-in-Damaged-clause-found
returns-in-Damaged-clause-found g c tells =
    let spot = c.index-spots-number.result in
    let all = texts g.D.Disk c.args.volumes.now.journal in
    let namespace = (book_of c.args.volumes.now.held).namespace in
    let here : slice_get c.args.spots.now c.args.number ≡ Some spot = got c.args.spots.now c.args.number spot c.requires.below c.index-spots-number.is in
    keeper_found all namespace c.args.spots.now c.args.number spot here c.args.number spot here (c.requires.own spot here) refl c.in-Damaged.found
    (subst (IsBackThere all c.args.spots.now namespace c.args.number spot) c.in-Damaged.is (c.in_ok-read.ensures.there tells spot here))

-- ---- what is asked, and what stays at each exit

pub read_own-requires-clause-readable : goal.read_own-requires-clause-readable
read_own-requires-clause-readable g c = c.requires.readable

pub read_own-requires-clause-below : goal.read_own-requires-clause-below
read_own-requires-clause-below g c = c.requires.below

pub read_own-requires-clause-own : goal.read_own-requires-clause-own
read_own-requires-clause-own g c = c.requires.own

pub returns-in_err-read-clause-brings : goal.returns-in_err-read-clause-brings
returns-in_err-read-clause-brings g c =
    read_exit Brought (BringsFrom c.args.told.now.value (book_of c.args.volumes.now.held) c.args.number) c.in_err-read.field-0.0 c.from_residual.result c.from_residual.ensures.1 tt tt

pub returns-in_err-read-clause-digest : goal.returns-in_err-read-clause-digest
returns-in_err-read-clause-digest g c other at =
    read_exit Brought (GoesByOwn c.args.number other.digest) c.in_err-read.field-0.0 c.from_residual.result c.from_residual.ensures.1 tt tt

pub returns-in_err-read-clause-there : goal.returns-in_err-read-clause-there
returns-in_err-read-clause-there g c tells other at =
    read_exit Brought (λ r. IfOk r (IsBroughtThere (texts g.D.Disk c.args.volumes.now.journal) (book_of c.args.volumes.now.held).namespace c.args.number other)) c.in_err-read.field-0.0 c.from_residual.result c.from_residual.ensures.1 tt tt

pub returns-in_err-read-clause-found : goal.returns-in_err-read-clause-found
returns-in_err-read-clause-found g c tells =
    read_exit Brought (λ r. IfErr r (TellsFound (texts g.D.Disk c.args.volumes.now.journal) (book_of c.args.volumes.now.held).namespace c.args.spots.now c.args.number)) c.in_err-read.field-0.0 c.from_residual.result c.from_residual.ensures.1 tt tt

pub returns-in_err-read-clause-reads : goal.returns-in_err-read-clause-reads
returns-in_err-read-clause-reads g c =
    c.read_own.ensures.reads

pub returns-in_err-read-clause-faults : goal.returns-in_err-read-clause-faults
returns-in_err-read-clause-faults g c =
    read_brought ReadBack Brought (g.D.Disk.faults (disk_of c.args.volumes.now.journal)) (g.D.Disk.faults (disk_of c.read_own.new.volumes.journal)) c.in_err-read.field-0.0 c.from_residual.result c.from_residual.ensures.1 c.in_err-read.ensures.faults

pub returns-in_err-brought-in-Right-clause-brings : goal.returns-in_err-brought-in-Right-clause-brings
returns-in_err-brought-in-Right-clause-brings g c =
    read_exit Brought (BringsFrom c.args.told.now.value (book_of c.args.volumes.now.held) c.args.number) reads.Memory c.from_residual-in_err-brought-in-Right.result c.from_residual-in_err-brought-in-Right.ensures.1 tt tt

pub returns-in_err-brought-in-Right-clause-digest : goal.returns-in_err-brought-in-Right-clause-digest
returns-in_err-brought-in-Right-clause-digest g c other at =
    read_exit Brought (GoesByOwn c.args.number other.digest) reads.Memory c.from_residual-in_err-brought-in-Right.result c.from_residual-in_err-brought-in-Right.ensures.1 tt tt

pub returns-in_err-brought-in-Right-clause-there : goal.returns-in_err-brought-in-Right-clause-there
returns-in_err-brought-in-Right-clause-there g c tells other at =
    read_exit Brought (λ r. IfOk r (IsBroughtThere (texts g.D.Disk c.args.volumes.now.journal) (book_of c.args.volumes.now.held).namespace c.args.number other)) reads.Memory c.from_residual-in_err-brought-in-Right.result c.from_residual-in_err-brought-in-Right.ensures.1 tt tt

pub returns-in_err-brought-in-Right-clause-found : goal.returns-in_err-brought-in-Right-clause-found
returns-in_err-brought-in-Right-clause-found g c tells =
    read_exit Brought (λ r. IfErr r (TellsFound (texts g.D.Disk c.args.volumes.now.journal) (book_of c.args.volumes.now.held).namespace c.args.spots.now c.args.number)) reads.Memory c.from_residual-in_err-brought-in-Right.result c.from_residual-in_err-brought-in-Right.ensures.1 tt tt

pub returns-in_err-brought-in-Right-clause-reads : goal.returns-in_err-brought-in-Right-clause-reads
returns-in_err-brought-in-Right-clause-reads g c =
    c.read_own.ensures.reads

pub returns-in_err-brought-in-Right-clause-faults : goal.returns-in_err-brought-in-Right-clause-faults
returns-in_err-brought-in-Right-clause-faults g c =
    read_brought ℕ Brought (g.D.Disk.faults (disk_of c.args.volumes.now.journal)) (g.D.Disk.faults (disk_of c.read_own.new.volumes.journal)) reads.Memory c.from_residual-in_err-brought-in-Right.result c.from_residual-in_err-brought-in-Right.ensures.1 (c.in_ok-read.ensures.faults)

pub returns-in_ok-brought-in-Right-clause-reads : goal.returns-in_ok-brought-in-Right-clause-reads
returns-in_ok-brought-in-Right-clause-reads g c = c.read_own.ensures.reads

pub returns-in_ok-brought-in-Right-clause-faults : goal.returns-in_ok-brought-in-Right-clause-faults
returns-in_ok-brought-in-Right-clause-faults g c = c.in_ok-read.ensures.faults

pub returns-in-Damaged-clause-reads : goal.returns-in-Damaged-clause-reads
returns-in-Damaged-clause-reads g c = c.read_own.ensures.reads

pub returns-in-Damaged-clause-faults : goal.returns-in-Damaged-clause-faults
returns-in-Damaged-clause-faults g c = c.in_ok-read.ensures.faults
