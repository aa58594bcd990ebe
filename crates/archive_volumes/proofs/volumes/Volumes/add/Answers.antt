use Rattle.std.proofs.Common.{◌+◌, ℕ, List, length, Ok, refl, sym, subst, arith}
use Rattle.capture.specs.declared.book.Book.{Book}
use Rattle.warc_journal.specs.Journals.{disk_of, last_len, texts}
use Rattle.warc_journal.specs.Texts.{with_more}
use Rattle.archive_shelf.specs.Storing.{with_capture}
use Rattle.archive_volumes.specs.Held.{book_of, stored_in}
use Rattle.archive_volumes.specs.Volumes.{HoldsBook, IsMeasured}
use Rattle.archive_volumes.proofs.ChangeLaws.{DiskLaws}
use Rattle.archive_volumes.proofs.ExitLaws.{counts_refused, not_done, stayed}
use Rattle.archive_volumes.proofs.VolumeLaws.{IsChange, capture_change, held_some, holds_made, holds_refused, makes_by, makes_refused, measured_capture, measured_same}
use Rattle.archive_volumes.proofs.WrittenLaws.{change_refused}
use Rattle.archive_volumes.proofs.volumes.Volumes.add.Given.{Over}
use Rattle.archive_volumes.proofs.volumes.Volumes.add.Goals as goal

-- what is asked of the disk
disk_laws : (g : Over) → DiskLaws g.D.Disk
disk_laws g = record { earlier = g.met.D.Disk.earlier; now_counts = g.met.D.Disk.now_counts; now_only = g.met.D.Disk.now_only }

-- ---- the group is added

pub append-requires-clause-in_step : goal.append-requires-clause-in_step
append-requires-clause-in_step g c = c.requires.holds.in_step

pub append-requires-clause-volume : goal.append-requires-clause-volume
append-requires-clause-volume g c = omega (arith, held_some c.args.self.now.held c.requires.space.0, c.requires.measured.count)

pub append-requires-clause-committed : goal.append-requires-clause-committed
append-requires-clause-committed g c = c.requires.committed

pub append-requires-clause-fits : goal.append-requires-clause-fits
append-requires-clause-fits g c = omega (arith, c.requires.fits)

-- ---- it is refused

refused : (g : Over) (c : goal.After-drop-stored g) → IsChange g.D.Disk c.args.told.now.value c.args.self.now.journal (book_of c.args.self.now.held)
    (with_capture (book_of c.args.self.now.held) (stored_in c.args.stored))
    (with_more (texts g.D.Disk c.args.self.now.journal) c.args.group.now)
refused g c =
    capture_change g.D.Disk c.args.told.now.value c.args.self.now.journal (book_of c.args.self.now.held) (stored_in c.args.stored) c.args.group.now
    c.requires.holds (held_some c.args.self.now.held c.requires.space.0) c.requires.group c.requires.sound

pub returns-in_err-place-clause-book : goal.returns-in_err-place-clause-book
returns-in_err-place-clause-book g c =
    let before : Book = book_of c.args.self.now.held in
    stayed c.from_residual.result before before (with_capture before (stored_in c.args.stored)) c.from_residual.ensures.0 refl

pub returns-in_err-place-clause-holds : goal.returns-in_err-place-clause-holds
returns-in_err-place-clause-holds g c =
    let before : Book = book_of c.args.self.now.held in
    holds_refused g.D.Disk (disk_laws g) c.args.told.now.value c.args.self.now.journal c.append.new.self before (with_capture before (stored_in c.args.stored))
    (with_more (texts g.D.Disk c.args.self.now.journal) c.args.group.now) (refused g c)
    c.in_err-place.field-0.0 c.in_err-place.ensures.change c.append.ensures.in_step

pub returns-in_err-place-clause-measured : goal.returns-in_err-place-clause-measured
returns-in_err-place-clause-measured g c =
    measured_same c.args.self.now.journal c.append.new.self (book_of c.args.self.now.held) c.append.ensures.volumes c.in_err-place.ensures.last_len
    c.requires.measured

pub returns-in_err-place-clause-last_len : goal.returns-in_err-place-clause-last_len
returns-in_err-place-clause-last_len g c =
    let before : ℕ = last_len c.args.self.now.journal in
    stayed c.from_residual.result (last_len c.append.new.self) before (before + length c.args.group.now) c.from_residual.ensures.0
    c.in_err-place.ensures.last_len

pub returns-in_err-place-clause-texts : goal.returns-in_err-place-clause-texts
returns-in_err-place-clause-texts g c tells =
    let before : List (List ℕ) = texts g.D.Disk c.args.self.now.journal in
    stayed c.from_residual.result (texts g.D.Disk c.append.new.self) before (with_more before c.args.group.now) c.from_residual.ensures.0
    (c.in_err-place.ensures.change tells).stays

pub returns-in_err-place-clause-change : goal.returns-in_err-place-clause-change
returns-in_err-place-clause-change g c tells =
    change_refused g.D.Disk c.args.self.now.journal c.append.new.self (with_more (texts g.D.Disk c.args.self.now.journal) c.args.group.now)
    c.in_err-place.field-0.0 c.from_residual.result c.from_residual.ensures.0 (c.in_err-place.ensures.change tells)

pub returns-in_err-place-clause-place : goal.returns-in_err-place-clause-place
returns-in_err-place-clause-place g c = not_done _ c.from_residual.result c.from_residual.ensures.0

pub returns-in_err-place-clause-others : goal.returns-in_err-place-clause-others
returns-in_err-place-clause-others g c tells = (c.in_err-place.ensures.change tells).others

pub returns-in_err-place-clause-makes : goal.returns-in_err-place-clause-makes
returns-in_err-place-clause-makes g c =
    let before : Book = book_of c.args.self.now.held in
    makes_refused g.D.Disk (disk_laws g) c.args.told.now.value c.args.self.now.journal c.append.new.self before (with_capture before (stored_in c.args.stored))
    (with_more (texts g.D.Disk c.args.self.now.journal) c.args.group.now) (refused g c)
    c.in_err-place.field-0.0 c.from_residual.result c.in_err-place.ensures.change c.from_residual.ensures.0

pub returns-in_err-place-clause-faults : goal.returns-in_err-place-clause-faults
returns-in_err-place-clause-faults g c =
    let d = g.D.Disk in
    counts_refused (d.faults (disk_of c.args.self.now.journal)) (d.faults (disk_of c.append.new.self)) c.in_err-place.field-0.0 c.from_residual.result
    c.from_residual.ensures.0 c.in_err-place.ensures.faults

-- ---- it is added

made : (g : Over) (c : goal.After-add_ghost g) → IsChange g.D.Disk c.args.told.now.value c.args.self.now.journal (book_of c.args.self.now.held)
    (with_capture (book_of c.args.self.now.held) (stored_in c.args.stored))
    (with_more (texts g.D.Disk c.args.self.now.journal) c.args.group.now)
made g c =
    capture_change g.D.Disk c.args.told.now.value c.args.self.now.journal (book_of c.args.self.now.held) (stored_in c.args.stored) c.args.group.now
    c.requires.holds (held_some c.args.self.now.held c.requires.space.0) c.requires.group c.requires.sound

pub returns-clause-book : goal.returns-clause-book
returns-clause-book g c = c.add_ghost.ensures.book

pub returns-clause-holds : goal.returns-clause-holds
returns-clause-holds g c =
    let before : Book = book_of c.args.self.now.held in
    subst (HoldsBook g.D.Disk c.args.told.now.value c.append.new.self) (sym c.add_ghost.ensures.book)
    (holds_made g.D.Disk (disk_laws g) c.args.told.now.value c.args.self.now.journal c.append.new.self before (with_capture before (stored_in c.args.stored))
    (with_more (texts g.D.Disk c.args.self.now.journal) c.args.group.now) (made g c)
    c.in_ok-place.place c.in_ok-place.ensures.change c.append.ensures.in_step)

pub returns-clause-measured : goal.returns-clause-measured
returns-clause-measured g c =
    subst (IsMeasured c.append.new.self) (sym c.add_ghost.ensures.book)
    (measured_capture c.args.self.now.journal c.append.new.self (book_of c.args.self.now.held) (stored_in c.args.stored) c.append.ensures.volumes
    (omega (arith, c.in_ok-place.ensures.last_len, c.requires.fits)) c.requires.measured)

pub returns-clause-last_len : goal.returns-clause-last_len
returns-clause-last_len g c = c.in_ok-place.ensures.last_len

pub returns-clause-texts : goal.returns-clause-texts
returns-clause-texts g c tells = (c.in_ok-place.ensures.change tells).added

pub returns-clause-change : goal.returns-clause-change
returns-clause-change g c tells = c.in_ok-place.ensures.change tells

pub returns-clause-place : goal.returns-clause-place
returns-clause-place g c = c.in_ok-place.ensures.place

pub returns-clause-others : goal.returns-clause-others
returns-clause-others g c tells = (c.in_ok-place.ensures.change tells).others

pub returns-clause-makes : goal.returns-clause-makes
returns-clause-makes g c =
    let before : Book = book_of c.args.self.now.held in
    makes_by g.D.Disk (disk_laws g) c.args.told.now.value c.args.self.now.journal c.append.new.self before (with_capture before (stored_in c.args.stored))
    (with_more (texts g.D.Disk c.args.self.now.journal) c.args.group.now) (made g c) (Ok c.in_ok-place.place) c.in_ok-place.ensures.change

pub returns-clause-faults : goal.returns-clause-faults
returns-clause-faults g c = c.in_ok-place.ensures.faults
