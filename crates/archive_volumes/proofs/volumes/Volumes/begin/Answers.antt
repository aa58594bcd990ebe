use Rattle.std.proofs.Common.{ℕ, List, [], ◌∷◌, ◌++◌, length, Ok, refl, sym, ap, subst, ◌∙◌, arith}
use Rattle.capture.specs.Tails.{IsCommitted}
use Rattle.capture.specs.declared.book.Book.{Book}
use Rattle.warc_journal.specs.Journals.{Changes, disk_of, last_len, texts}
use Rattle.warc_text.proofs.InfoLaws.{infos_are_committed}
use Rattle.warc_text.specs.StandsFor.{commit_byte}
use Rattle.archive_shelf.specs.Storing.{with_volume}
use Rattle.archive_volumes.specs.Held.{book_of}
use Rattle.archive_volumes.specs.Volumes.{HoldsBook, IsMeasured}
use Rattle.archive_volumes.proofs.ChangeLaws.{DiskLaws}
use Rattle.archive_volumes.proofs.ExitLaws.{counts_refused, never_ok, stayed}
use Rattle.archive_volumes.proofs.VolumeLaws.{IsChange, holds_made, holds_refused, makes_by, makes_refused, measured_same, measured_volume, volume_change}
use Rattle.archive_volumes.proofs.WrittenLaws.{change_refused}
use Rattle.archive_volumes.proofs.volumes.Volumes.begin.Given.{Over}
use Rattle.archive_volumes.proofs.volumes.Volumes.begin.Goals as goal

-- what is asked of the disk
disk_laws : (g : Over) → DiskLaws g.D.Disk
disk_laws g = record { earlier = g.met.D.Disk.earlier; now_counts = g.met.D.Disk.now_counts; now_only = g.met.D.Disk.now_only }

-- ---- the volume's text is added

pub roll-requires-clause-in_step : goal.roll-requires-clause-in_step
roll-requires-clause-in_step g c = c.requires.holds.in_step

pub roll-requires-clause-committed : goal.roll-requires-clause-committed
roll-requires-clause-committed g c =
    let book : Book = book_of c.args.self.now.held in
    subst (λ (t : List ℕ). IsCommitted commit_byte t) (sym (c.as_slice.ensures ∙ c.requires.prepared.info))
    (infos_are_committed book.namespace (length book.volumes) c.args.prepared.shadow.born)

pub roll-requires-clause-fits : goal.roll-requires-clause-fits
roll-requires-clause-fits g c = omega (arith, ap length c.as_slice.ensures, c.requires.prepared.short)

-- ---- it is refused

refused : (g : Over) (c : goal.After-drop-shadow g) → IsChange g.D.Disk c.args.told.now.value c.args.self.now.journal (book_of c.args.self.now.held)
    (with_volume (book_of c.args.self.now.held) c.args.prepared.shadow.born)
    (texts g.D.Disk c.args.self.now.journal ++ c.as_slice.result.now ∷ [])
refused g c =
    volume_change g.D.Disk c.args.told.now.value c.args.self.now.journal (book_of c.args.self.now.held) c.args.prepared.shadow.born c.as_slice.result.now
    c.requires.holds c.requires.filled c.requires.born (c.as_slice.ensures ∙ c.requires.prepared.info)

pub returns-in_err-roll-clause-book : goal.returns-in_err-roll-clause-book
returns-in_err-roll-clause-book g c =
    let before : Book = book_of c.args.self.now.held in
    stayed c.from_residual.result before before (with_volume before c.args.prepared.shadow.born) c.from_residual.ensures.0 refl

pub returns-in_err-roll-clause-space : goal.returns-in_err-roll-clause-space
returns-in_err-roll-clause-space g c = never_ok _ c.from_residual.result c.from_residual.ensures.0

pub returns-in_err-roll-clause-holds : goal.returns-in_err-roll-clause-holds
returns-in_err-roll-clause-holds g c =
    let before : Book = book_of c.args.self.now.held in
    holds_refused g.D.Disk (disk_laws g) c.args.told.now.value c.args.self.now.journal c.roll.new.self before (with_volume before c.args.prepared.shadow.born)
    (texts g.D.Disk c.args.self.now.journal ++ c.as_slice.result.now ∷ []) (refused g c)
    c.in_err-roll.field-0.0 c.in_err-roll.ensures.change c.roll.ensures.in_step

pub returns-in_err-roll-clause-measured : goal.returns-in_err-roll-clause-measured
returns-in_err-roll-clause-measured g c =
    measured_same c.args.self.now.journal c.roll.new.self (book_of c.args.self.now.held) c.in_err-roll.ensures.volumes c.in_err-roll.ensures.last_len
    c.requires.measured

pub returns-in_err-roll-clause-last_len : goal.returns-in_err-roll-clause-last_len
returns-in_err-roll-clause-last_len g c =
    stayed c.from_residual.result (last_len c.roll.new.self) (last_len c.args.self.now.journal) (length c.args.prepared.info) c.from_residual.ensures.0
    c.in_err-roll.ensures.last_len

pub returns-in_err-roll-clause-texts : goal.returns-in_err-roll-clause-texts
returns-in_err-roll-clause-texts g c tells =
    let before : List (List ℕ) = texts g.D.Disk c.args.self.now.journal in
    stayed c.from_residual.result (texts g.D.Disk c.roll.new.self) before (before ++ c.args.prepared.info ∷ []) c.from_residual.ensures.0
    (c.in_err-roll.ensures.change tells).stays

pub returns-in_err-roll-clause-change : goal.returns-in_err-roll-clause-change
returns-in_err-roll-clause-change g c tells =
    subst (λ (info : List ℕ). Changes g.D.Disk c.args.self.now.journal c.roll.new.self (texts g.D.Disk c.args.self.now.journal ++ info ∷ []) c.from_residual.result)
    c.as_slice.ensures
    (change_refused g.D.Disk c.args.self.now.journal c.roll.new.self (texts g.D.Disk c.args.self.now.journal ++ c.as_slice.result.now ∷ [])
    c.in_err-roll.field-0.0 c.from_residual.result c.from_residual.ensures.0 (c.in_err-roll.ensures.change tells))

pub returns-in_err-roll-clause-others : goal.returns-in_err-roll-clause-others
returns-in_err-roll-clause-others g c tells = (c.in_err-roll.ensures.change tells).others

pub returns-in_err-roll-clause-makes : goal.returns-in_err-roll-clause-makes
returns-in_err-roll-clause-makes g c =
    let before : Book = book_of c.args.self.now.held in
    makes_refused g.D.Disk (disk_laws g) c.args.told.now.value c.args.self.now.journal c.roll.new.self before (with_volume before c.args.prepared.shadow.born)
    (texts g.D.Disk c.args.self.now.journal ++ c.as_slice.result.now ∷ []) (refused g c)
    c.in_err-roll.field-0.0 c.from_residual.result c.in_err-roll.ensures.change c.from_residual.ensures.0

pub returns-in_err-roll-clause-faults : goal.returns-in_err-roll-clause-faults
returns-in_err-roll-clause-faults g c =
    let d = g.D.Disk in
    counts_refused (d.faults (disk_of c.args.self.now.journal)) (d.faults (disk_of c.roll.new.self)) c.in_err-roll.field-0.0 c.from_residual.result
    c.from_residual.ensures.0 c.in_err-roll.ensures.faults

-- ---- it is begun

made : (g : Over) (c : goal.After-drop-info-inside-2 g) → IsChange g.D.Disk c.args.told.now.value c.args.self.now.journal (book_of c.args.self.now.held)
    (with_volume (book_of c.args.self.now.held) c.args.prepared.shadow.born)
    (texts g.D.Disk c.args.self.now.journal ++ c.as_slice.result.now ∷ [])
made g c =
    volume_change g.D.Disk c.args.told.now.value c.args.self.now.journal (book_of c.args.self.now.held) c.args.prepared.shadow.born c.as_slice.result.now
    c.requires.holds c.requires.filled c.requires.born (c.as_slice.ensures ∙ c.requires.prepared.info)

pub returns-clause-book : goal.returns-clause-book
returns-clause-book g c = c.add_volume.ensures.book

pub returns-clause-space : goal.returns-clause-space
returns-clause-space g c = c.add_volume.ensures.space

pub returns-clause-holds : goal.returns-clause-holds
returns-clause-holds g c =
    let before : Book = book_of c.args.self.now.held in
    subst (HoldsBook g.D.Disk c.args.told.now.value c.roll.new.self) (sym c.add_volume.ensures.book)
    (holds_made g.D.Disk (disk_laws g) c.args.told.now.value c.args.self.now.journal c.roll.new.self before (with_volume before c.args.prepared.shadow.born)
    (texts g.D.Disk c.args.self.now.journal ++ c.as_slice.result.now ∷ []) (made g c)
    c.in_ok-roll.field-0 c.in_ok-roll.ensures.change c.roll.ensures.in_step)

pub returns-clause-measured : goal.returns-clause-measured
returns-clause-measured g c =
    subst (IsMeasured c.roll.new.self) (sym c.add_volume.ensures.book)
    (measured_volume c.args.self.now.journal c.roll.new.self (book_of c.args.self.now.held) c.args.prepared.shadow.born c.in_ok-roll.ensures.volumes
    (omega (arith, c.in_ok-roll.ensures.last_len, ap length c.as_slice.ensures, c.requires.prepared.short))
    c.requires.filled c.requires.measured)

pub returns-clause-last_len : goal.returns-clause-last_len
returns-clause-last_len g c = c.in_ok-roll.ensures.last_len ∙ ap length c.as_slice.ensures

pub returns-clause-texts : goal.returns-clause-texts
returns-clause-texts g c tells =
    let before : List (List ℕ) = texts g.D.Disk c.args.self.now.journal in
    (c.in_ok-roll.ensures.change tells).added ∙ ap (λ (info : List ℕ). before ++ info ∷ []) c.as_slice.ensures

pub returns-clause-change : goal.returns-clause-change
returns-clause-change g c tells =
    subst (λ (info : List ℕ). Changes g.D.Disk c.args.self.now.journal c.roll.new.self (texts g.D.Disk c.args.self.now.journal ++ info ∷ []) (Ok tt)) c.as_slice.ensures
    (c.in_ok-roll.ensures.change tells)

pub returns-clause-others : goal.returns-clause-others
returns-clause-others g c tells = (c.in_ok-roll.ensures.change tells).others

pub returns-clause-makes : goal.returns-clause-makes
returns-clause-makes g c =
    let before : Book = book_of c.args.self.now.held in
    makes_by g.D.Disk (disk_laws g) c.args.told.now.value c.args.self.now.journal c.roll.new.self before (with_volume before c.args.prepared.shadow.born)
    (texts g.D.Disk c.args.self.now.journal ++ c.as_slice.result.now ∷ []) (made g c) (Ok tt) c.in_ok-roll.ensures.change

pub returns-clause-faults : goal.returns-clause-faults
returns-clause-faults g c = c.in_ok-roll.ensures.faults
