use Rattle.std.specs.Prelude.{Result, ⊤}
use Rattle.std.proofs.Common.{Bool, ◌≡◌, ◌++◌, ◌∷◌, [], ℕ, List, length, true, refl, Ok, Err, subst, sym, ap, ◌∙◌, arith}
use Rattle.capture.specs.Faults.{CountsFaults}
use Rattle.capture.specs.declared.book.Book.{Book}
use Rattle.disk_model.specs.declared.disk.Disk.{Ghosts}
use Rattle.warc_journal.specs.Extents.{cdxj_files}
use Rattle.warc_journal.specs.Journals.{Changes, disk_of, last_len, texts, volumes}
use Rattle.warc_journal.specs.declared.fault.DiskFault.{DiskFault}
use Rattle.warc_journal.specs.declared.journal.Journal.{Journal}
use Rattle.warc_text.specs.Records.{info_text}
use Rattle.archive_shelf.specs.Gaining.{AreFilled}
use Rattle.archive_shelf.specs.Openings.{KeepsCheckpoints}
use Rattle.archive_shelf.specs.Storing.{with_volume}
use Rattle.archive_shelf.specs.declared.fault.RollFault.TheVariants as rolls
use Rattle.archive_volumes.specs.Held.{book_of}
use Rattle.archive_core.specs.Holdings.{Holdings}
use Rattle.archive_taking.specs.Rolling.{Rolls}
use Rattle.archive_core.specs.Texts.{texts_begun}
use Rattle.archive_core.specs.View.{holdings_of}
use Rattle.archive_volumes.specs.Volumes.{HoldsBook, Makes, crash_of, muted}
use Rattle.archive_shelf.proofs.GainingSoundness.{filled_count}
use Rattle.archive_pieces.proofs.PieceRoom.{all_filled}
use Rattle.archive_taking.proofs.RollLaws as laws
use Rattle.archive_taking.proofs.rolling.roll.Goals as goal

-- what a crash leaves of checkpoints is kept, also from where the volume was prepared
kept_from : {D : Type 0} (d : Ghosts D) (told : Bool) (j k new : Journal D) → j ≡ k
    → KeepsCheckpoints (crash_of (muted told d) (disk_of j)) (crash_of (muted told d) (disk_of new))
    → KeepsCheckpoints (crash_of (muted told d) (disk_of k)) (crash_of (muted told d) (disk_of new))
kept_from d told j k new same kept =
    subst (λ (x : Journal _). KeepsCheckpoints (crash_of (muted told d) (disk_of x)) (crash_of (muted told d) (disk_of new))) same kept

-- the texts go on from where the volume was prepared
changed_from : {D T E : Type 0} (d : Ghosts D) (was : Holdings D) (mid new : Journal D) (info : List ℕ) (born now : ℕ) (result : Result T E)
    → mid ≡ was.journal → info ≡ info_text was.book.namespace (length was.book.volumes) born → born ≡ now
    → Changes d mid new (texts d mid ++ info ∷ []) result → Changes d was.journal new (texts_begun d was now) result
changed_from d was mid new info born now result journal_is info_is born_is change =
    subst (λ (j : Journal _). Changes d j new (texts d j ++ info_text was.book.namespace (length was.book.volumes) now ∷ []) result) journal_is
    (subst (λ (text : List ℕ). Changes d mid new (texts d mid ++ text ∷ []) result)
    (info_is ∙ ap (λ (n : ℕ). info_text was.book.namespace (length was.book.volumes) n) born_is) change)

pub returns-then-not-is_filled : goal.returns-then-not-is_filled
returns-then-not-is_filled g c =
    let empty = sym c.is_filled.ensures ∙ c.if-not-is_filled.true in
    subst (λ (held : Holdings _). Rolls {T = ⊤} g.D.Disk held held c.args.now (Ok tt)) c.archive.view_is
    (laws.rolls_none g.D.Disk (holdings_of c.archive.inside) c.args.now empty)

pub returns-in_err-prepared : goal.returns-in_err-prepared
returns-in_err-prepared g c =
    let filled = sym c.is_filled.ensures ∙ c.if-not-is_filled.false in
    laws.at_fault (λ (r : Result _ _). Rolls {T = ⊤} g.D.Disk c.args.archive.now (record (holdings_of c.archive.inside) { journal = c.prepare.new.self.journal; book = book_of c.prepare.new.self.held }) c.args.now r)
    rolls.Memory c.from_residual.result c.from_residual.ensures.1
    (subst (λ (held : Holdings _). Rolls {T = ⊤} g.D.Disk held (record (holdings_of c.archive.inside) { journal = c.prepare.new.self.journal; book = book_of c.prepare.new.self.held }) c.args.now (Err rolls.Memory)) c.archive.view_is
    (laws.of_the_same (λ j b n. Rolls {T = ⊤} g.D.Disk (holdings_of c.archive.inside) (record (holdings_of c.archive.inside) { journal = j; book = b }) n (Err rolls.Memory))
    c.archive.inside.volumes.journal c.prepare.new.self.journal (book_of c.archive.inside.volumes.held) (book_of c.prepare.new.self.held) c.args.now c.args.now
    (sym c.prepare.ensures.journal) (sym c.prepare.ensures.book) refl
    (laws.rolls_memory g.D.Disk (holdings_of c.archive.inside) c.args.now filled)))

pub begin-requires-clause-holds : goal.begin-requires-clause-holds
begin-requires-clause-holds g c =
    let same = c.in_ok-prepared.ensures in
    laws.of_the_same (λ j b n. HoldsBook g.D.Disk c.archive.inside.told.value j b) c.archive.inside.volumes.journal c.prepare.new.self.journal
    (book_of c.archive.inside.volumes.held) (book_of c.prepare.new.self.held) 0 0 (sym same.journal) (sym same.book) refl c.archive.invariant.holds

pub begin-requires-clause-filled : goal.begin-requires-clause-filled
begin-requires-clause-filled g c =
    let filled = sym c.is_filled.ensures ∙ c.if-not-is_filled.false in
    subst (λ (book : Book). AreFilled book) (sym c.in_ok-prepared.ensures.book)
    (all_filled (book_of c.archive.inside.volumes.held).volumes filled c.archive.invariant.measured.filled)

pub begin-requires-clause-number : goal.begin-requires-clause-number
begin-requires-clause-number g c =
    let filled = sym c.is_filled.ensures ∙ c.if-not-is_filled.false in
    let few = filled_count (book_of c.archive.inside.volumes.held).volumes
    (all_filled (book_of c.archive.inside.volumes.held).volumes filled c.archive.invariant.measured.filled) in
    omega (arith, ap (λ (j : Journal _). volumes j) c.in_ok-prepared.ensures.journal, c.archive.invariant.measured.count, few, c.archive.invariant.counted.few)

pub invariant_of-archive-in_err-begin : goal.invariant_of-archive-in_err-begin
invariant_of-archive-in_err-begin g c =
    let same = c.in_ok-prepared.ensures in
    laws.refused_archive g.D.Disk (holdings_of c.archive.inside) c.args.now c.begin.new.self.journal (book_of c.begin.new.self.held)
    (sym c.is_filled.ensures ∙ c.if-not-is_filled.false)
    (λ told. c.begin.ensures.others told ∙ ap (λ (j : Journal _). cdxj_files (g.D.Disk.reading (disk_of j))) same.journal)
    c.entries_gain_what_is_stored.ensures.same
    (c.leading_books_grow.ensures.grows true (book_of c.archive.inside.volumes.held) (book_of c.archive.inside.volumes.held) refl)
    c.archive.invariant c.begin.ensures.holds c.begin.ensures.measured
    (kept_from g.D.Disk c.archive.inside.told.value c.prepare.new.self.journal c.archive.inside.volumes.journal c.begin.new.self.journal same.journal c.begin.ensures.makes.kept)
    (c.in_err-begin.ensures.book ∙ same.book)
    (λ told. c.in_err-begin.ensures.texts told ∙ ap (λ (j : Journal _). texts g.D.Disk j) same.journal)

pub returns-in_err-begin : goal.returns-in_err-begin
returns-in_err-begin g c =
    let same = c.in_ok-prepared.ensures in
    laws.at_fault (λ (r : Result _ _). Rolls {T = ⊤} g.D.Disk c.args.archive.now (record (holdings_of c.archive.inside) { journal = c.begin.new.self.journal; book = book_of c.begin.new.self.held }) c.args.now r)
    rolls.DiskFault c.from_residual-in_err-begin.result c.from_residual-in_err-begin.ensures.1
    (subst (λ (held : Holdings _). Rolls {T = ⊤} g.D.Disk held (record (holdings_of c.archive.inside) { journal = c.begin.new.self.journal; book = book_of c.begin.new.self.held }) c.args.now (Err rolls.DiskFault)) c.archive.view_is
    (laws.rolls_err g.D.Disk (holdings_of c.archive.inside) c.args.now c.begin.new.self.journal (book_of c.begin.new.self.held)
    (sym c.is_filled.ensures ∙ c.if-not-is_filled.false)
    (λ told. c.begin.ensures.others told ∙ ap (λ (j : Journal _). cdxj_files (g.D.Disk.reading (disk_of j))) same.journal)
    c.in_err-begin.field-0.0 (c.in_err-begin.ensures.book ∙ same.book)
    (laws.of_the_same (λ j b n. Makes {T = ⊤} {E = DiskFault} (muted c.archive.inside.told.value g.D.Disk) (disk_of j) (disk_of c.begin.new.self.journal) b (with_volume b n) (Err c.in_err-begin.field-0.0))
    c.prepare.new.self.journal c.archive.inside.volumes.journal (book_of c.prepare.new.self.held) (book_of c.archive.inside.volumes.held)
    c.in_ok-prepared.prepared.shadow.born c.args.now same.journal same.book same.born
    c.in_err-begin.ensures.makes)
    (subst (λ (j : Journal _). CountsFaults {T = ⊤} {E = DiskFault} (g.D.Disk.faults (disk_of j)) (g.D.Disk.faults (disk_of c.begin.new.self.journal)) (Err c.in_err-begin.field-0.0))
    same.journal c.in_err-begin.ensures.faults)
    (c.in_err-begin.ensures.last_len ∙ ap (λ (j : Journal _). last_len j) same.journal)
    (λ tells.
    changed_from {T = ⊤} g.D.Disk (holdings_of c.archive.inside) c.prepare.new.self.journal c.begin.new.self.journal
    c.in_ok-prepared.prepared.info c.in_ok-prepared.prepared.shadow.born c.args.now (Err c.in_err-begin.field-0.0) same.journal same.prepared.info same.born
    (c.in_err-begin.ensures.change tells))))

pub invariant_of-archive-2 : goal.invariant_of-archive-2
invariant_of-archive-2 g c =
    let same = c.in_ok-prepared.ensures in
    laws.begun_archive g.D.Disk (holdings_of c.archive.inside) c.args.now c.begin.new.self.journal (book_of c.begin.new.self.held)
    (sym c.is_filled.ensures ∙ c.if-not-is_filled.false)
    (λ told. c.begin.ensures.others told ∙ ap (λ (j : Journal _). cdxj_files (g.D.Disk.reading (disk_of j))) same.journal)
    c.entries_gain_what_is_stored.ensures.same c.archive.invariant c.begin.ensures.holds c.begin.ensures.measured
    (kept_from g.D.Disk c.archive.inside.told.value c.prepare.new.self.journal c.archive.inside.volumes.journal c.begin.new.self.journal same.journal c.begin.ensures.makes.kept)
    (c.in_ok-begin.ensures.book ∙ ap (λ (b : Book). with_volume b c.in_ok-prepared.prepared.shadow.born) same.book
    ∙ ap (λ (n : ℕ). with_volume (book_of c.archive.inside.volumes.held) n) same.born)
    c.in_ok-prepared.prepared.info
    (λ told. c.in_ok-begin.ensures.texts told ∙ ap (λ (j : Journal _). texts g.D.Disk j ++ c.in_ok-prepared.prepared.info ∷ []) same.journal)

pub returns : goal.returns
returns g c =
    let same = c.in_ok-prepared.ensures in
    subst (λ (held : Holdings _). Rolls {T = ⊤} g.D.Disk held (record (holdings_of c.archive.inside) { journal = c.begin.new.self.journal; book = book_of c.begin.new.self.held }) c.args.now (Ok tt)) c.archive.view_is
    (laws.rolls_ok g.D.Disk (holdings_of c.archive.inside) c.args.now c.begin.new.self.journal (book_of c.begin.new.self.held)
    (sym c.is_filled.ensures ∙ c.if-not-is_filled.false)
    (λ told. c.begin.ensures.others told ∙ ap (λ (j : Journal _). cdxj_files (g.D.Disk.reading (disk_of j))) same.journal)
    c.in_ok-begin.field-0
    (c.in_ok-begin.ensures.book ∙ ap (λ (b : Book). with_volume b c.in_ok-prepared.prepared.shadow.born) same.book
    ∙ ap (λ (n : ℕ). with_volume (book_of c.archive.inside.volumes.held) n) same.born)
    (laws.of_the_same (λ j b n. Makes {T = ⊤} {E = DiskFault} (muted c.archive.inside.told.value g.D.Disk) (disk_of j) (disk_of c.begin.new.self.journal) b (with_volume b n) (Ok c.in_ok-begin.field-0))
    c.prepare.new.self.journal c.archive.inside.volumes.journal (book_of c.prepare.new.self.held) (book_of c.archive.inside.volumes.held)
    c.in_ok-prepared.prepared.shadow.born c.args.now same.journal same.book same.born
    c.in_ok-begin.ensures.makes)
    (subst (λ (j : Journal _). CountsFaults {T = ⊤} {E = DiskFault} (g.D.Disk.faults (disk_of j)) (g.D.Disk.faults (disk_of c.begin.new.self.journal)) (Ok c.in_ok-begin.field-0))
    same.journal c.in_ok-begin.ensures.faults)
    (c.in_ok-begin.ensures.last_len
    ∙ ap length same.prepared.info
    ∙ ap (λ (n : ℕ). length (info_text (book_of c.archive.inside.volumes.held).namespace (length (book_of c.archive.inside.volumes.held).volumes) n)) same.born)
    (λ tells.
    changed_from {E = DiskFault} g.D.Disk (holdings_of c.archive.inside) c.prepare.new.self.journal c.begin.new.self.journal
    c.in_ok-prepared.prepared.info c.in_ok-prepared.prepared.shadow.born c.args.now (Ok c.in_ok-begin.field-0) same.journal same.prepared.info same.born
    (c.in_ok-begin.ensures.change tells)))
