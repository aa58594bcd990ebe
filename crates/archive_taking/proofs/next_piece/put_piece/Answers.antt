use Rattle.std.proofs.Common.{true, ◌≡◌, ◌+◌, ℕ, List, length, Some, Ok, Err, refl, sym, ap, subst, ◌∙◌, arith, ◌++◌, [], ◌∷◌}
use Rattle.std.specs.Prelude.{is_some}
use Rattle.capture.specs.Captures.{captures}
use Rattle.capture.specs.declared.book.Book.{Book}
use Rattle.capture.specs.declared.captured.Stored.{Stored}
use Rattle.index_entry.specs.Facts.{Facts}
use Rattle.index_entry.specs.Order.{without}
use Rattle.time_text.specs.Texts.{InRange}
use Rattle.warc_journal.specs.Journals.{disk_of}
use Rattle.warc_journal.specs.declared.journal.Journal.{Journal}
use Rattle.archive_shelf.specs.Answers.{CountsIf}
use Rattle.archive_volumes.specs.Entries.{entered}
use Rattle.archive_volumes.specs.Held.{book_of}
use Rattle.archive_volumes.specs.Spots.{AreHeldWhole, whole_from}
use Rattle.archive_volumes.specs.declared.spot.Spot.{Spot}
use Rattle.archive_core.specs.Holdings.{Holdings}
use Rattle.archive_pieces.specs.PieceReady.{MayHold}
use Rattle.archive_taking.specs.TakingPieces.{Puts}
use Rattle.archive_core.specs.View.{holdings_of}
use Rattle.archive_pieces.specs.declared.fault.PieceFault.TheVariants as pieces
use Rattle.archive_core.proofs.ExitLaws as exits
use Rattle.archive_core.proofs.NamedLaws.{before_at}
use Rattle.archive_taking.proofs.PieceExitLaws as laws
use Rattle.archive_taking.proofs.next_piece.put_piece.Given.{Over}
use Rattle.archive_volumes.specs.Volumes.{CanReadBy}
use Rattle.archive_core.proofs.ReadLaws.{readable}
use Rattle.archive_taking.proofs.next_piece.put_piece.Goals as goal
use Rattle.archive_taking.specs.steps.Taking.{parts_as}
use Rattle.archive_volumes.specs.Ready.{spot_in}

pub head_in-head-requires : goal.head_in-head-requires
head_in-head-requires g c = record { namespace = c.args.archive.now.book.namespace; number = length (captures c.args.archive.now.book); is = c.requires.group }

pub make_piece_ready-requires-clause-holds : goal.make_piece_ready-requires-clause-holds
make_piece_ready-requires-clause-holds g c =
    subst (λ (held : Holdings _). MayHold held.book c.args.begins) (sym c.archive.view_is) c.requires.holds

pub record_at-at-requires-clause-measured : goal.record_at-at-requires-clause-measured
record_at-at-requires-clause-measured g c =
    laws.measured_on c.archive.inside.volumes c.make_piece_ready.new.volumes c.make_piece_ready.ensures.journal c.make_piece_ready.ensures.book
    c.archive.invariant.measured

pub record_at-at-requires-clause-room : goal.record_at-at-requires-clause-room
record_at-at-requires-clause-room g c = c.in_ok-ready.ensures.room.room

pub enter_ready-requires-clause-date : goal.enter_ready-requires-clause-date
enter_ready-requires-clause-date g c =
    let ready_is = laws.of_group c.args.text.now c.args.group c.in_ok-roomed.roomed c.args.first c.in_ok-ready.ready c.in_ok-roomed.ensures.same c.in_ok-ready.ensures.ready in
    subst (λ (s : Stored). InRange s.date) (sym ready_is.stored) (subst InRange (sym (laws.date_same c.args.group.stored c.args.first)) c.requires.group.date)

pub enter_ready-requires-clause-kept : goal.enter_ready-requires-clause-kept
enter_ready-requires-clause-kept g c =
    let ready_is = laws.of_group c.args.text.now c.args.group c.in_ok-roomed.roomed c.args.first c.in_ok-ready.ready c.in_ok-roomed.ensures.same c.in_ok-ready.ensures.ready in
    ready_is.kept

pub enter_ready-requires-clause-is : goal.enter_ready-requires-clause-is
enter_ready-requires-clause-is g c =
    let ready_is = laws.of_group c.args.text.now c.args.group c.in_ok-roomed.roomed c.args.first c.in_ok-ready.ready c.in_ok-roomed.ensures.same c.in_ok-ready.ensures.ready in
    c.head_in-head.ensures ∙ sym (laws.head_same c.args.group.stored c.args.first) ∙ sym (ap (λ (s : Stored). s.head) ready_is.stored)

pub enter_ready-requires-clause-head : goal.enter_ready-requires-clause-head
enter_ready-requires-clause-head g c =
    let book = c.args.archive.now.book in
    let there = laws.head_of_group book.namespace (length (captures book)) c.args.text.now c.head_in-head.result.now c.args.group c.requires.group c.head_in-head.ensures in
    (there.head, there.is)

pub enter_ready-requires-clause-indexed : goal.enter_ready-requires-clause-indexed
enter_ready-requires-clause-indexed g c =
    c.archive.invariant.indexed

pub enter_ready-requires-clause-behind : goal.enter_ready-requires-clause-behind
enter_ready-requires-clause-behind g c =
    let was : Holdings _ = holdings_of c.archive.inside in
    let many : c.len-number.result ≡ length c.archive.inside.spots.items = omega (arith, c.len-number.ensures, c.archive.inside.spots.ok.0) in
    before_at c.make_piece_ready.new.volumes c.in_ok-ready.ready c.record_at-at.result c.len-number.result (length (captures was.book)) c.record_at-at.ensures
    (many ∙ c.archive.invariant.spots.count) was.index c.archive.invariant.counted.below

-- all that is known of the piece once its entry is in the index
taken : (g : Over) (c : goal.After-commit-arg-4-1 g)
    → laws.IsTaking g.D.Disk (holdings_of c.archive.inside) c.make_piece_ready.new.volumes c.args.text.now c.args.group c.args.first c.args.begins c.in_ok-entered.entered
taken g c =
    let was : Holdings _ = holdings_of c.archive.inside in
    let now = c.make_piece_ready.new.volumes in
    let ready = c.in_ok-entered.entered in
    let text = c.args.text.now in
    let group = c.args.group in
    let first = c.args.first in
    let begins = c.args.begins in
    laws.taking g.D.Disk c.args.archive.now was c.archive.inside.volumes now text group first begins ready c.archive.view_is refl refl c.archive.invariant
    c.requires.not_full c.requires.group c.requires.refers c.requires.holds c.requires.bounds c.make_piece_ready.ensures.journal
    c.make_piece_ready.ensures.book (laws.handed_back text group first c.in_ok-ready.ready ready c.in_ok-entered.ensures.same (laws.of_group c.args.text.now c.args.group c.in_ok-roomed.roomed c.args.first c.in_ok-ready.ready c.in_ok-roomed.ensures.same c.in_ok-ready.ensures.ready))
    (laws.room_back c.archive.inside.volumes now begins c.in_ok-ready.ready ready c.in_ok-entered.ensures.same c.in_ok-ready.ensures.room)

pub commit-requires-clause-ready : goal.commit-requires-clause-ready
commit-requires-clause-ready g c =
    laws.commit_ready g.D.Disk c.storing_has_a_basis.ensures c.reading_laws.ensures (holdings_of c.archive.inside) c.make_piece_ready.new.volumes
    c.args.text.now c.args.group c.args.first c.args.begins c.in_ok-entered.entered (taken g c)

pub commit-requires-clause-readable : goal.commit-requires-clause-readable
commit-requires-clause-readable g c =
    let now = c.make_piece_ready.new.volumes in
    subst (CanReadBy g.D.Disk c.archive.inside.told.value now.journal (book_of now.held)) (sym c.with_room.ensures.spots) (readable g.D.Disk (taken g c).is)

pub commit-requires-clause-table : goal.commit-requires-clause-table
commit-requires-clause-table g c =
    c.with_room.ensures.table ∙ c.archive.invariant.table ∙ sym (ap (λ (l : List Spot). whole_from 0 l) c.with_room.ensures.spots)

pub commit-requires-clause-space : goal.commit-requires-clause-space
commit-requires-clause-space g c =
    c.in_ok-roomed.ensures.room

pub commit-requires-clause-reserved : goal.commit-requires-clause-reserved
commit-requires-clause-reserved g c =
    c.in_ok-roomed.ensures.reserved ∙ ap (λ (digest : List ℕ). Some digest) (sym (taken g c).ready_is.digest)

pub commit-requires-clause-few : goal.commit-requires-clause-few
commit-requires-clause-few g c =
    omega (arith, ap (λ (l : List Spot). length l) c.with_room.ensures.spots, c.archive.invariant.spots.count, c.archive.invariant.counted.few)

pub invariant_of-archive : goal.invariant_of-archive
invariant_of-archive g c =
    let was : Holdings _ = holdings_of c.archive.inside in
    exits.memory_archive g.D.Disk was (record was { journal = c.archive.inside.volumes.journal; book = book_of c.archive.inside.volumes.held; table = c.with_room.new.table; index = c.archive.inside.index; spots = c.with_room.new.spots.items }) refl refl refl refl refl refl refl
    c.archive.invariant c.with_room.ensures.spots c.with_room.ensures.table refl

pub returns-in_err-roomed-clause-puts : goal.returns-in_err-roomed-clause-puts
returns-in_err-roomed-clause-puts g c =
    let was : Holdings _ = holdings_of c.archive.inside in
    let is : Holdings _ = record was { journal = c.archive.inside.volumes.journal; book = book_of c.archive.inside.volumes.held; table = c.with_room.new.table; index = c.archive.inside.index; spots = c.with_room.new.spots.items } in
    subst (λ (held : Holdings _). Puts g.D.Disk held is (parts_as c.args.text.now c.args.group c.args.first c.args.begins) c.from_residual.result) c.archive.view_is
    (laws.memory_exit g.D.Disk was is c.args.text.now c.args.group c.args.first c.args.begins
    (laws.untouched g.D.Disk was is refl refl refl refl refl refl) c.from_residual.result c.from_residual.ensures.1)

pub returns-in_err-roomed-clause-faults : goal.returns-in_err-roomed-clause-faults
returns-in_err-roomed-clause-faults g c =
    laws.memory_faults g.D.Disk c.args.archive.now.journal (c.archive.inside.volumes.journal)
    (refl ∙ ap (λ (held : Holdings _). held.journal) c.archive.view_is) c.from_residual.result c.from_residual.ensures.1

pub invariant_of-archive-in_err-ready : goal.invariant_of-archive-in_err-ready
invariant_of-archive-in_err-ready g c =
    let was : Holdings _ = holdings_of c.archive.inside in
    exits.memory_archive g.D.Disk was (record was { journal = c.make_piece_ready.new.volumes.journal; book = book_of c.make_piece_ready.new.volumes.held; table = c.with_room.new.table; index = c.archive.inside.index; spots = c.with_room.new.spots.items }) c.make_piece_ready.ensures.journal c.make_piece_ready.ensures.book refl refl refl refl refl
    c.archive.invariant c.with_room.ensures.spots c.with_room.ensures.table refl

pub returns-in_err-ready-clause-puts : goal.returns-in_err-ready-clause-puts
returns-in_err-ready-clause-puts g c =
    let was : Holdings _ = holdings_of c.archive.inside in
    let is : Holdings _ = record was { journal = c.make_piece_ready.new.volumes.journal; book = book_of c.make_piece_ready.new.volumes.held; table = c.with_room.new.table; index = c.archive.inside.index; spots = c.with_room.new.spots.items } in
    subst (λ (held : Holdings _). Puts g.D.Disk held is (parts_as c.args.text.now c.args.group c.args.first c.args.begins) c.from_residual-in_err-ready.result) c.archive.view_is
    (laws.memory_exit g.D.Disk was is c.args.text.now c.args.group c.args.first c.args.begins
    (laws.untouched g.D.Disk was is c.make_piece_ready.ensures.journal c.make_piece_ready.ensures.book refl refl refl refl) c.from_residual-in_err-ready.result c.from_residual-in_err-ready.ensures.1)

pub returns-in_err-ready-clause-faults : goal.returns-in_err-ready-clause-faults
returns-in_err-ready-clause-faults g c =
    laws.memory_faults g.D.Disk c.args.archive.now.journal (c.make_piece_ready.new.volumes.journal)
    (c.make_piece_ready.ensures.journal ∙ ap (λ (held : Holdings _). held.journal) c.archive.view_is) c.from_residual-in_err-ready.result c.from_residual-in_err-ready.ensures.1

pub invariant_of-archive-in_err-entered : goal.invariant_of-archive-in_err-entered
invariant_of-archive-in_err-entered g c =
    let was : Holdings _ = holdings_of c.archive.inside in
    exits.memory_archive g.D.Disk was (record was { journal = c.make_piece_ready.new.volumes.journal; book = book_of c.make_piece_ready.new.volumes.held; table = c.with_room.new.table; index = c.enter_ready.new.index; spots = c.with_room.new.spots.items }) c.make_piece_ready.ensures.journal c.make_piece_ready.ensures.book c.in_err-entered.ensures.refused refl refl refl refl
    c.archive.invariant c.with_room.ensures.spots c.with_room.ensures.table refl

pub returns-in_err-entered-clause-puts : goal.returns-in_err-entered-clause-puts
returns-in_err-entered-clause-puts g c =
    let was : Holdings _ = holdings_of c.archive.inside in
    let is : Holdings _ = record was { journal = c.make_piece_ready.new.volumes.journal; book = book_of c.make_piece_ready.new.volumes.held; table = c.with_room.new.table; index = c.enter_ready.new.index; spots = c.with_room.new.spots.items } in
    subst (λ (held : Holdings _). Puts g.D.Disk held is (parts_as c.args.text.now c.args.group c.args.first c.args.begins) c.from_residual-in_err-entered.result) c.archive.view_is
    (laws.memory_exit g.D.Disk was is c.args.text.now c.args.group c.args.first c.args.begins
    (laws.untouched g.D.Disk was is c.make_piece_ready.ensures.journal c.make_piece_ready.ensures.book c.in_err-entered.ensures.refused refl refl refl) c.from_residual-in_err-entered.result c.from_residual-in_err-entered.ensures.1)

pub returns-in_err-entered-clause-faults : goal.returns-in_err-entered-clause-faults
returns-in_err-entered-clause-faults g c =
    laws.memory_faults g.D.Disk c.args.archive.now.journal (c.make_piece_ready.new.volumes.journal)
    (c.make_piece_ready.ensures.journal ∙ ap (λ (held : Holdings _). held.journal) c.archive.view_is) c.from_residual-in_err-entered.result c.from_residual-in_err-entered.ensures.1

pub invariant_of-archive-in-Err : goal.invariant_of-archive-in-Err
invariant_of-archive-in-Err g c =
    let was : Holdings _ = holdings_of c.archive.inside in
    let now = c.make_piece_ready.new.volumes in
    let ready = c.in_ok-entered.entered in
    let text = c.args.text.now in
    let group = c.args.group in
    let first = c.args.first in
    let begins = c.args.begins in
    let t = laws.taking g.D.Disk c.args.archive.now was c.archive.inside.volumes now text group first begins ready c.archive.view_is refl refl c.archive.invariant
    c.requires.not_full c.requires.group c.requires.refers c.requires.holds c.requires.bounds c.make_piece_ready.ensures.journal
    c.make_piece_ready.ensures.book (laws.handed_back text group first c.in_ok-ready.ready ready c.in_ok-entered.ensures.same (laws.of_group c.args.text.now c.args.group c.in_ok-roomed.roomed c.args.first c.in_ok-ready.ready c.in_ok-roomed.ensures.same c.in_ok-ready.ensures.ready))
    (laws.room_back c.archive.inside.volumes now begins c.in_ok-ready.ready ready c.in_ok-entered.ensures.same c.in_ok-ready.ensures.room) in
    let has = c.in_ok-entered.ensures.entered in
    let at_is = exits.record_back now c.in_ok-ready.ready ready c.record_at-at.result c.len-number.result c.in_ok-entered.ensures.same c.record_at-at.ensures in
    let many : c.len-number.result ≡ length c.archive.inside.spots.items = omega (arith, c.len-number.ensures, c.archive.inside.spots.ok.0) in
    let count : c.len-number.result ≡ length (captures was.book) = many ∙ c.archive.invariant.spots.count in
    let number : c.len-number.result ≡ length (captures (book_of now.held)) =
    count ∙ sym (ap (λ (b : Book). length (captures b)) c.make_piece_ready.ensures.book) in
    let back = c.take_back.ensures
    ∙ ap (λ (l : List Facts). without c.len-number.result l) has.is
    ∙ ap (λ (k : ℕ). without k (entered has.entry was.index)) number in
    laws.refused_archive g.D.Disk c.storing_has_a_basis.ensures c.reading_laws.ensures was now text group first begins ready t c.record_at-at.result c.len-number.result at_is number has.entry has.enters
    c.commit.new.self.journal (book_of c.commit.new.self.held) c.commit.new.table c.take_back.new.self c.commit.new.spots.items
    c.commit.ensures.holds c.commit.ensures.measured c.commit.ensures.table c.commit.ensures.spots c.commit.ensures.within c.commit.ensures.placed
    (λ untold. c.commit.ensures.made (subst (λ (l : List Spot). AreHeldWhole (book_of now.held) l) (sym c.with_room.ensures.spots) (t.is.made untold)))
    c.commit.ensures.others
    c.in-Err.ensures.left back c.in-Err.field-0 (c.in-Err.ensures.unkept ∙ c.with_room.ensures.spots) c.in-Err.ensures.writes

pub returns-in-Err-clause-puts : goal.returns-in-Err-clause-puts
returns-in-Err-clause-puts g c =
    let was : Holdings _ = holdings_of c.archive.inside in
    let now = c.make_piece_ready.new.volumes in
    let ready = c.in_ok-entered.entered in
    let text = c.args.text.now in
    let group = c.args.group in
    let first = c.args.first in
    let begins = c.args.begins in
    let t = laws.taking g.D.Disk c.args.archive.now was c.archive.inside.volumes now text group first begins ready c.archive.view_is refl refl c.archive.invariant
    c.requires.not_full c.requires.group c.requires.refers c.requires.holds c.requires.bounds c.make_piece_ready.ensures.journal
    c.make_piece_ready.ensures.book (laws.handed_back text group first c.in_ok-ready.ready ready c.in_ok-entered.ensures.same (laws.of_group c.args.text.now c.args.group c.in_ok-roomed.roomed c.args.first c.in_ok-ready.ready c.in_ok-roomed.ensures.same c.in_ok-ready.ensures.ready))
    (laws.room_back c.archive.inside.volumes now begins c.in_ok-ready.ready ready c.in_ok-entered.ensures.same c.in_ok-ready.ensures.room) in
    let has = c.in_ok-entered.ensures.entered in
    let at_is = exits.record_back now c.in_ok-ready.ready ready c.record_at-at.result c.len-number.result c.in_ok-entered.ensures.same c.record_at-at.ensures in
    let many : c.len-number.result ≡ length c.archive.inside.spots.items = omega (arith, c.len-number.ensures, c.archive.inside.spots.ok.0) in
    let count : c.len-number.result ≡ length (captures was.book) = many ∙ c.archive.invariant.spots.count in
    let number : c.len-number.result ≡ length (captures (book_of now.held)) =
    count ∙ sym (ap (λ (b : Book). length (captures b)) c.make_piece_ready.ensures.book) in
    let back = c.take_back.ensures
    ∙ ap (λ (l : List Facts). without c.len-number.result l) has.is
    ∙ ap (λ (k : ℕ). without k (entered has.entry was.index)) number in
    let same : exits.in_volumes was now ≡ c.args.archive.now =
    exits.same_holdings was now c.make_piece_ready.ensures.journal c.make_piece_ready.ensures.book ∙ c.archive.view_is in
    let is : Holdings _ = record was {
      journal = c.commit.new.self.journal;
      book = book_of c.commit.new.self.held;
      table = c.commit.new.table;
      index = c.take_back.new.self;
      spots = c.commit.new.spots.items;
    } in
    subst (λ (held : Holdings _). Puts g.D.Disk held is (parts_as text group first begins) (Err pieces.DiskFault)) same
    (laws.refused_puts g.D.Disk c.storing_has_a_basis.ensures c.reading_laws.ensures was now text group first begins ready t c.record_at-at.result c.len-number.result at_is number has.entry has.enters
    c.commit.new.self.journal (book_of c.commit.new.self.held) c.commit.new.table c.take_back.new.self c.commit.new.spots.items
    c.commit.ensures.holds c.commit.ensures.measured c.commit.ensures.table c.commit.ensures.spots c.commit.ensures.within c.commit.ensures.placed
    (λ untold. c.commit.ensures.made (subst (λ (l : List Spot). AreHeldWhole (book_of now.held) l) (sym c.with_room.ensures.spots) (t.is.made untold)))
    c.commit.ensures.others
    c.in-Err.ensures.left back c.in-Err.field-0 c.in-Err.ensures.writes c.in-Err.ensures.bytes)

pub overflow_add-archive : goal.overflow_add-archive
overflow_add-archive g c =
    omega (
      arith,
      c.revisits_in.ensures,
      exits.revisits_few g.D.Disk (holdings_of c.archive.inside) (is_some c.args.first) c.archive.invariant,
    )

pub invariant_of-archive-in-Ok : goal.invariant_of-archive-in-Ok
invariant_of-archive-in-Ok g c =
    let was : Holdings _ = holdings_of c.archive.inside in
    let now = c.make_piece_ready.new.volumes in
    let ready = c.in_ok-entered.entered in
    let text = c.args.text.now in
    let group = c.args.group in
    let first = c.args.first in
    let begins = c.args.begins in
    let t = laws.taking g.D.Disk c.args.archive.now was c.archive.inside.volumes now text group first begins ready c.archive.view_is refl refl c.archive.invariant
    c.requires.not_full c.requires.group c.requires.refers c.requires.holds c.requires.bounds c.make_piece_ready.ensures.journal
    c.make_piece_ready.ensures.book (laws.handed_back text group first c.in_ok-ready.ready ready c.in_ok-entered.ensures.same (laws.of_group c.args.text.now c.args.group c.in_ok-roomed.roomed c.args.first c.in_ok-ready.ready c.in_ok-roomed.ensures.same c.in_ok-ready.ensures.ready))
    (laws.room_back c.archive.inside.volumes now begins c.in_ok-ready.ready ready c.in_ok-entered.ensures.same c.in_ok-ready.ensures.room) in
    let has = c.in_ok-entered.ensures.entered in
    let at_is = exits.record_back now c.in_ok-ready.ready ready c.record_at-at.result c.len-number.result c.in_ok-entered.ensures.same c.record_at-at.ensures in
    let many : c.len-number.result ≡ length c.archive.inside.spots.items = omega (arith, c.len-number.ensures, c.archive.inside.spots.ok.0) in
    let count : c.len-number.result ≡ length (captures was.book) = many ∙ c.archive.invariant.spots.count in
    let number : c.len-number.result ≡ length (captures (book_of now.held)) =
    count ∙ sym (ap (λ (b : Book). length (captures b)) c.make_piece_ready.ensures.book) in
    let more = ap (λ (k : ℕ). c.archive.inside.revisits + k) c.revisits_in.ensures in
    laws.stored_archive g.D.Disk c.storing_has_a_basis.ensures c.reading_laws.ensures was now text group first begins ready t c.record_at-at.result c.len-number.result at_is number has.entry has.enters
    c.commit.new.self.journal (book_of c.commit.new.self.held) c.commit.new.table c.enter_ready.new.index c.commit.new.spots.items
    c.commit.ensures.holds c.commit.ensures.measured c.commit.ensures.table c.commit.ensures.spots c.commit.ensures.within c.commit.ensures.placed
    (λ untold. c.commit.ensures.made (subst (λ (l : List Spot). AreHeldWhole (book_of now.held) l) (sym c.with_room.ensures.spots) (t.is.made untold)))
    c.commit.ensures.others
    (c.archive.inside.revisits + c.revisits_in.result) c.in-Ok.ensures.stored has.is c.in-Ok.field-0
    (c.in-Ok.ensures.kept ∙ ap (λ (l : List Spot). l ++ spot_in now ready ∷ []) c.with_room.ensures.spots) c.in-Ok.ensures.writes c.enter_ready.ensures.indexed more

pub returns-in-Ok-clause-puts : goal.returns-in-Ok-clause-puts
returns-in-Ok-clause-puts g c =
    let was : Holdings _ = holdings_of c.archive.inside in
    let now = c.make_piece_ready.new.volumes in
    let ready = c.in_ok-entered.entered in
    let text = c.args.text.now in
    let group = c.args.group in
    let first = c.args.first in
    let begins = c.args.begins in
    let t = laws.taking g.D.Disk c.args.archive.now was c.archive.inside.volumes now text group first begins ready c.archive.view_is refl refl c.archive.invariant
    c.requires.not_full c.requires.group c.requires.refers c.requires.holds c.requires.bounds c.make_piece_ready.ensures.journal
    c.make_piece_ready.ensures.book (laws.handed_back text group first c.in_ok-ready.ready ready c.in_ok-entered.ensures.same (laws.of_group c.args.text.now c.args.group c.in_ok-roomed.roomed c.args.first c.in_ok-ready.ready c.in_ok-roomed.ensures.same c.in_ok-ready.ensures.ready))
    (laws.room_back c.archive.inside.volumes now begins c.in_ok-ready.ready ready c.in_ok-entered.ensures.same c.in_ok-ready.ensures.room) in
    let has = c.in_ok-entered.ensures.entered in
    let at_is = exits.record_back now c.in_ok-ready.ready ready c.record_at-at.result c.len-number.result c.in_ok-entered.ensures.same c.record_at-at.ensures in
    let many : c.len-number.result ≡ length c.archive.inside.spots.items = omega (arith, c.len-number.ensures, c.archive.inside.spots.ok.0) in
    let count : c.len-number.result ≡ length (captures was.book) = many ∙ c.archive.invariant.spots.count in
    let number : c.len-number.result ≡ length (captures (book_of now.held)) =
    count ∙ sym (ap (λ (b : Book). length (captures b)) c.make_piece_ready.ensures.book) in
    let same : exits.in_volumes was now ≡ c.args.archive.now =
    exits.same_holdings was now c.make_piece_ready.ensures.journal c.make_piece_ready.ensures.book ∙ c.archive.view_is in
    let is : Holdings _ = record was {
      journal = c.commit.new.self.journal;
      book = book_of c.commit.new.self.held;
      table = c.commit.new.table;
      index = c.enter_ready.new.index;
      spots = c.commit.new.spots.items;
      revisits = c.archive.inside.revisits + c.revisits_in.result;
    } in
    subst (λ (held : Holdings _). Puts g.D.Disk held is (parts_as text group first begins) (Ok c.len-number.result)) same
    (laws.stored_puts g.D.Disk c.storing_has_a_basis.ensures c.reading_laws.ensures was now text group first begins ready t c.record_at-at.result c.len-number.result at_is number has.entry has.enters
    c.commit.new.self.journal (book_of c.commit.new.self.held) c.commit.new.table c.enter_ready.new.index c.commit.new.spots.items
    c.commit.ensures.holds c.commit.ensures.measured c.commit.ensures.table c.commit.ensures.spots c.commit.ensures.within c.commit.ensures.placed
    (λ untold. c.commit.ensures.made (subst (λ (l : List Spot). AreHeldWhole (book_of now.held) l) (sym c.with_room.ensures.spots) (t.is.made untold)))
    c.commit.ensures.others
    (c.archive.inside.revisits + c.revisits_in.result) c.in-Ok.ensures.stored has.is c.in-Ok.field-0 c.in-Ok.ensures.writes c.in-Ok.ensures.last_len c.in-Ok.ensures.bytes c.len-number.result number)

pub returns-in-Ok-clause-faults : goal.returns-in-Ok-clause-faults
returns-in-Ok-clause-faults g c =
    c.in-Ok.ensures.faults.steady
    ∙ ap (λ (j : Journal _). g.D.Disk.faults (disk_of j)) (c.make_piece_ready.ensures.journal ∙ ap (λ (held : Holdings _). held.journal) c.archive.view_is)

pub returns-in-Err-clause-faults : goal.returns-in-Err-clause-faults
returns-in-Err-clause-faults g c =
    subst (λ (j : Journal _). CountsIf true (g.D.Disk.faults (disk_of j)) (g.D.Disk.faults (disk_of c.commit.new.self.journal)))
    (c.make_piece_ready.ensures.journal ∙ ap (λ (held : Holdings _). held.journal) c.archive.view_is)
    (c.in-Err.ensures.faults.later, c.in-Err.ensures.faults.rose)
