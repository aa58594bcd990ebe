use Rattle.std.proofs.Common.{◌≡◌, ◌+◌, ℕ, List, length, Some, Ok, Err, refl, sym, ap, subst, ◌∙◌, arith, ◌++◌, [], ◌∷◌}
use Rattle.std.specs.Prelude.{◌<◌, is_some}
use Rattle.capture.specs.Captures.{captures}
use Rattle.capture.specs.Message.{IsResponseHeadText}
use Rattle.capture.specs.declared.book.Book.{Book}
use Rattle.capture.specs.declared.captured.Stored.{Stored}
use Rattle.index_entry.specs.Facts.{Facts}
use Rattle.index_entry.specs.Order.{without}
use Rattle.time_text.specs.Texts.{InRange}
use Rattle.archive_shelf.specs.declared.fault.StoreFault.TheVariants as stores
use Rattle.archive_shelf.specs.declared.receipt.Receipt.{Receipt}
use Rattle.archive_volumes.specs.Entries.{entered}
use Rattle.archive_volumes.specs.Held.{book_of, stored_in}
use Rattle.archive_core.specs.Holdings.{Holdings, contents_of}
use Rattle.archive_core.specs.Looking.{RefersTo}
use Rattle.archive_volumes.specs.Spots.{AreHeldWhole, AreSpotsOf, whole_from}
use Rattle.archive_volumes.specs.Ready.{incoming_of, spot_in}
use Rattle.archive_core.specs.Stores.{Stores}
use Rattle.archive_core.specs.View.{holdings_of}
use Rattle.archive_volumes.specs.declared.spot.Spot.{Spot}
use Rattle.archive_volumes.proofs.ChangeLaws.{DiskLaws}
use Rattle.archive_core.proofs.ExitLaws as laws
use Rattle.archive_core.proofs.PayloadLaws.{has_one}
use Rattle.archive_core.proofs.FaultLaws.{memory_since}
use Rattle.archive_core.proofs.NamedLaws.{before_at}
use Rattle.archive_core.proofs.archive.Archive.store_compared.Given.{Over}
use Rattle.archive_volumes.specs.Volumes.{CanReadBy}
use Rattle.archive_core.proofs.ReadLaws.{readable}
use Rattle.archive_core.proofs.archive.Archive.store_compared.Goals as goal

-- what is asked of the disk
disk_laws : (g : Over) → DiskLaws g.D.Disk
disk_laws g = record { earlier = g.met.D.Disk.earlier; now_counts = g.met.D.Disk.now_counts; now_only = g.met.D.Disk.now_only }

pub make_ready-requires-clause-spots : goal.make_ready-requires-clause-spots
make_ready-requires-clause-spots g c =
    let was : Holdings _ = holdings_of c.self.inside in
    let given : c.as_slice.result.now ≡ c.self.inside.spots.items = c.as_slice.ensures.value ∙ c.reserve_kept.ensures.spots in
    subst (λ (l : List Spot). AreSpotsOf was.book l) (sym given) c.self.invariant.spots

pub make_ready-requires-clause-few : goal.make_ready-requires-clause-few
make_ready-requires-clause-few g c =
    let was : Holdings _ = holdings_of c.self.inside in
    let not_full : length (captures was.book) < was.limits.captures =
    subst (λ (held : Holdings _). length (captures held.book) < held.limits.captures) (sym c.self.view_is) c.requires.not_full in
    let given : c.as_slice.result.now ≡ c.self.inside.spots.items = c.as_slice.ensures.value ∙ c.reserve_kept.ensures.spots in
    omega (arith, ap (λ (l : List Spot). length l) given, c.self.invariant.spots.count, not_full, c.self.invariant.counted.limits.captures)

pub make_ready-requires-clause-refers : goal.make_ready-requires-clause-refers
make_ready-requires-clause-refers g c =
    let was : Holdings _ = holdings_of c.self.inside in
    let refers : RefersTo (contents_of was) c.args.taken.now c.args.same =
    subst (λ (held : Holdings _). RefersTo (contents_of held) c.args.taken.now c.args.same) (sym c.self.view_is) c.requires.refers in
    refers.can

pub make_ready-requires-clause-limit : goal.make_ready-requires-clause-limit
make_ready-requires-clause-limit g c = c.self.invariant.counted.limits.volume_bytes

pub make_ready-requires-clause-payload : goal.make_ready-requires-clause-payload
make_ready-requires-clause-payload g c =
    let there = has_one c.storing_has_a_basis.ensures.whole c.storing_has_a_basis.ensures.cut c.args.taken.now c.requires.fits in
    (there.payload, c.requires.digest there.payload there.has)

-- all that is known of the capture once it is ready
readied : (g : Over) (c : goal.After-ready-2-1 g)
    → laws.IsUnderWay g.D.Disk (holdings_of c.self.inside) c.make_ready.new.self (incoming_of c.args.taken.now c.args.digest.now c.args.same) c.in_ok-ready.ready
readied g c =
    laws.under_way g.D.Disk c.storing_has_a_basis.ensures c.args.self.now (holdings_of c.self.inside) c.self.inside.volumes c.make_ready.new.self
    (incoming_of c.args.taken.now c.args.digest.now c.args.same) c.in_ok-ready.ready c.self.view_is
    refl refl c.self.invariant c.requires.fits c.requires.not_full c.requires.digest c.requires.refers c.requires.kept c.make_ready.ensures.journal
    c.make_ready.ensures.book c.in_ok-ready.ensures.ready

pub record_at-at-requires-clause-measured : goal.record_at-at-requires-clause-measured
record_at-at-requires-clause-measured g c = (readied g c).is.measured

pub record_at-at-requires-clause-room : goal.record_at-at-requires-clause-room
record_at-at-requires-clause-room g c = (readied g c).ready_is.room

-- and once it is known where its record is to stand
placed : (g : Over) (c : goal.After-as_slice-2 g)
    → laws.IsUnderWay g.D.Disk (holdings_of c.self.inside) c.make_ready.new.self (incoming_of c.args.taken.now c.args.digest.now c.args.same) c.in_ok-ready.ready
placed g c =
    laws.under_way g.D.Disk c.storing_has_a_basis.ensures c.args.self.now (holdings_of c.self.inside) c.self.inside.volumes c.make_ready.new.self
    (incoming_of c.args.taken.now c.args.digest.now c.args.same) c.in_ok-ready.ready c.self.view_is
    refl refl c.self.invariant c.requires.fits c.requires.not_full c.requires.digest c.requires.refers c.requires.kept c.make_ready.ensures.journal
    c.make_ready.ensures.book c.in_ok-ready.ensures.ready

pub enter_ready-requires-clause-date : goal.enter_ready-requires-clause-date
enter_ready-requires-clause-date g c = subst (λ (s : Stored). InRange s.date) (sym (placed g c).ready_is.stored) c.requires.fits.date

pub enter_ready-requires-clause-head : goal.enter_ready-requires-clause-head
enter_ready-requires-clause-head g c =
    let u = placed g c in
    let is : c.as_slice-2.result.now ≡ (stored_in c.in_ok-ready.ready.stored).head =
    c.as_slice-2.ensures ∙ sym (ap (λ (s : Stored). s.head) u.ready_is.stored) in (
      u.has.parsed,
      subst (λ (h : List ℕ). IsResponseHeadText h u.has.parsed) (sym is)
          (laws.ready_head g.D.Disk c.storing_has_a_basis.ensures (holdings_of c.self.inside) c.make_ready.new.self (incoming_of c.args.taken.now c.args.digest.now c.args.same) c.in_ok-ready.ready u),
    )

pub enter_ready-requires-clause-kept : goal.enter_ready-requires-clause-kept
enter_ready-requires-clause-kept g c = (placed g c).ready_is.kept

pub enter_ready-requires-clause-is : goal.enter_ready-requires-clause-is
enter_ready-requires-clause-is g c = c.as_slice-2.ensures ∙ sym (ap (λ (s : Stored). s.head) (placed g c).ready_is.stored)

pub enter_ready-requires-clause-indexed : goal.enter_ready-requires-clause-indexed
enter_ready-requires-clause-indexed g c = c.self.invariant.indexed

pub enter_ready-requires-clause-behind : goal.enter_ready-requires-clause-behind
enter_ready-requires-clause-behind g c =
    let was : Holdings _ = holdings_of c.self.inside in
    let many : c.len-number.result ≡ length c.self.inside.spots.items = omega (arith, c.len-number.ensures, c.self.inside.spots.ok.0) in
    before_at c.make_ready.new.self c.in_ok-ready.ready c.record_at-at.result c.len-number.result (length (captures was.book)) c.record_at-at.ensures
    (many ∙ c.self.invariant.spots.count) was.index c.self.invariant.counted.below

-- and once its entry is in the index
entering : (g : Over) (c : goal.After-commit-arg-4-1 g)
    → laws.IsUnderWay g.D.Disk (holdings_of c.self.inside) c.make_ready.new.self (incoming_of c.args.taken.now c.args.digest.now c.args.same) c.in_ok-entered.entered
entering g c =
    laws.under_way g.D.Disk c.storing_has_a_basis.ensures c.args.self.now (holdings_of c.self.inside) c.self.inside.volumes c.make_ready.new.self
    (incoming_of c.args.taken.now c.args.digest.now c.args.same) c.in_ok-entered.entered c.self.view_is
    refl refl c.self.invariant c.requires.fits c.requires.not_full c.requires.digest c.requires.refers c.requires.kept c.make_ready.ensures.journal
    c.make_ready.ensures.book (laws.handed_back c.self.inside.volumes c.make_ready.new.self c.self.inside.limits.volume_bytes
    (incoming_of c.args.taken.now c.args.digest.now c.args.same) c.in_ok-ready.ready c.in_ok-entered.entered c.in_ok-entered.ensures.same
    c.in_ok-ready.ensures.ready)

pub commit-requires-clause-ready : goal.commit-requires-clause-ready
commit-requires-clause-ready g c =
    laws.commit_ready g.D.Disk c.storing_has_a_basis.ensures (holdings_of c.self.inside) c.make_ready.new.self (incoming_of c.args.taken.now c.args.digest.now c.args.same) c.in_ok-entered.entered (entering g c)

pub commit-requires-clause-readable : goal.commit-requires-clause-readable
commit-requires-clause-readable g c =
    let now = c.make_ready.new.self in
    subst (CanReadBy g.D.Disk c.self.inside.told.value now.journal (book_of now.held)) (sym c.reserve_kept.ensures.spots) (readable g.D.Disk (entering g c).is)

pub commit-requires-clause-table : goal.commit-requires-clause-table
commit-requires-clause-table g c =
    c.reserve_kept.ensures.table ∙ c.self.invariant.table ∙ sym (ap (λ (l : List Spot). whole_from 0 l) c.reserve_kept.ensures.spots)

pub commit-requires-clause-space : goal.commit-requires-clause-space
commit-requires-clause-space g c = c.in_ok-reserve_kept.ensures.room

pub commit-requires-clause-reserved : goal.commit-requires-clause-reserved
commit-requires-clause-reserved g c =
    c.in_ok-reserve_kept.ensures.reserved ∙ ap (λ (digest : List ℕ). Some digest) (sym (entering g c).ready_is.digest)

pub commit-requires-clause-few : goal.commit-requires-clause-few
commit-requires-clause-few g c =
    omega (arith, ap (λ (l : List Spot). length l) c.reserve_kept.ensures.spots, c.self.invariant.spots.count, c.self.invariant.counted.few)

pub invariant_of-self : goal.invariant_of-self
invariant_of-self g c =
    let was : Holdings _ = holdings_of c.self.inside in
    laws.memory_archive g.D.Disk was (record was { journal = c.self.inside.volumes.journal; book = book_of c.self.inside.volumes.held; table = c.reserve_kept.new.table; index = c.self.inside.index; spots = c.reserve_kept.new.spots.items }) refl refl refl refl refl refl refl
    c.self.invariant c.reserve_kept.ensures.spots c.reserve_kept.ensures.table refl

pub returns-in_err-reserve_kept-clause-stores : goal.returns-in_err-reserve_kept-clause-stores
returns-in_err-reserve_kept-clause-stores g c =
    let was : Holdings _ = holdings_of c.self.inside in
    let is : Holdings _ = record was { journal = c.self.inside.volumes.journal; book = book_of c.self.inside.volumes.held; table = c.reserve_kept.new.table; index = c.self.inside.index; spots = c.reserve_kept.new.spots.items } in
    subst (λ (held : Holdings _). Stores g.D.Disk held is c.args.taken.now c.from_residual.result) c.self.view_is
    (laws.memory_exit g.D.Disk was is refl refl refl refl refl refl refl c.args.taken.now c.from_residual.result c.from_residual.ensures.1)

pub invariant_of-self-in_err-ready : goal.invariant_of-self-in_err-ready
invariant_of-self-in_err-ready g c =
    let was : Holdings _ = holdings_of c.self.inside in
    laws.memory_archive g.D.Disk was (record was { journal = c.make_ready.new.self.journal; book = book_of c.make_ready.new.self.held; table = c.reserve_kept.new.table; index = c.self.inside.index; spots = c.reserve_kept.new.spots.items }) c.make_ready.ensures.journal c.make_ready.ensures.book refl refl refl refl refl
    c.self.invariant c.reserve_kept.ensures.spots c.reserve_kept.ensures.table refl

pub returns-in_err-ready-clause-stores : goal.returns-in_err-ready-clause-stores
returns-in_err-ready-clause-stores g c =
    let was : Holdings _ = holdings_of c.self.inside in
    let is : Holdings _ = record was { journal = c.make_ready.new.self.journal; book = book_of c.make_ready.new.self.held; table = c.reserve_kept.new.table; index = c.self.inside.index; spots = c.reserve_kept.new.spots.items } in
    subst (λ (held : Holdings _). Stores g.D.Disk held is c.args.taken.now c.from_residual-in_err-ready.result) c.self.view_is
    (laws.memory_exit g.D.Disk was is c.make_ready.ensures.journal c.make_ready.ensures.book refl refl refl refl refl c.args.taken.now c.from_residual-in_err-ready.result c.from_residual-in_err-ready.ensures.1)

pub invariant_of-self-in_err-entered : goal.invariant_of-self-in_err-entered
invariant_of-self-in_err-entered g c =
    let was : Holdings _ = holdings_of c.self.inside in
    laws.memory_archive g.D.Disk was (record was { journal = c.make_ready.new.self.journal; book = book_of c.make_ready.new.self.held; table = c.reserve_kept.new.table; index = c.enter_ready.new.index; spots = c.reserve_kept.new.spots.items }) c.make_ready.ensures.journal c.make_ready.ensures.book c.in_err-entered.ensures.refused refl refl refl refl
    c.self.invariant c.reserve_kept.ensures.spots c.reserve_kept.ensures.table refl

pub returns-in_err-entered-clause-stores : goal.returns-in_err-entered-clause-stores
returns-in_err-entered-clause-stores g c =
    let was : Holdings _ = holdings_of c.self.inside in
    let is : Holdings _ = record was { journal = c.make_ready.new.self.journal; book = book_of c.make_ready.new.self.held; table = c.reserve_kept.new.table; index = c.enter_ready.new.index; spots = c.reserve_kept.new.spots.items } in
    subst (λ (held : Holdings _). Stores g.D.Disk held is c.args.taken.now c.from_residual-in_err-entered.result) c.self.view_is
    (laws.memory_exit g.D.Disk was is c.make_ready.ensures.journal c.make_ready.ensures.book c.in_err-entered.ensures.refused refl refl refl refl c.args.taken.now c.from_residual-in_err-entered.result c.from_residual-in_err-entered.ensures.1)

pub invariant_of-self-in-Err : goal.invariant_of-self-in-Err
invariant_of-self-in-Err g c =
    let was : Holdings _ = holdings_of c.self.inside in
    let now = c.make_ready.new.self in
    let ready = c.in_ok-entered.entered in
    let u = laws.under_way g.D.Disk c.storing_has_a_basis.ensures c.args.self.now was c.self.inside.volumes now (incoming_of c.args.taken.now c.args.digest.now c.args.same) ready c.self.view_is
    refl refl c.self.invariant c.requires.fits c.requires.not_full c.requires.digest c.requires.refers c.requires.kept c.make_ready.ensures.journal
    c.make_ready.ensures.book (laws.handed_back c.self.inside.volumes now was.limits.volume_bytes (incoming_of c.args.taken.now c.args.digest.now c.args.same) c.in_ok-ready.ready ready c.in_ok-entered.ensures.same
    c.in_ok-ready.ensures.ready) in
    let has = c.in_ok-entered.ensures.entered in
    let at_is = laws.record_back now c.in_ok-ready.ready ready c.record_at-at.result c.len-number.result c.in_ok-entered.ensures.same c.record_at-at.ensures in
    let many : c.len-number.result ≡ length c.self.inside.spots.items = omega (arith, c.len-number.ensures, c.self.inside.spots.ok.0) in
    let count : c.len-number.result ≡ length (captures was.book) = many ∙ c.self.invariant.spots.count in
    let number : c.len-number.result ≡ length (captures (book_of now.held)) =
    count ∙ sym (ap (λ (b : Book). length (captures b)) c.make_ready.ensures.book) in
    let back = c.take_back.ensures
    ∙ ap (λ (l : List Facts). without c.len-number.result l) has.is
    ∙ ap (λ (k : ℕ). without k (entered has.entry was.index)) number in
    laws.refused_archive g.D.Disk c.storing_has_a_basis.ensures was now (incoming_of c.args.taken.now c.args.digest.now c.args.same) ready u c.record_at-at.result c.len-number.result
    at_is number has.entry has.enters (disk_laws g)
    c.commit.new.self.journal (book_of c.commit.new.self.held) c.commit.new.table c.take_back.new.self c.commit.new.spots.items
    c.commit.ensures.holds c.commit.ensures.measured c.commit.ensures.table c.commit.ensures.spots c.commit.ensures.within c.commit.ensures.placed
    (λ untold. c.commit.ensures.made (subst (λ (l : List Spot). AreHeldWhole (book_of now.held) l) (sym c.reserve_kept.ensures.spots) (u.is.made untold)))
    c.commit.ensures.others
    c.in-Err.ensures.left back c.in-Err.field-0 (c.in-Err.ensures.unkept ∙ c.reserve_kept.ensures.spots) c.in-Err.ensures.writes

pub returns-in-Err-clause-stores : goal.returns-in-Err-clause-stores
returns-in-Err-clause-stores g c =
    let was : Holdings _ = holdings_of c.self.inside in
    let now = c.make_ready.new.self in
    let ready = c.in_ok-entered.entered in
    let u = laws.under_way g.D.Disk c.storing_has_a_basis.ensures c.args.self.now was c.self.inside.volumes now (incoming_of c.args.taken.now c.args.digest.now c.args.same) ready c.self.view_is
    refl refl c.self.invariant c.requires.fits c.requires.not_full c.requires.digest c.requires.refers c.requires.kept c.make_ready.ensures.journal
    c.make_ready.ensures.book (laws.handed_back c.self.inside.volumes now was.limits.volume_bytes (incoming_of c.args.taken.now c.args.digest.now c.args.same) c.in_ok-ready.ready ready c.in_ok-entered.ensures.same
    c.in_ok-ready.ensures.ready) in
    let has = c.in_ok-entered.ensures.entered in
    let at_is = laws.record_back now c.in_ok-ready.ready ready c.record_at-at.result c.len-number.result c.in_ok-entered.ensures.same c.record_at-at.ensures in
    let many : c.len-number.result ≡ length c.self.inside.spots.items = omega (arith, c.len-number.ensures, c.self.inside.spots.ok.0) in
    let count : c.len-number.result ≡ length (captures was.book) = many ∙ c.self.invariant.spots.count in
    let number : c.len-number.result ≡ length (captures (book_of now.held)) =
    count ∙ sym (ap (λ (b : Book). length (captures b)) c.make_ready.ensures.book) in
    let back = c.take_back.ensures
    ∙ ap (λ (l : List Facts). without c.len-number.result l) has.is
    ∙ ap (λ (k : ℕ). without k (entered has.entry was.index)) number in
    let same : laws.in_volumes was now ≡ c.args.self.now =
    laws.same_holdings was now c.make_ready.ensures.journal c.make_ready.ensures.book ∙ c.self.view_is in
    let is : Holdings _ = record was {
      journal = c.commit.new.self.journal;
      book = book_of c.commit.new.self.held;
      table = c.commit.new.table;
      index = c.take_back.new.self;
      spots = c.commit.new.spots.items;
    } in
    subst (λ (held : Holdings _). Stores g.D.Disk held is c.args.taken.now (Err stores.DiskFault)) same
    (laws.refused_stores g.D.Disk c.storing_has_a_basis.ensures was now (incoming_of c.args.taken.now c.args.digest.now c.args.same) ready u c.record_at-at.result c.len-number.result
    at_is number has.entry has.enters (disk_laws g)
    c.commit.new.self.journal (book_of c.commit.new.self.held) c.commit.new.table c.take_back.new.self c.commit.new.spots.items
    c.commit.ensures.holds c.commit.ensures.measured c.commit.ensures.table c.commit.ensures.spots c.commit.ensures.within c.commit.ensures.placed
    (λ untold. c.commit.ensures.made (subst (λ (l : List Spot). AreHeldWhole (book_of now.held) l) (sym c.reserve_kept.ensures.spots) (u.is.made untold)))
    c.commit.ensures.others
    c.in-Err.ensures.left back c.in-Err.field-0
    c.in-Err.ensures.writes
    c.in-Err.ensures.faults c.in-Err.ensures.bytes)

pub overflow_add-self : goal.overflow_add-self
overflow_add-self g c =
    omega (
      arith,
      c.revisits_in.ensures,
      laws.revisits_few g.D.Disk (holdings_of c.self.inside) (is_some c.args.same) c.self.invariant,
    )

pub invariant_of-self-in-Ok : goal.invariant_of-self-in-Ok
invariant_of-self-in-Ok g c =
    let was : Holdings _ = holdings_of c.self.inside in
    let now = c.make_ready.new.self in
    let ready = c.in_ok-entered.entered in
    let u = laws.under_way g.D.Disk c.storing_has_a_basis.ensures c.args.self.now was c.self.inside.volumes now (incoming_of c.args.taken.now c.args.digest.now c.args.same) ready c.self.view_is
    refl refl c.self.invariant c.requires.fits c.requires.not_full c.requires.digest c.requires.refers c.requires.kept c.make_ready.ensures.journal
    c.make_ready.ensures.book (laws.handed_back c.self.inside.volumes now was.limits.volume_bytes (incoming_of c.args.taken.now c.args.digest.now c.args.same) c.in_ok-ready.ready ready c.in_ok-entered.ensures.same
    c.in_ok-ready.ensures.ready) in
    let has = c.in_ok-entered.ensures.entered in
    let at_is = laws.record_back now c.in_ok-ready.ready ready c.record_at-at.result c.len-number.result c.in_ok-entered.ensures.same c.record_at-at.ensures in
    let many : c.len-number.result ≡ length c.self.inside.spots.items = omega (arith, c.len-number.ensures, c.self.inside.spots.ok.0) in
    let count : c.len-number.result ≡ length (captures was.book) = many ∙ c.self.invariant.spots.count in
    let number : c.len-number.result ≡ length (captures (book_of now.held)) =
    count ∙ sym (ap (λ (b : Book). length (captures b)) c.make_ready.ensures.book) in
    let more = ap (λ (k : ℕ). c.self.inside.revisits + k) c.revisits_in.ensures in
    laws.stored_archive g.D.Disk c.storing_has_a_basis.ensures was now (incoming_of c.args.taken.now c.args.digest.now c.args.same) ready u c.record_at-at.result c.len-number.result
    at_is number has.entry has.enters (disk_laws g)
    c.commit.new.self.journal (book_of c.commit.new.self.held) c.commit.new.table c.enter_ready.new.index c.commit.new.spots.items
    c.commit.ensures.holds c.commit.ensures.measured c.commit.ensures.table c.commit.ensures.spots c.commit.ensures.within c.commit.ensures.placed
    (λ untold. c.commit.ensures.made (subst (λ (l : List Spot). AreHeldWhole (book_of now.held) l) (sym c.reserve_kept.ensures.spots) (u.is.made untold)))
    c.commit.ensures.others
    (c.self.inside.revisits + c.revisits_in.result) c.in-Ok.ensures.stored has.is c.in-Ok.field-0
    (c.in-Ok.ensures.kept ∙ ap (λ (l : List Spot). l ++ spot_in now ready ∷ []) c.reserve_kept.ensures.spots) c.in-Ok.ensures.writes
    c.enter_ready.ensures.indexed more

pub returns-in-Ok-clause-stores : goal.returns-in-Ok-clause-stores
returns-in-Ok-clause-stores g c =
    let was : Holdings _ = holdings_of c.self.inside in
    let now = c.make_ready.new.self in
    let ready = c.in_ok-entered.entered in
    let u = laws.under_way g.D.Disk c.storing_has_a_basis.ensures c.args.self.now was c.self.inside.volumes now (incoming_of c.args.taken.now c.args.digest.now c.args.same) ready c.self.view_is
    refl refl c.self.invariant c.requires.fits c.requires.not_full c.requires.digest c.requires.refers c.requires.kept c.make_ready.ensures.journal
    c.make_ready.ensures.book (laws.handed_back c.self.inside.volumes now was.limits.volume_bytes (incoming_of c.args.taken.now c.args.digest.now c.args.same) c.in_ok-ready.ready ready c.in_ok-entered.ensures.same
    c.in_ok-ready.ensures.ready) in
    let has = c.in_ok-entered.ensures.entered in
    let at_is = laws.record_back now c.in_ok-ready.ready ready c.record_at-at.result c.len-number.result c.in_ok-entered.ensures.same c.record_at-at.ensures in
    let many : c.len-number.result ≡ length c.self.inside.spots.items = omega (arith, c.len-number.ensures, c.self.inside.spots.ok.0) in
    let count : c.len-number.result ≡ length (captures was.book) = many ∙ c.self.invariant.spots.count in
    let number : c.len-number.result ≡ length (captures (book_of now.held)) =
    count ∙ sym (ap (λ (b : Book). length (captures b)) c.make_ready.ensures.book) in
    let same : laws.in_volumes was now ≡ c.args.self.now =
    laws.same_holdings was now c.make_ready.ensures.journal c.make_ready.ensures.book ∙ c.self.view_is in
    let is : Holdings _ = record was {
      journal = c.commit.new.self.journal;
      book = book_of c.commit.new.self.held;
      table = c.commit.new.table;
      index = c.enter_ready.new.index;
      spots = c.commit.new.spots.items;
      revisits = c.self.inside.revisits + c.revisits_in.result;
    } in
    let receipt : Receipt = record { number = c.len-number.result; same_as = c.args.same } in
    subst (λ (held : Holdings _). Stores g.D.Disk held is c.args.taken.now (Ok receipt)) same
    (laws.stored_stores g.D.Disk c.storing_has_a_basis.ensures was now (incoming_of c.args.taken.now c.args.digest.now c.args.same) ready u c.record_at-at.result c.len-number.result
    at_is number has.entry has.enters (disk_laws g)
    c.commit.new.self.journal (book_of c.commit.new.self.held) c.commit.new.table c.enter_ready.new.index c.commit.new.spots.items
    c.commit.ensures.holds c.commit.ensures.measured c.commit.ensures.table c.commit.ensures.spots c.commit.ensures.within c.commit.ensures.placed
    (λ untold. c.commit.ensures.made (subst (λ (l : List Spot). AreHeldWhole (book_of now.held) l) (sym c.reserve_kept.ensures.spots) (u.is.made untold)))
    c.commit.ensures.others
    (c.self.inside.revisits + c.revisits_in.result) c.in-Ok.ensures.stored has.is
    c.in-Ok.field-0
    c.in-Ok.ensures.writes
    c.in-Ok.ensures.faults c.in-Ok.ensures.last_len c.in-Ok.ensures.bytes receipt number refl)

pub returns-in_err-reserve_kept-clause-unread : goal.returns-in_err-reserve_kept-clause-unread
returns-in_err-reserve_kept-clause-unread g c number = memory_since _ number c.from_residual.result c.from_residual.ensures.1

pub returns-in_err-ready-clause-unread : goal.returns-in_err-ready-clause-unread
returns-in_err-ready-clause-unread g c number = memory_since _ number c.from_residual-in_err-ready.result c.from_residual-in_err-ready.ensures.1

pub returns-in_err-entered-clause-unread : goal.returns-in_err-entered-clause-unread
returns-in_err-entered-clause-unread g c number = memory_since _ number c.from_residual-in_err-entered.result c.from_residual-in_err-entered.ensures.1
