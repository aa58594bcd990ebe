use Rattle.std.proofs.Common.{◌≡◌, ◌<◌, ◌+◌, ℕ, List, length, refl, sym, subst, Result, ap, ◌∙◌, arith}
use Rattle.capture.specs.Captures.{captures}
use Rattle.capture.specs.declared.book.Book.{Book}
use Rattle.checkpoint.specs.declared.fault.CheckpointFault.{CheckpointFault}
use Rattle.warc_journal.specs.Journals.{disk_of, texts}
use Rattle.archive_volumes.proofs.ChangeLaws.{DiskLaws}
use Rattle.archive_volumes.specs.Held.{book_of}
use Rattle.archive_volumes.specs.Spots.{ArePlaced, AreSpotsOf, AreWithin}
use Rattle.archive_volumes.specs.declared.held.Held.{Held}
use Rattle.archive_volumes.specs.declared.volume_facts.VolumeFacts.{VolumeFacts}
use Rattle.archive_settling.specs.Supplying.{GoesThrough, KnowsMore, shelved_as}
use Rattle.archive_settling.proofs.KeepingLaws.{keeps_itself, keeps_then, measured_kept, texts_kept}
use Rattle.archive_settling.proofs.WalkingLaws.{at_exit, few_volumes, found_fact, goes_next, goes_no_further, many_facts, one_at_most}
use Rattle.archive_settling.proofs.SupplyingLaws.{went_none}
use Rattle.archive_settling.proofs.settling.settle_volumes.Given.{Over}
use Rattle.archive_settling.proofs.settling.settle_volumes.Goals as goal

-- what is asked of the disk
disk_laws : (g : Over) → DiskLaws g.D.Disk
disk_laws g = record { earlier = g.met.D.Disk.earlier; now_counts = g.met.D.Disk.now_counts; now_only = g.met.D.Disk.now_only }

pub facts-requires-clause-volumes : goal.facts-requires-clause-volumes
facts-requires-clause-volumes g c =
    few_volumes c.args.volumes.now.journal (book_of c.args.volumes.now.held) c.requires.readable.measured (omega (arith, c.requires.readable.are.count, c.requires.few))

pub settle_volume-requires-clause-readable : goal.settle_volume-requires-clause-readable
settle_volume-requires-clause-readable g c =
    let keeps = c.volumes.invariant.keeps in
    record {
      holds = keeps.holds;
      measured = measured_kept g.D.Disk (disk_laws g) c.args.told.now.value c.args.volumes.now c.volumes.volumes keeps c.requires.readable.measured;
      are = subst (λ (h : Held). AreSpotsOf (book_of h) c.args.spots.now) (sym keeps.held) c.requires.readable.are;
      within = λ tells. subst (λ (all : List (List ℕ)). AreWithin all c.args.spots.now)
          (sym (texts_kept g.D.Disk (disk_laws g) c.args.told.now.value c.args.volumes.now c.volumes.volumes keeps tells)) (c.requires.readable.within tells);
      placed = λ told. subst (λ (h : Held). ArePlaced (texts g.D.Disk c.volumes.volumes.journal) (book_of h) c.args.spots.now) (sym keeps.held)
          (subst (λ (all : List (List ℕ)). ArePlaced all (book_of c.args.volumes.now.held) c.args.spots.now)
          (sym (texts_kept g.D.Disk (disk_laws g) c.args.told.now.value c.args.volumes.now c.volumes.volumes keeps (c.requires.readable.holds.tells told)))
          (c.requires.readable.placed told));
    }

pub settle_volume-requires-clause-there : goal.settle_volume-requires-clause-there
settle_volume-requires-clause-there g c =
    let test : c.volumes.settled + 1 < length c.in_ok-facts.facts.items = omega (arith, c.volumes-test.true, c.len.ensures, c.in_ok-facts.facts.ok.0) in
    (found_fact (book_of c.args.volumes.now.held) (book_of c.volumes.volumes.held) (ap book_of c.volumes.invariant.keeps.held) c.in_ok-facts.facts.items
    c.volumes.settled c.index.result.now c.in_ok-facts.ensures c.index.ensures c.requires.readable.measured.filled test).of

pub settle_volume-requires-clause-some : goal.settle_volume-requires-clause-some
settle_volume-requires-clause-some g c =
    let test : c.volumes.settled + 1 < length c.in_ok-facts.facts.items = omega (arith, c.volumes-test.true, c.len.ensures, c.in_ok-facts.facts.ok.0) in
    (found_fact (book_of c.args.volumes.now.held) (book_of c.volumes.volumes.held) (ap book_of c.volumes.invariant.keeps.held) c.in_ok-facts.facts.items
    c.volumes.settled c.index.result.now c.in_ok-facts.ensures c.index.ensures c.requires.readable.measured.filled test).some

pub settle_volume-requires-clause-small : goal.settle_volume-requires-clause-small
settle_volume-requires-clause-small g c =
    let test : c.volumes.settled + 1 < length c.in_ok-facts.facts.items = omega (arith, c.volumes-test.true, c.len.ensures, c.in_ok-facts.facts.ok.0) in
    let same = ap book_of c.volumes.invariant.keeps.held in
    let small = (found_fact (book_of c.args.volumes.now.held) (book_of c.volumes.volumes.held) same c.in_ok-facts.facts.items
    c.volumes.settled c.index.result.now c.in_ok-facts.ensures c.index.ensures c.requires.readable.measured.filled test).small in
    omega (arith, small, ap (λ (b : Book). length (captures b)) same, c.requires.readable.are.count, c.requires.few)

pub settle_volume-requires-clause-sealed : goal.settle_volume-requires-clause-sealed
settle_volume-requires-clause-sealed g c =
    let test : c.volumes.settled + 1 < length c.in_ok-facts.facts.items = omega (arith, c.volumes-test.true, c.len.ensures, c.in_ok-facts.facts.ok.0) in
    let same = ap book_of c.volumes.invariant.keeps.held in
    let number = (found_fact (book_of c.args.volumes.now.held) (book_of c.volumes.volumes.held) same c.in_ok-facts.facts.items
    c.volumes.settled c.index.result.now c.in_ok-facts.ensures c.index.ensures c.requires.readable.measured.filled test).volume_is in
    let many : length c.in_ok-facts.facts.items ≡ length (book_of c.args.volumes.now.held).volumes =
    ap (λ (l : List VolumeFacts). length l) c.in_ok-facts.ensures ∙ many_facts (book_of c.args.volumes.now.held).volumes 0 0 in
    omega (arith, test, number, many, ap (λ (b : Book). length b.volumes) same)

pub returns-in_err-wrote-clause-keeps : goal.returns-in_err-wrote-clause-keeps
returns-in_err-wrote-clause-keeps g c =
    keeps_then g.D.Disk (disk_laws g) c.args.told.now.value c.args.volumes.now c.volumes.volumes c.settle_volume.new.volumes
    c.volumes.invariant.keeps c.in_err-wrote.ensures.keeps

pub returns-in_err-wrote-clause-went : goal.returns-in_err-wrote-clause-went
returns-in_err-wrote-clause-went g c = λ tells.
    let test : c.volumes.settled + 1 < length c.in_ok-facts.facts.items = omega (arith, c.volumes-test.true, c.len.ensures, c.in_ok-facts.facts.ok.0) in
    let book = book_of c.args.volumes.now.held in
    let same = ap book_of c.volumes.invariant.keeps.held in
    let number = (found_fact book (book_of c.volumes.volumes.held) same c.in_ok-facts.facts.items
    c.volumes.settled c.index.result.now c.in_ok-facts.ensures c.index.ensures c.requires.readable.measured.filled test).volume_is in
    at_exit (λ (r : Result ℕ CheckpointFault). GoesThrough g.D.Disk (shelved_as c.args.told.now.value book c.args.spots.now) c.volumes.settled (disk_of c.args.volumes.now.journal) (disk_of c.settle_volume.new.volumes.journal) r)
    _ c.from_residual-in_err-wrote.result c.from_residual-in_err-wrote.ensures.1
    (goes_no_further g.D.Disk c.args.told.now.value book (book_of c.volumes.volumes.held) same c.args.spots.now c.volumes.settled c.volumes.written c.index.result.now.volume number
    (disk_of c.args.volumes.now.journal) (disk_of c.volumes.volumes.journal) (disk_of c.settle_volume.new.volumes.journal) (c.volumes.invariant.went tells)
    c.in_err-wrote.field-0.0 (c.in_err-wrote.ensures.went tells))

pub overflow_add-written : goal.overflow_add-written
overflow_add-written g c =
    let many : length c.in_ok-facts.facts.items ≡ length (book_of c.args.volumes.now.held).volumes =
    ap (λ (l : List VolumeFacts). length l) c.in_ok-facts.ensures ∙ many_facts (book_of c.args.volumes.now.held).volumes 0 0 in
    let few = few_volumes c.args.volumes.now.journal (book_of c.args.volumes.now.held) c.requires.readable.measured (omega (arith, c.requires.readable.are.count, c.requires.few)) in
    omega (
      arith,
      c.volumes.invariant.few,
      c.volumes.invariant.within,
      many,
      few,
      one_at_most c.in_ok-wrote.wrote c.one_if-written.result c.one_if-written.ensures,
      c.volumes-test.true,
      c.len.ensures,
      c.in_ok-facts.facts.ok.0,
    )

pub volumes-preserved : goal.volumes-preserved
volumes-preserved g c =
    let test : c.volumes.settled + 1 < length c.in_ok-facts.facts.items = omega (arith, c.volumes-test.true, c.len.ensures, c.in_ok-facts.facts.ok.0) in
    let book = book_of c.args.volumes.now.held in
    let same = ap book_of c.volumes.invariant.keeps.held in
    let number = (found_fact book (book_of c.volumes.volumes.held) same c.in_ok-facts.facts.items
    c.volumes.settled c.index.result.now c.in_ok-facts.ensures c.index.ensures c.requires.readable.measured.filled test).volume_is in
    record {
      keeps = keeps_then g.D.Disk (disk_laws g) c.args.told.now.value c.args.volumes.now c.volumes.volumes c.settle_volume.new.volumes
          c.volumes.invariant.keeps c.in_ok-wrote.ensures.keeps;
      went = λ tells. goes_next g.D.Disk c.args.told.now.value book (book_of c.volumes.volumes.held) same c.args.spots.now c.volumes.settled c.volumes.written c.index.result.now.volume number
          (disk_of c.args.volumes.now.journal) (disk_of c.volumes.volumes.journal) (disk_of c.settle_volume.new.volumes.journal) (c.volumes.invariant.went tells)
          c.in_ok-wrote.wrote c.one_if-written.result c.one_if-written.ensures (c.in_ok-wrote.ensures.went tells);
      faults = c.in_ok-wrote.ensures.faults ∙ c.volumes.invariant.faults;
      within = omega (arith, test);
      more = omega (arith, c.volumes.invariant.more);
      unasked = λ same. absurd (omega (arith, same, c.volumes.invariant.more));
      few = omega (arith, c.volumes.invariant.few, one_at_most c.in_ok-wrote.wrote c.one_if-written.result c.one_if-written.ensures);
    }

pub volumes-init : goal.volumes-init
volumes-init g c = record {
  keeps = keeps_itself g.D.Disk (disk_laws g) c.args.told.now.value c.args.volumes.now c.requires.readable.holds;
  went = λ tells. went_none g.D.Disk (disk_laws g) tells (shelved_as c.args.told.now.value (book_of c.args.volumes.now.held) c.args.spots.now) c.args.settled.now (disk_of c.args.volumes.now.journal)
      (g.met.D.Disk.reading_is_image (disk_of c.args.volumes.now.journal) tells) c.requires.first;
  faults = refl;
  within = omega (arith, c.requires.sealed, ap (λ (l : List VolumeFacts). length l) c.in_ok-facts.ensures ∙ many_facts (book_of c.args.volumes.now.held).volumes 0 0);
  few = omega arith;
  more = omega arith;
  unasked = λ same. refl;
}

pub returns-in_err-wrote-clause-knows : goal.returns-in_err-wrote-clause-knows
returns-in_err-wrote-clause-knows g c =
    let all : length c.in_ok-facts.facts.items ≡ length (book_of c.args.volumes.now.held).volumes =
    ap (λ (l : List VolumeFacts). length l) c.in_ok-facts.ensures ∙ many_facts (book_of c.args.volumes.now.held).volumes 0 0 in
    at_exit (KnowsMore (book_of c.args.volumes.now.held) c.args.settled.now c.volumes.settled) _ c.from_residual-in_err-wrote.result c.from_residual-in_err-wrote.ensures.1
    (record { more = c.volumes.invariant.more; within = omega (arith, c.volumes.invariant.within, all); all = tt; few = tt })

pub overflow_add-settled-in-volumes : goal.overflow_add-settled-in-volumes
overflow_add-settled-in-volumes g c =
    let all : length c.in_ok-facts.facts.items ≡ length (book_of c.args.volumes.now.held).volumes =
    ap (λ (l : List VolumeFacts). length l) c.in_ok-facts.ensures ∙ many_facts (book_of c.args.volumes.now.held).volumes 0 0 in
    let few = few_volumes c.args.volumes.now.journal (book_of c.args.volumes.now.held) c.requires.readable.measured (omega (arith, c.requires.readable.are.count, c.requires.few)) in
    omega (arith, c.volumes.invariant.within, all, few, c.volumes-test.true, c.len.ensures, c.in_ok-facts.facts.ok.0)

pub returns-clause-knows : goal.returns-clause-knows
returns-clause-knows g c =
    let all : length c.in_ok-facts.facts.items ≡ length (book_of c.args.volumes.now.held).volumes =
    ap (λ (l : List VolumeFacts). length l) c.in_ok-facts.ensures ∙ many_facts (book_of c.args.volumes.now.held).volumes 0 0 in
    record {
      more = c.volumes.invariant.more;
      within = omega (arith, c.volumes.invariant.within, all);
      all = omega (arith, c.volumes.invariant.within, all, c.volumes-test.false, c.len.ensures, c.in_ok-facts.facts.ok.0);
      few = c.volumes.invariant.few;
    }

pub returns-clause-unasked : goal.returns-clause-unasked
returns-clause-unasked g c = λ known.
    let all : length c.in_ok-facts.facts.items ≡ length (book_of c.args.volumes.now.held).volumes =
    ap (λ (l : List VolumeFacts). length l) c.in_ok-facts.ensures ∙ many_facts (book_of c.args.volumes.now.held).volumes 0 0 in
    c.volumes.invariant.unasked (omega (arith, c.volumes.invariant.within, all, c.volumes-test.false, c.len.ensures, c.in_ok-facts.facts.ok.0, known))
