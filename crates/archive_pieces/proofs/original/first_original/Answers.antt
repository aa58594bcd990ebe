use Rattle.std.proofs.Common.{Bool, false, true, ℕ, Option, Ok, ap, arith, get_or, length, refl, subst, sym, ◌∙◌}
use Rattle.std.proofs.lemmas.Option.{slice_get_within}
use Rattle.capture.specs.Captures.{captures}
use Rattle.capture.specs.declared.book.Book.{Book}
use Rattle.warc_journal.specs.Journals.{disk_of}
use Rattle.archive_reading.proofs.BringLaws.{readable_on, reads_itself, reads_then}
use Rattle.archive_volumes.specs.Held.{book_of}
use Rattle.archive_gathering.specs.Revisits.{IsOriginalOf}
use Rattle.archive_pieces.specs.PieceOriginals.{AsksOriginal, IsNextGroup}
use Rattle.archive_pieces.proofs.PieceOriginalLaws.{fault_exit, found_by, none_more, same_faults}
use Rattle.archive_pieces.proofs.original.first_original.Goals as goal

pub is_original-requires-clause-readable : goal.is_original-requires-clause-readable
is_original-requires-clause-readable g c =
    readable_on g.D.Disk c.args.told.now.value c.args.volumes.now c.loop-candidate.volumes c.loop-candidate.invariant.reads c.args.spots.now c.requires.readable

pub is_original-requires-clause-digest : goal.is_original-requires-clause-digest
is_original-requires-clause-digest g c spot at =
    c.requires.digest c.loop-candidate.candidate-index spot c.loop-candidate-test.true at

pub is_original-requires-clause-below : goal.is_original-requires-clause-below
is_original-requires-clause-below g c =
    let whole = c.requires.whole c.loop-candidate.candidate-index c.loop-candidate-test.true in
    slice_get_within c.args.spots.now (get_or c.args.candidates.now c.loop-candidate.candidate-index 0) whole.spot whole.placed

pub is_original-requires-clause-group : goal.is_original-requires-clause-group
is_original-requires-clause-group g c =
    subst (λ (b : Book). IsNextGroup b c.args.group.now) (sym (ap book_of c.loop-candidate.invariant.reads.held)) c.requires.group

pub loop-candidate-init : goal.loop-candidate-init
loop-candidate-init g c = record {
  reads = reads_itself g.D.Disk c.args.volumes.now;
  faults = refl;
  none = λ so k less. absurd (omega (arith, less));
}

pub returns-in_err-is-clause-faults : goal.returns-in_err-is-clause-faults
returns-in_err-is-clause-faults g c =
    let d = g.D.Disk in
    same_faults Bool (Option ℕ) c.in_err-is.field-0.0 c.from_residual.result (d.faults (disk_of c.args.volumes.now.journal))
    (d.faults (disk_of c.loop-candidate.volumes.journal)) (d.faults (disk_of c.is_original.new.volumes.journal)) c.from_residual.ensures.1
    c.loop-candidate.invariant.faults c.in_err-is.ensures.faults

pub returns-then-is-clause-faults : goal.returns-then-is-clause-faults
returns-then-is-clause-faults g c = c.in_ok-is.ensures.faults ∙ c.loop-candidate.invariant.faults

pub returns-clause-reads : goal.returns-clause-reads
returns-clause-reads g c = c.loop-candidate.invariant.reads

pub returns-clause-faults : goal.returns-clause-faults
returns-clause-faults g c = c.loop-candidate.invariant.faults

pub returns-in_err-is-clause-chooses : goal.returns-in_err-is-clause-chooses
returns-in_err-is-clause-chooses g c =
    let k = c.loop-candidate.candidate-index in
    let book = book_of c.args.volumes.now.held in
    let number = get_or c.args.candidates.now k 0 in
    let whole = c.requires.whole k c.loop-candidate-test.true in
    fault_exit c.args.told.now.value book (book_of c.loop-candidate.volumes.held) c.args.group.now c.args.candidates.now number
    (ap book_of c.loop-candidate.invariant.reads.held)
    (omega (arith, slice_get_within c.args.spots.now number whole.spot whole.placed, c.requires.readable.are.count))
    c.in_err-is.field-0.0 c.from_residual.result c.from_residual.ensures.1 c.in_err-is.ensures.asks

pub returns-in_err-is-clause-reads : goal.returns-in_err-is-clause-reads
returns-in_err-is-clause-reads g c =
    reads_then g.D.Disk c.args.volumes.now c.loop-candidate.volumes c.is_original.new.volumes c.loop-candidate.invariant.reads c.is_original.ensures.reads

pub returns-then-is-clause-chooses : goal.returns-then-is-clause-chooses
returns-then-is-clause-chooses g c =
    let k = c.loop-candidate.candidate-index in
    let number = get_or c.args.candidates.now k 0 in
    let told = c.args.told.now.value in
    found_by told (book_of c.args.volumes.now.held) c.args.spots.now c.args.group.now number c.requires.readable.are c.requires.made
    (c.requires.whole k c.loop-candidate-test.true) (λ spot at. c.requires.digest k spot c.loop-candidate-test.true at)
    (subst (λ (b : Book). AsksOriginal told b c.args.group.now number (Ok true)) (ap book_of c.loop-candidate.invariant.reads.held)
    (subst (λ (b : Bool). AsksOriginal told (book_of c.loop-candidate.volumes.held) c.args.group.now number (Ok b)) c.if-is.true c.in_ok-is.ensures.asks))

pub returns-then-is-clause-kept : goal.returns-then-is-clause-kept
returns-then-is-clause-kept g c spot at = c.requires.digest c.loop-candidate.candidate-index spot c.loop-candidate-test.true at

pub returns-then-is-clause-reads : goal.returns-then-is-clause-reads
returns-then-is-clause-reads g c =
    reads_then g.D.Disk c.args.volumes.now c.loop-candidate.volumes c.is_original.new.volumes c.loop-candidate.invariant.reads c.is_original.ensures.reads

pub loop-candidate-preserved : goal.loop-candidate-preserved
loop-candidate-preserved g c =
    let reads = c.loop-candidate.invariant.reads in
    let k = c.loop-candidate.candidate-index in
    let book = book_of c.args.volumes.now.held in
    let mid = book_of c.loop-candidate.volumes.held in
    let number = get_or c.args.candidates.now k 0 in
    let told = c.args.told.now.value in
    record {
      reads = reads_then g.D.Disk c.args.volumes.now c.loop-candidate.volumes c.is_original.new.volumes reads c.is_original.ensures.reads;
      faults = c.in_ok-is.ensures.faults ∙ c.loop-candidate.invariant.faults;
      none = λ so.
          let asks : AsksOriginal told mid c.args.group.now number (Ok false)
          = subst (λ (b : Bool). AsksOriginal told mid c.args.group.now number (Ok b)) c.if-is.false c.in_ok-is.ensures.asks in
          none_more book c.args.group.now c.args.candidates.now k (c.loop-candidate.invariant.none so)
          (subst (λ (b : Book). IsOriginalOf b (length (captures b)) c.args.group.now number → ⊥) (ap book_of reads.held) (asks so));
    }

pub returns-clause-chooses : goal.returns-clause-chooses
returns-clause-chooses g c told k less = c.loop-candidate.invariant.none told k (omega (arith, less, c.loop-candidate-test.false))
