use Rattle.std.proofs.Common.{◌≡◌, ℕ, List, Option, get_or, sym, ap, subst, ◌∙◌, arith}
use Rattle.std.specs.Prelude.{IfSome}
use Rattle.sha1.specs.Sha1.{sha1}
use Rattle.capture.specs.declared.book.Book.{Book}
use Rattle.archive_shelf.specs.Comparing.{KeepsWire}
use Rattle.archive_reading.proofs.BringLaws.{readable_on, reads_then}
use Rattle.archive_payloads.proofs.OriginalLaws.{found_here, not_here}
use Rattle.archive_volumes.specs.Held.{book_of}
use Rattle.archive_reading.specs.Rereading.{HasItsPayload, TellsOf, id_of_response}
use Rattle.archive_payloads.proofs.original.original_payload.Goals as goal

pub told_payload-requires-clause-readable : goal.told_payload-requires-clause-readable
told_payload-requires-clause-readable g c =
    readable_on g.D.Disk c.args.told.now.value c.args.volumes.now c.loop-candidate.volumes c.loop-candidate.invariant.reads c.args.spots.now c.requires.readable

pub loop-candidate-preserved : goal.loop-candidate-preserved
loop-candidate-preserved g c =
    let reads = c.loop-candidate.invariant.reads in
    let k = c.loop-candidate.candidate-index in
    let book = book_of c.args.volumes.now.held in
    record {
      reads = reads_then g.D.Disk c.args.volumes.now c.loop-candidate.volumes c.told_payload.new.volumes reads c.told_payload.ensures.reads;
      faults = c.in_ok-found.ensures.faults ∙ c.loop-candidate.invariant.faults;
      none = λ told first is.
          not_here book c.args.same.now c.args.candidates.now first is k (c.loop-candidate.invariant.none told first is) c.in_ok-found.found
          (λ keeps tells. subst (λ (b : Book). HasItsPayload b (get_or c.args.candidates.now k 0) c.in_ok-found.found) (ap book_of reads.held)
          (c.in_ok-found.ensures.right told (subst (λ (b : Book). KeepsWire b (get_or c.args.candidates.now k 0)) (sym (ap book_of reads.held)) keeps)
          (subst (λ (b : Book). TellsOf b (get_or c.args.candidates.now k 0) c.args.same.now) (sym (ap book_of reads.held)) tells)))
          c.in-None.is;
    }

pub returns-in-Some-clause-right : goal.returns-in-Some-clause-right
returns-in-Some-clause-right g c told first is =
    let reads = c.loop-candidate.invariant.reads in
    let k = c.loop-candidate.candidate-index in
    let book = book_of c.args.volumes.now.held in
    let mid = book_of c.loop-candidate.volumes.held in
    let found : HasItsPayload book first c.in_ok-found.found =
    found_here book c.args.same.now c.args.candidates.now first is k (c.loop-candidate.invariant.none told first is) c.in_ok-found.found
    (λ keeps tells. subst (λ (b : Book). HasItsPayload b (get_or c.args.candidates.now k 0) c.in_ok-found.found) (ap book_of reads.held)
    (c.in_ok-found.ensures.right told (subst (λ (b : Book). KeepsWire b (get_or c.args.candidates.now k 0)) (sym (ap book_of reads.held)) keeps)
    (subst (λ (b : Book). TellsOf b (get_or c.args.candidates.now k 0) c.args.same.now) (sym (ap book_of reads.held)) tells)))
    (subst (λ (b : Book). id_of_response b.namespace (get_or c.args.candidates.now k 0) ≡ c.args.same.now.id) (ap book_of reads.held)
    (subst (λ (f : Option (List ℕ)). IfSome f (λ payload. id_of_response mid.namespace (get_or c.args.candidates.now k 0) ≡ c.args.same.now.id)) c.in-Some.is
    c.in_ok-found.ensures.met)) in
    subst (HasItsPayload book first) c.in-Some.is found

pub returns-in-Some-clause-kept : goal.returns-in-Some-clause-kept
returns-in-Some-clause-kept g c digest have =
    let k = c.loop-candidate.candidate-index in
    let whole = c.requires.whole k (omega (arith, c.loop-candidate-test.true)) in
    subst (λ (f : Option (List ℕ)). IfSome f (λ payload. sha1 payload ≡ digest)) c.in-Some.is
    (subst (λ (d : List ℕ). IfSome c.in_ok-found.found (λ payload. sha1 payload ≡ d)) (have k whole.spot (omega (arith, c.loop-candidate-test.true)) whole.placed)
    (c.in_ok-found.ensures.kept whole.spot whole.placed))

pub returns-in-Some-clause-reads : goal.returns-in-Some-clause-reads
returns-in-Some-clause-reads g c =
    reads_then g.D.Disk c.args.volumes.now c.loop-candidate.volumes c.told_payload.new.volumes c.loop-candidate.invariant.reads c.told_payload.ensures.reads

pub returns-in_err-found-clause-reads : goal.returns-in_err-found-clause-reads
returns-in_err-found-clause-reads g c =
    reads_then g.D.Disk c.args.volumes.now c.loop-candidate.volumes c.told_payload.new.volumes c.loop-candidate.invariant.reads c.told_payload.ensures.reads

pub returns-clause-right : goal.returns-clause-right
returns-clause-right g c told first is =
    absurd (omega (arith, c.loop-candidate.invariant.none told first is, is.within, c.loop-candidate-test.false))
