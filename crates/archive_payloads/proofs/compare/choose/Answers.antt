use Rattle.archive_payloads.proofs.FaultLaws.{counts_behind, looked_on, not_done}
use Rattle.archive_reading.proofs.RereadLaws.{chosen_on}
use Rattle.std.proofs.Common.{Option, ℕ, false, Ok, get_or, refl, ap, subst, ◌∙◌, arith, Bool}
use Rattle.capture.specs.declared.book.Book.{Book}
use Rattle.warc_journal.specs.Journals.{texts, disk_of}
use Rattle.archive_shelf.specs.Comparing.{HasWhole}
use Rattle.archive_reading.proofs.BringLaws.{made_on, readable_on, reads_then, reads_itself}
use Rattle.archive_payloads.proofs.ChooseLaws.{none_more}
use Rattle.archive_payloads.proofs.DamageLaws.{damage_exit, damage_on, passed_more, passed_on}
use Rattle.archive_payloads.specs.Choosing.{Asks, is_look_fault}
use Rattle.archive_volumes.specs.Held.{book_of}
use Rattle.archive_payloads.proofs.compare.choose.Goals as goal

pub has_payload-requires-clause-readable : goal.has_payload-requires-clause-readable
has_payload-requires-clause-readable g c =
    readable_on g.D.Disk c.args.told.now.value c.args.volumes.now c.loop-candidate.volumes c.loop-candidate.invariant.reads c.args.spots.now c.requires.readable

pub has_payload-requires-clause-made : goal.has_payload-requires-clause-made
has_payload-requires-clause-made g c untold =
    made_on g.D.Disk c.args.volumes.now c.loop-candidate.volumes c.loop-candidate.invariant.reads c.args.spots.now (c.requires.made untold)

pub returns-in_err-has-clause-reads : goal.returns-in_err-has-clause-reads
returns-in_err-has-clause-reads g c =
    reads_then g.D.Disk c.args.volumes.now c.loop-candidate.volumes c.has_payload.new.volumes c.loop-candidate.invariant.reads c.has_payload.ensures.reads

pub returns-then-has-clause-reads : goal.returns-then-has-clause-reads
returns-then-has-clause-reads g c =
    reads_then g.D.Disk c.args.volumes.now c.loop-candidate.volumes c.has_payload.new.volumes c.loop-candidate.invariant.reads c.has_payload.ensures.reads

pub loop-candidate-preserved : goal.loop-candidate-preserved
loop-candidate-preserved g c =
    let reads = c.loop-candidate.invariant.reads in
    let candidates = c.args.candidates.now in
    let index = c.loop-candidate.candidate-index in
    record {
      reads = reads_then g.D.Disk c.args.volumes.now c.loop-candidate.volumes c.has_payload.new.volumes reads c.has_payload.ensures.reads;
      faults = c.in_ok-has.ensures.faults ∙ c.loop-candidate.invariant.faults;
      none = λ payload is told.
          let asks : Asks c.args.told.now.value (book_of c.loop-candidate.volumes.held) (get_or candidates index 0) payload (Ok false) =
          subst (λ b. Asks c.args.told.now.value (book_of c.loop-candidate.volumes.held) (get_or candidates index 0) payload (Ok b)) c.if-has.false
          (c.in_ok-has.ensures.asks payload is) in
          none_more (book_of c.args.volumes.now.held) candidates index (get_or candidates index 0) payload refl (c.loop-candidate.invariant.none payload is told)
          (subst (λ (b : Book). ¬ (HasWhole b (get_or candidates index 0) payload)) (ap book_of reads.held) (asks told));
      passed = λ payload is.
          passed_more g.D.Disk.tells (texts g.D.Disk c.args.volumes.now.journal) (book_of c.args.volumes.now.held).namespace c.args.spots.now candidates payload index
          (c.loop-candidate.invariant.passed payload is)
          (passed_on g.D.Disk c.args.volumes.now c.loop-candidate.volumes reads c.args.spots.now payload (get_or candidates index 0)
          (c.in_ok-has.ensures.passes payload is c.if-has.false));
    }

pub returns-clause-chooses : goal.returns-clause-chooses
returns-clause-chooses g c payload is told k less =
    c.loop-candidate.invariant.none payload is told k (omega (arith, less, c.loop-candidate-test.false))

pub returns-then-has-clause-there : goal.returns-then-has-clause-there
returns-then-has-clause-there g c tells payload is =
    chosen_on g.D.Disk c.args.volumes.now c.loop-candidate.volumes c.loop-candidate.invariant.reads tells c.args.spots.now payload _
    (c.in_ok-has.ensures.there tells payload is c.if-has.true)

pub returns-in_err-has-clause-damage : goal.returns-in_err-has-clause-damage
returns-in_err-has-clause-damage g c =
    let old = c.args.volumes.now in
    damage_exit (Option ℕ) g.D.Disk.tells (texts g.D.Disk old.journal) (book_of old.held).namespace c.args.spots.now c.in_err-has.field-0.0
    c.from_residual.result c.from_residual.ensures.1
    (damage_on g.D.Disk old c.loop-candidate.volumes c.loop-candidate.invariant.reads c.args.spots.now c.in_err-has.field-0.0 c.in_err-has.ensures.damage)

pub returns-then-has-clause-passes : goal.returns-then-has-clause-passes
returns-then-has-clause-passes g c payload is =
    (c.loop-candidate.candidate-index, omega (arith, c.loop-candidate-test.true), refl, c.loop-candidate.invariant.passed payload is)

pub returns-clause-passes : goal.returns-clause-passes
returns-clause-passes g c payload is k less =
    c.loop-candidate.invariant.passed payload is k (omega (arith, less, c.loop-candidate-test.false))

-- ---- what is asked, and what stays at each exit

pub has_payload-requires-clause-whole : goal.has_payload-requires-clause-whole
has_payload-requires-clause-whole g c =
    c.requires.whole c.loop-candidate.candidate-index (omega (arith, c.loop-candidate-test.true))

pub loop-candidate-init : goal.loop-candidate-init
loop-candidate-init g c =
    record {
      reads = reads_itself g.D.Disk c.args.volumes.now;
      faults = refl;
      none = λ payload is told k less. absurd (omega (arith, less));
      passed = λ payload is k less. absurd (omega (arith, less));
    }

pub returns-in_err-has-clause-there : goal.returns-in_err-has-clause-there
returns-in_err-has-clause-there g c tells payload is =
    not_done _ c.from_residual.result c.from_residual.ensures.0

pub returns-in_err-has-clause-passes : goal.returns-in_err-has-clause-passes
returns-in_err-has-clause-passes g c payload is =
    not_done _ c.from_residual.result c.from_residual.ensures.0

pub returns-in_err-has-clause-faults : goal.returns-in_err-has-clause-faults
returns-in_err-has-clause-faults g c =
    counts_behind (is_look_fault c.from_residual.result) (g.D.Disk.faults (disk_of c.args.volumes.now.journal)) (g.D.Disk.faults (disk_of c.loop-candidate.volumes.journal)) (g.D.Disk.faults (disk_of c.has_payload.new.volumes.journal)) c.loop-candidate.invariant.faults
    (looked_on Bool (Option ℕ) (g.D.Disk.faults (disk_of c.loop-candidate.volumes.journal)) (g.D.Disk.faults (disk_of c.has_payload.new.volumes.journal)) c.in_err-has.field-0.0 c.from_residual.result c.from_residual.ensures.1 c.in_err-has.ensures.faults)

pub returns-then-has-clause-faults : goal.returns-then-has-clause-faults
returns-then-has-clause-faults g c = c.in_ok-has.ensures.faults ∙ c.loop-candidate.invariant.faults

pub returns-clause-reads : goal.returns-clause-reads
returns-clause-reads g c = c.loop-candidate.invariant.reads

pub returns-clause-faults : goal.returns-clause-faults
returns-clause-faults g c = c.loop-candidate.invariant.faults
