use Rattle.std.proofs.Common.{◌≡◌, ap, ◌∙◌, ℕ, ◌+◌, List, [], ◌∷◌, ◌++◌, length, arith, length-append}
use Rattle.disk_model.specs.Device.{reading_of}
use Rattle.disk_model.specs.contracts.memory_disk.MemoryDiskDisk.TheImpl.{ghosts}
use Rattle.warc_journal.specs.Journals.{disk_of}
use Rattle.archive_core.specs.Told.{told_of}
use Rattle.event_core.proofs.FaultLaws.{rose_push}
use Rattle.event_core.proofs.RunLaws.{run_lacks, run_next, run_part, run_whole}
use Rattle.event_core.proofs.StopLaws.{read_now}
use Rattle.event_core.specs.declared.reply.Reply.{Reply}
use Rattle.event_core.proofs.run.run_all.Goals as goal

pub returns-then-is_err-clause-runs : goal.returns-then-is_err-clause-runs
returns-then-is_err-clause-runs c = λ so start first.
    let same = c.of.ensures ∙ c.reserve.ensures.items in
    let count : length c.of.result ≡ c.loop-event.event-index = ap (λ (l : List Reply). length l) same ∙ c.loop-event.invariant.count in (
      omega (arith, count, c.loop-event-test.true),
      run_lacks c.args.opening.now.limits c.args.opening.now.namespace start c.args.events.now c.loop-event.event-index c.loop-event.replies.items
          (told_of ghosts c.loop-event.archive) (c.loop-event.invariant.runs so start first) (reading_of c.close.result) c.of.result same
          c.loop-event.invariant.count
          (λ was stands. c.close.ensures.holds c.args.opening.now.limits c.args.opening.now.namespace was (reading_of c.close.result) stands (read_now c.close.result)),
    )

pub returns-in-Err-clause-runs : goal.returns-in-Err-clause-runs
returns-in-Err-clause-runs c = λ so start first.
    run_part c.args.opening.now.limits c.args.opening.now.namespace start c.args.events.now c.loop-event.event-index c.loop-event.replies.items
    (told_of ghosts c.loop-event.archive) (c.loop-event.invariant.runs so start first) c.event-item.result c.in-Err.fault (reading_of c.in-Err.disk)
    c.of-in-Err.result (c.of-in-Err.ensures ∙ c.reserve.ensures.items) c.loop-event.invariant.count c.loop-event-test.true c.event-item.is
    (c.in-Err.ensures.refused so)

pub loop-event-preserved : goal.loop-event-preserved
loop-event-preserved c =
    let all = c.push_reserved.ensures.items ∙ ap (λ (l : List Reply). l ++ c.in-Ok.taken.1 ∷ []) c.reserve.ensures.items in record {
      count = ap (λ (l : List Reply). length l) all ∙ length-append c.loop-event.replies.items (c.in-Ok.taken.1 ∷ [])
          ∙ ap (λ (n : ℕ). n + 1) c.loop-event.invariant.count;
      faults = rose_push c.loop-event.replies.items c.push_reserved.new.self.items c.in-Ok.taken.1 (disk_of c.args.archive.journal).faults
          (disk_of c.loop-event.archive.journal).faults (disk_of c.in-Ok.taken.0.journal).faults all c.loop-event.invariant.faults
          c.in-Ok.ensures.rose;
      stands = λ so.
          let at = c.loop-event.invariant.stands so in
          let to = c.in-Ok.ensures.goes_on so at.was at.stands in record { was = to.is; stands = to.stands };
      runs = λ so start first.
          run_next c.args.opening.now.limits c.args.opening.now.namespace start c.args.events.now c.loop-event.event-index c.loop-event.replies.items
          (told_of ghosts c.loop-event.archive) (c.loop-event.invariant.runs so start first) c.event-item.result c.in-Ok.taken.1
          (told_of ghosts c.in-Ok.taken.0) c.push_reserved.new.self.items c.loop-event-test.true c.event-item.is all (c.in-Ok.ensures.goes_on so);
    }

pub returns-clause-runs : goal.returns-clause-runs
returns-clause-runs c = λ so start first.
    run_whole c.args.opening.now.limits c.args.opening.now.namespace start c.args.events.now c.loop-event.event-index c.loop-event.replies.items
    (told_of ghosts c.loop-event.archive) (c.loop-event.invariant.runs so start first) (reading_of c.close-2.result) c.of-2.result c.of-2.ensures
    c.loop-event-test.false
    (λ was stands. c.close-2.ensures.holds c.args.opening.now.limits c.args.opening.now.namespace was (reading_of c.close-2.result) stands (read_now c.close-2.result))
