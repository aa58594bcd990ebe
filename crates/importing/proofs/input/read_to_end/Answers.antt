-- Each piece stands behind what was heard before.
use Rattle.std.proofs.Common.{true, refl, ap, arith, length}
use Rattle.importing.proofs.InputLaws.{failed_heard, fresh_heard, heard_more, input_heard, memory_heard, no_piece}
use Rattle.importing.proofs.input.read_to_end.Goals as goal

pub returns-in-Err-clause-none : goal.returns-in-Err-clause-none
returns-in-Err-clause-none g c t =
    memory_heard _ _ (fresh_heard (g.L.Link.traffic c.args.link.now) (g.L.Link.faults c.args.link.now) _ (c.requires.fresh t) c.requires.no_fault refl)

pub reading-init : goal.reading-init
reading-init g c = record {
  heard = λ t. fresh_heard (g.L.Link.traffic c.args.link.now) (g.L.Link.faults c.args.link.now) c.new-input.result.items (c.requires.fresh t) c.requires.no_fault
      c.new-input.ensures.items;
  faults = c.requires.no_fault;
  within = omega (arith, ap length c.new-input.ensures.items);
  empty = c.in-Ok.ensures;
}

pub returns-in-Ok-false-clause-input : goal.returns-in-Ok-false-clause-input
returns-in-Ok-false-clause-input g c t =
    input_heard _ c.reading.input.items c.refill.new.self
    (heard_more (g.L.Link.traffic c.reading.link) (g.L.Link.traffic c.refill.new.link) (g.L.Link.faults c.reading.link) (g.L.Link.faults c.refill.new.link)
    c.reading.input.items c.refill.new.self true (rw c.in-Ok-false.field-0-test at (c.in-Ok-false.ensures.gives t)) c.in-Ok-false.ensures.counts.steady
    (c.reading.invariant.heard t))
    (no_piece _ (length c.refill.new.self) c.in-Ok-false.field-0-test c.in-Ok-false.ensures.some.1) c.reading.invariant.within

pub returns-in-Err-refill-clause-none : goal.returns-in-Err-refill-clause-none
returns-in-Err-refill-clause-none g c t =
    failed_heard (g.L.Link.traffic c.reading.link) (g.L.Link.traffic c.refill.new.link) (g.L.Link.faults c.reading.link) (g.L.Link.faults c.refill.new.link)
    c.reading.input.items (c.in-Err-refill.ensures.gives_nothing t) c.reading.invariant.faults c.in-Err-refill.ensures.counts.rose (c.reading.invariant.heard t)
