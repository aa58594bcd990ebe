-- The reader goes farther until no record is left.
use Rattle.std.proofs.Common.{refl, subst, ap, ◌∙◌, arith, length}
use Rattle.importing.proofs.TakingLaws.{taken_few}
use Rattle.importing.specs.steps.Taking.{HasBegun, HasTakenAll}
use Rattle.importing.proofs.taking.take_all.Goals as goal

pub take_next-requires-clause-stands : goal.take_next-requires-clause-stands
take_next-requires-clause-stands g c = (c.taking.invariant.taken.outcomes, c.taking.invariant.taken.given)

pub take_next-requires-clause-stored : goal.take_next-requires-clause-stored
take_next-requires-clause-stored g c =
    let few = taken_few g.S.Finder.alone c.taking.reader c.taking.tally (g.S.Finder.told c.args.shelf.now) (g.S.Finder.told c.taking.shelf) c.taking.invariant.taken in
    omega (arith, few.stored, few.within, ap length c.taking.invariant.file, c.requires.short)

pub take_next-requires-clause-skipped : goal.take_next-requires-clause-skipped
take_next-requires-clause-skipped g c =
    let few = taken_few g.S.Finder.alone c.taking.reader c.taking.tally (g.S.Finder.told c.args.shelf.now) (g.S.Finder.told c.taking.shelf) c.taking.invariant.taken in
    omega (arith, few.skipped, few.within, ap length c.taking.invariant.file, c.requires.short)

pub taking-init : goal.taking-init
taking-init g c = record { taken = c.requires.begun; file = refl }

pub taking-preserved : goal.taking-preserved
taking-preserved g c = record {
  taken = rw c.in-Ok-true.field-0-test at (c.in-Ok-true.ensures.takes c.args.shelf.now c.taking.invariant.taken);
  file = c.take_next.ensures.file ∙ c.taking.invariant.file;
}

pub taking-smaller : goal.taking-smaller
taking-smaller g c =
    let few = taken_few g.S.Finder.alone c.take_next.new.reader c.take_next.new.tally (g.S.Finder.told c.args.shelf.now) (g.S.Finder.told c.take_next.new.shelf)
    (rw c.in-Ok-true.field-0-test at (c.in-Ok-true.ensures.takes c.args.shelf.now c.taking.invariant.taken)) in
    omega (arith, few.within, ap length c.take_next.ensures.file, c.in-Ok-true.ensures.farther c.in-Ok-true.field-0-test)

pub returns-in-Ok-false : goal.returns-in-Ok-false
returns-in-Ok-false g c =
    subst (λ f. HasTakenAll g.S.Finder.alone f c.take_next.new.tally (g.S.Finder.told c.args.shelf.now) (g.S.Finder.told c.take_next.new.shelf))
    (c.take_next.ensures.file ∙ c.taking.invariant.file) (rw c.in-Ok-false.field-0-test at (c.in-Ok-false.ensures.takes c.args.shelf.now c.taking.invariant.taken))

pub returns-in-Err : goal.returns-in-Err
returns-in-Err g c =
    subst (λ f. HasBegun g.S.Finder.alone f (g.S.Finder.told c.args.shelf.now) (g.S.Finder.told c.take_next.new.shelf))
    (c.take_next.ensures.file ∙ c.taking.invariant.file) (c.in-Err.ensures.takes c.args.shelf.now c.taking.invariant.taken)
