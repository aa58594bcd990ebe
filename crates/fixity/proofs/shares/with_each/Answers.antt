use Rattle.std.proofs.Common.{arith}
use Rattle.fixity.specs.declared.shares.Share.{Share}
use Rattle.fixity.proofs.shares.with_each.Goals as goal

pub shares-preserved : goal.shares-preserved
shares-preserved c = record {
  runs = λ namespace number bytes stand front.
      let none : Share = record { at = 0; len = 0; before = 0; groups = 0 } in
      c.with_share-longer.ensures namespace number bytes (stand c.shares.i none (omega (arith, c.shares-test.true))) (c.shares.invariant.runs namespace number bytes stand front);
}
