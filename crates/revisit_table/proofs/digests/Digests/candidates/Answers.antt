use Rattle.std.proofs.Common.{◌≡◌, arith}
use Rattle.std.proofs.lemmas.Grind.{common_steps}
use Rattle.revisit_table.specs.Table.{numbers_of}
use Rattle.revisit_table.proofs.TableLemmas.{numbers_rise}
use Rattle.revisit_table.proofs.digests.Digests.candidates.Goals as goal

pub returns-in-Some-clause-rising : goal.returns-in-Some-clause-rising
returns-in-Some-clause-rising c =
    let kept = c.self.inside.kept.items in
    let same : c.as_slice.result.now ≡ numbers_of c.args.digest.now kept = grind (arith, common_steps, c.self.invariant.same c.args.digest.now) in
    rw same (numbers_rise c.args.digest.now kept c.self.invariant.rising)
