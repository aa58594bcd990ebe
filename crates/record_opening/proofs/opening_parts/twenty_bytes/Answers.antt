use Rattle.std.proofs.Common.{arith}
use Rattle.std.proofs.lemmas.List.{get_or_default}
use Rattle.record_opening.proofs.opening_parts.twenty_bytes.Goals as goal

pub returns : goal.returns
returns c = record {
  length_is = c.requires;
  bytes = λ k d below.
      let fits = c.type_inv.digest k in
      omega (arith, fits, get_or_default c.args.digest.now k d 0 below);
}
