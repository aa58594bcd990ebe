use Rattle.std.proofs.Common.{take, ap, arith, ◌∙◌}
use Rattle.std.specs.Prelude.{}
use Rattle.time_text.specs.Texts.{digits_of, all_digits}
use Rattle.time_text.proofs.Earliest.{lengths_cases}
use Rattle.time_text.proofs.digits.write_digits.Goals as goal

pub invariant_of-result : goal.invariant_of-result
invariant_of-result c = omega (arith, lengths_cases c.args.digits c.requires)

pub returns : goal.returns
unfolding all_digits
returns c = (c.in_ok-civil.ensures.value.0, ap (take c.args.digits) (c.digits.ensures ∙ ap digits_of c.in_ok-civil.ensures.value.1))
