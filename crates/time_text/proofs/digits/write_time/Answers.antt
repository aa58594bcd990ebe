use Rattle.time_text.specs.Texts.{time_digits}
use Rattle.time_text.proofs.digits.write_time.Goals as goal

pub returns : goal.returns
unfolding time_digits
returns c = rw c.needed.ensures.value at c.write_digits.ensures
