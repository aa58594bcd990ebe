use Rattle.std.proofs.Common.{◌≡◌, length}
use Rattle.time_text.specs.Blanks.{trim_end}
use Rattle.time_text.proofs.http.without_last_blanks.Given as goal

abbrev pub invariant-back : goal.invariant-back
invariant-back l = trim_end l.text ≡ trim_end l.fn.text

abbrev pub decreases-back : goal.decreases-back
decreases-back l = length l.text
