use Rattle.std.proofs.Common.{◌≡◌, length}
use Rattle.time_text.specs.Blanks.{trim_start}
use Rattle.time_text.proofs.http.without_first_blanks.Given as goal

abbrev pub invariant-front : goal.invariant-front
invariant-front l = trim_start l.text ≡ trim_start l.fn.text

abbrev pub decreases-front : goal.decreases-front
decreases-front l = length l.text
