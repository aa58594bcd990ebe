-- All digits are seventeen.
use Rattle.std.proofs.Common.{◌≡◌, ℕ, ◌∙◌, take, refl, ap}
use Rattle.time_text.specs.Texts.{all_digits}
use Rattle.cdx_query.proofs.filter.digits_of.Goals as goal

whole_digits : (date : ℕ) → take 17 (all_digits date) ≡ all_digits date
unfolding all_digits
whole_digits date = refl

pub returns : goal.returns
returns c = c.in-Ok.ensures.1 ∙ whole_digits c.date_of.result ∙ ap all_digits c.date_of.ensures.value
