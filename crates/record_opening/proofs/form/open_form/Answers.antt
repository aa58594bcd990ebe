use Rattle.std.proofs.Common.{below_more, sym, ◌∙◌}
use Rattle.record_opening.proofs.form.open_form.Goals as goal

pub loop-place-preserved : goal.loop-place-preserved
loop-place-preserved c = below_more _ _ c.loop-place.invariant (sym c.fits.ensures ∙ c.if-not-fits.false)
