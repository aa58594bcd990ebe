-- The laws of specs/steps.
use Rattle.folder_model.specs.steps.TimeLaws.{image_now, image_only_now, image_earlier}
use Rattle.folder_model.proofs.laws.moments_have_their_images.Goals as goal

pub returns-clause-now : goal.returns-clause-now
returns-clause-now c = image_now

pub returns-clause-only_now : goal.returns-clause-only_now
returns-clause-only_now c = image_only_now

pub returns-clause-earlier : goal.returns-clause-earlier
returns-clause-earlier c = image_earlier
