-- The digits of a date are digits.
use Rattle.replay_url.proofs.AsciiLemmas.{digits_are_ascii}
use Rattle.replay_url.proofs.put.put_at_time.Goals as goal

pub returns-clause-digits : goal.returns-clause-digits
returns-clause-digits c = digits_are_ascii _ (c.texts_have_no_blanks.ensures.digits c.args.time c.args.digits c.requires.in_range)
