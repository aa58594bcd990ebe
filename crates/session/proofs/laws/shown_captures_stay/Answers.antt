-- The laws.
use Rattle.session.proofs.ShownLaws.{found_replayed, shown_there}
use Rattle.session.proofs.laws.shown_captures_stay.Goals as goal

pub returns : goal.returns
returns c = record { replayed = found_replayed; there = shown_there }
