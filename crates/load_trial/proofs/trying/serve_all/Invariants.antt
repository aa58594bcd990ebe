-- Each connection has an exchange more.
use Rattle.std.specs.Prelude.{◌-◌}
use Rattle.load_trial.proofs.trying.serve_all.Given as goal

abbrev pub decreases-serving : goal.decreases-serving
decreases-serving g l = l.count - l.from
