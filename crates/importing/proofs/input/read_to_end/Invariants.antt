-- What was read so far is what was heard.
use Rattle.std.proofs.Common.{◌≡◌, ◌≤◌, ◌-◌, [], false, IsTrue, length}
use Rattle.outside.specs.Gate.{heard_of}
use Rattle.importing.specs.Inputs.{only_read}
use Rattle.importing.specs.declared.input.TheConstants.{INPUT_LIMIT}
use Rattle.importing.proofs.input.read_to_end.Given as goal

abbrev pub invariant-reading : goal.invariant-reading
invariant-reading g l = record {
  heard : IsTrue g.L.Link.tells → heard_of (g.L.Link.traffic l.link) (g.L.Link.faults l.link) ≡ only_read l.input.items false 0;
  faults : g.L.Link.faults l.link ≡ 0;
  within : length l.input.items ≤ INPUT_LIMIT;
  empty : l.window ≡ [];
}

-- each piece has a byte more
abbrev pub decreases-reading : goal.decreases-reading
decreases-reading g l = INPUT_LIMIT - length l.input.items
