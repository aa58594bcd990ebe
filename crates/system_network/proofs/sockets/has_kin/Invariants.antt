-- None of the addresses so far is of the same family.
use Rattle.std.proofs.Common.{◌≡◌, false, take}
use Rattle.std.specs.List.{list_any}
use Rattle.system_network.specs.Addresses.{is_kin}
use Rattle.system_network.proofs.sockets.has_kin.Given as goal

abbrev pub invariant-loop-other : goal.invariant-loop-other
invariant-loop-other l = list_any (is_kin l.address) (take l.other-index l.before) ≡ false
