-- So many addresses are put as are kept of those that came.
use Rattle.std.proofs.Common.{◌≤◌, length}
use Rattle.system_network.specs.Addresses.{ArePut}
use Rattle.system_network.proofs.sockets.put_first.Given as goal

abbrev pub invariant-loop-address : goal.invariant-loop-address
invariant-loop-address g l =
    (l.n ≤ length l.found) × ArePut l.yielded l.initial.found l.found l.n
    × (goal.iterator-loop-address g).can_next l.address-iterator
    × (goal.iterator-loop-address g).is_finite l.address-iterator
