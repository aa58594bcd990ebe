-- All was told, or memory ran out.
use Rattle.std.proofs.Common.{refl}
use Rattle.command.specs.Printing.{printed_as}
use Rattle.importing.proofs.ImportLaws.{told_whole, untold_whole}
use Rattle.importing.proofs.importing.tell_all.Goals as goal

pub returns-in-Ok : goal.returns-in-Ok
returns-in-Ok g c file outcomes import skips tellable =
    told_whole g.O.Sink file c.args.tally outcomes _ (printed_as c.args.out.now c.print_as.new.out c.print_as.result) import skips tellable c.in-Ok.ensures
    (rw c.as_slice.ensures.value at (rw c.status_after.ensures at c.print_as.ensures))

pub returns : goal.returns
returns g c file outcomes import skips tellable =
    untold_whole g.O.Sink file c.args.tally outcomes (printed_as c.args.out.now c.args.out.now _) import (record { status_is = refl; same = refl })
