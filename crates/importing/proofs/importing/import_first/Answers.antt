-- What was read was imported, or there was no input.
use Rattle.std.proofs.Common.{Err, None, Ok}
use Rattle.command.specs.Printing.{printed_as}
use Rattle.importing.proofs.ImportLaws.{failed_as, failed_not, first_read, imported_none}
use Rattle.importing.proofs.importing.import_first.Goals as goal

pub returns-in-Ok : goal.returns-in-Ok
returns-in-Ok g c =
    first_read g.S.Finder.alone g.O.Sink g.G.Link.Link.tells _ _ (g.S.Finder.told c.args.shelf.now) (g.S.Finder.told c.import_file.new.shelf)
    (printed_as c.args.out.now c.import_file.new.out c.import_file.result) (Ok c.in-Ok.input.items) (λ t. c.in-Ok.ensures.input t) (failed_not c.in-Ok.input c.in-Ok.input.items _ _ c.in-Ok.ensures.gate_failed) (rw c.as_slice.ensures.value at c.import_file.ensures)

pub returns-in-Err : goal.returns-in-Err
returns-in-Err g c =
    first_read g.S.Finder.alone g.O.Sink g.G.Link.Link.tells _ _ (g.S.Finder.told c.args.shelf.now) (g.S.Finder.told c.args.shelf.now)
    (printed_as c.args.out.now c.tell_no_input.new.out c.tell_no_input.result) (Err c.in-Err.fault) (λ t. c.in-Err.ensures.none t) (failed_as c.in-Err.fault _ _ c.in-Err.ensures.gate_failed)
    (imported_none g.S.Finder.alone g.O.Sink (Err c.in-Err.fault) (g.S.Finder.told c.args.shelf.now)
    (printed_as c.args.out.now c.tell_no_input.new.out c.tell_no_input.result) (c.tell_no_input.ensures 0 None))
