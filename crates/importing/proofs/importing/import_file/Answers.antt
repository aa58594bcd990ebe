-- All was taken, or a front of it, or nothing.
use Rattle.std.proofs.Common.{None, Ok, refl, ap, subst}
use Rattle.command.specs.Printing.{printed_as}
use Rattle.importing.proofs.ImportLaws.{imported_front, imported_none, imported_whole}
use Rattle.importing.proofs.TakingLaws.{taken_none}
use Rattle.importing.proofs.importing.import_file.Goals as goal
use Rattle.importing.specs.steps.Taking.{HasBegun, HasTakenAll}
use Rattle.warc_reader.specs.Files.{FileReading}

pub returns-in-Err : goal.returns-in-Err
returns-in-Err g c =
    imported_none g.S.Finder.alone g.O.Sink (Ok c.args.file.now) (g.S.Finder.told c.args.shelf.now)
    (printed_as c.args.out.now c.tell_no_file.new.out c.tell_no_file.result)
    (c.tell_no_file.ensures c.args.file.now 0 None c.in-Err.ensures.fault)

pub take_all-requires-clause-begun : goal.take_all-requires-clause-begun
take_all-requires-clause-begun g c =
    taken_none g.S.Finder.alone _ c.args.file.now _ (g.S.Finder.told c.args.shelf.now) c.in-Ok.ensures.stands c.in-Ok.ensures.is_file c.new-tally.ensures.lines
    c.new-tally.ensures.skipped c.new-tally.ensures.stored c.new-tally.ensures.refused

pub returns-in-Ok-take_all : goal.returns-in-Ok-take_all
returns-in-Ok-take_all g c =
    imported_whole g.S.Finder.alone g.O.Sink c.args.file.now c.take_all.new.tally (g.S.Finder.told c.args.shelf.now) (g.S.Finder.told c.take_all.new.shelf)
    (printed_as c.args.out.now c.tell_all.new.out c.tell_all.result)
    (subst (λ f. HasTakenAll g.S.Finder.alone f c.take_all.new.tally (g.S.Finder.told c.args.shelf.now) (g.S.Finder.told c.take_all.new.shelf))
    (ap (λ (r : FileReading). r.file) c.in-Ok.ensures.stands) c.in-Ok-take_all.ensures)
    c.tell_all.ensures

pub returns : goal.returns
returns g c =
    imported_front g.S.Finder.alone g.O.Sink c.args.file.now (g.S.Finder.told c.args.shelf.now) (g.S.Finder.told c.take_all.new.shelf)
    (printed_as c.args.out.now c.args.out.now _)
    (subst (λ f. HasBegun g.S.Finder.alone f (g.S.Finder.told c.args.shelf.now) (g.S.Finder.told c.take_all.new.shelf))
    (ap (λ (r : FileReading). r.file) c.in-Ok.ensures.stands) c.in-Err-take_all.ensures)
    (record { status_is = refl; same = refl })
