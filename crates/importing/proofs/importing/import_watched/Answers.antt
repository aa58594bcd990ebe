-- What comes back is watched still.
use Rattle.std.proofs.Common.{true, sym, subst}
use Rattle.archive_core.specs.Holdings.{Holdings}
use Rattle.archive_core.specs.Told.{told_of}
use Rattle.command.specs.Gates.{gate_told}
use Rattle.command.specs.Printing.{printed_as}
use Rattle.importing.specs.steps.Importing.{ImportsFirst}
use Rattle.importing.proofs.importing.import_watched.Goals as goal

pub returns-clause-first : goal.returns-clause-first
returns-clause-first g c =
    let d = g.D.Disk in
    let was = gate_told g.G.Gate c.args.gate.now in
    let is = gate_told g.G.Gate c.import_first-status.new.gate in
    let printed = printed_as c.args.out.now c.import_first-status.new.out c.import_first-status.result in
    subst (λ (held : Holdings _). ImportsFirst true g.O.Sink g.G.Link.Link.tells was is (told_of d held) (told_of d c.into_archive.result) printed)
    c.over-watched.ensures
    (subst (λ (held : Holdings _). ImportsFirst true g.O.Sink g.G.Link.Link.tells was is (told_of d c.over-watched.result) (told_of d held) printed) (sym c.into_archive.ensures.archive) c.import_first-status.ensures)

pub over-watched-requires : goal.over-watched-requires
over-watched-requires g c = c.requires
