-- What comes back is watched still.
use Rattle.std.proofs.Common.{◌≡◌, ◌⊎◌, true, sym, subst}
use Rattle.archive_core.specs.Holdings.{Holdings}
use Rattle.archive_core.specs.Told.{told_of}
use Rattle.archive_shelf.specs.Told.{GoesOn}
use Rattle.command.specs.Objects.{told_around}
use Rattle.crew.specs.Crews.{IsEnd}
use Rattle.proxy_run.specs.Serving.{ServesOne, pipe_site}
use Rattle.request_answer.specs.Gains.{Setting}
use Rattle.proxy_run.proofs.serving.serve_watched.Goals as goal

pub over-watched-requires : goal.over-watched-requires
over-watched-requires g c = c.requires

pub returns-clause-serves : goal.returns-clause-serves
returns-clause-serves g c = λ clients origins.
    let d = g.D.Disk in
    let was = told_around g.G.Gate g.N.Dialer g.C.Clock c.args.gate.now c.args.member.now in
    let is = told_around g.G.Gate g.N.Dialer g.C.Clock c.serve_first-said.new.gate c.serve_first-said.new.member in
    let said = c.serve_first-said.result in
    let none = IsEnd (g.G.Gate.closed c.args.gate.now) (g.G.Gate.faults c.args.gate.now) (g.G.Gate.faults c.serve_first-said.new.gate) said in
    let setting : Setting = record { site = pipe_site; clock_tells = g.C.Clock.tells } in
    subst (λ (held : Holdings _). ServesOne true setting was is (told_of d held) (told_of d c.into_archive.result) said
    ⊎ (none × (is ≡ was) × (c.into_archive.result ≡ held))) c.over-watched.ensures
    (subst (λ (held : Holdings _). ServesOne true setting was is (told_of d c.over-watched.result) (told_of d held) said
    ⊎ (none × (is ≡ was) × (held ≡ c.over-watched.result))) (sym c.into_archive.ensures.archive) (c.serve_first-said.ensures.serves clients origins))

pub returns-clause-goes_on : goal.returns-clause-goes_on
returns-clause-goes_on g c =
    let d = g.D.Disk in
    subst (λ (held : Holdings _). GoesOn true (told_of d held) (told_of d c.into_archive.result)) c.over-watched.ensures
    (subst (λ (held : Holdings _). GoesOn true (told_of d c.over-watched.result) (told_of d held)) (sym c.into_archive.ensures.archive) c.serve_first-said.ensures.goes_on)
