-- By the command that the words name, or the usage was printed.
use Rattle.std.proofs.Common.{sym, subst, ◌∙◌}
use Rattle.command.proofs.BeginningLaws.{begun_known}
use Rattle.command.specs.Base.{site_among}
use Rattle.command.specs.Objects.{kinds_of, objects_of}
use Rattle.command.specs.Words.{texts}
use Rattle.proxy_run.proofs.ReadyLaws.{may_begin, misspelled, runs_ready, runs_unready}
use Rattle.proxy_run.specs.Runs.{IsReady, MayRun}
use Rattle.proxy_run.proofs.running.run.Goals as goal

pub returns-in_default : goal.returns-in_default
returns-in_default g c =
    misspelled (kinds_of g.D.Disk g.G.Gate g.N.Dialer g.C.Clock g.O.Sink g.G.Link.Link.tells g.N.Link.Link.tells) g.K.Known.book _ _
    (objects_of c.args.disk c.args.gate.now c.args.crew.now.members.items c.args.out.now) c.print_as.new.out c.print_as.result
    (sym c.command_of.ensures.value ∙ c.in_default.is) c.print_as.ensures

pub run_named-requires-clause-crew : goal.run_named-requires-clause-crew
run_named-requires-clause-crew g c = λ κs outlives. c.requires.crew

pub run_named-requires-clause-uuid : goal.run_named-requires-clause-uuid
run_named-requires-clause-uuid g c = λ κs outlives. c.in-Some.ensures.uuid

pub run_named-requires-clause-workers : goal.run_named-requires-clause-workers
run_named-requires-clause-workers g c = λ κs outlives. c.in-Some.ensures.workers

pub run_named-requires-clause-known : goal.run_named-requires-clause-known
run_named-requires-clause-known g c = λ κs outlives.
    let is = sym c.command_of.ensures.value ∙ c.in-Some.is in
    begun_known g.D.Disk c.args.disk c.in-Ok.disk ((g.met.D.Disk g.world.𝓛 g.world.𝓜 g.world.𝓡 ((λ s x. x), (λ x. x), (λ x. x), λ x. x)).reading_is_image c.in-Ok.disk)
    g.K.Known.book _ (subst (λ found. IsReady g.D.Disk found (site_among (texts c.args.words.now)) c.args.disk c.in-Ok.disk) is c.in-Ok.ensures.ready).1
    (may_begin g.D.Disk c.args.disk g.K.Known.book _ (subst (MayRun g.D.Disk c.args.disk g.K.Known.book) is c.requires.known))

pub returns-in-Ok : goal.returns-in-Ok
returns-in-Ok g c =
    runs_ready (kinds_of g.D.Disk g.G.Gate g.N.Dialer g.C.Clock g.O.Sink g.G.Link.Link.tells g.N.Link.Link.tells) g.K.Known.book _ (site_among (texts c.args.words.now))
    (objects_of c.args.disk c.args.gate.now c.args.crew.now.members.items c.args.out.now) _ (sym c.command_of.ensures.value ∙ c.in-Some.is) c.in-Ok.disk
    (objects_of c.run_named.result.disk c.run_named.new.gate c.run_named.new.crew.members.items c.run_named.new.out) c.run_named.result.status
    c.get_ready.new.out c.in-Ok.ensures.prints_nothing c.in-Ok.ensures.ready c.run_named.ensures

pub returns-in-Err : goal.returns-in-Err
returns-in-Err g c =
    runs_unready (kinds_of g.D.Disk g.G.Gate g.N.Dialer g.C.Clock g.O.Sink g.G.Link.Link.tells g.N.Link.Link.tells) g.K.Known.book _ (site_among (texts c.args.words.now))
    (objects_of c.args.disk c.args.gate.now c.args.crew.now.members.items c.args.out.now) _ (sym c.command_of.ensures.value ∙ c.in-Some.is)
    _ c.get_ready.new.out _ c.in-Err.ensures.unready
