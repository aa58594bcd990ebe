-- By what the command asks for.
use Rattle.std.proofs.Common.{◌≡◌, ℕ, ◌<◌, ◌≤◌, List, length, refl, subst, arith}
use Rattle.std.specs.Prelude.{IfSome, drop, set}
use Rattle.archive_opening.specs.Telling.{MayBeSettled}
use Rattle.command.specs.Objects.{kinds_of, objects_of}
use Rattle.command.specs.Words.{asked_of, workers_of}
use Rattle.warc_text.specs.Ids.{IsUuid}
use Rattle.command.specs.declared.words.Command.{Command}
use Rattle.command.specs.declared.words.Command.TheVariants.{Serve}
use Rattle.crew.proofs.CrewLaws.{first_is, first_set}
use Rattle.proxy_run.proofs.RunLaws.{follow_siteless, runs_check, runs_follow, runs_import, runs_pipe, runs_serve, runs_trial, runs_verify, serve_siteless}
use Rattle.proxy_run.proofs.running.run_named.Goals as goal

pub returns-in-Check : goal.returns-in-Check
returns-in-Check g c =
    runs_check (kinds_of g.D.Disk g.G.Gate g.N.Dialer g.C.Clock g.O.Sink g.G.Link.Link.tells g.N.Link.Link.tells) g.K.Known.book _ c.args.named.command
    (objects_of c.args.disk c.args.gate.now c.args.crew.now.members.items c.args.out.now) c.check.result.disk c.check.new.out c.check.result.status
    c.in-Check.is c.check.ensures

pub import-requires-clause-uuid : goal.import-requires-clause-uuid
import-requires-clause-uuid g c = c.requires.uuid

pub import-requires-clause-known : goal.import-requires-clause-known
import-requires-clause-known g c = c.requires.known

pub returns-in-Import : goal.returns-in-Import
returns-in-Import g c =
    runs_import (kinds_of g.D.Disk g.G.Gate g.N.Dialer g.C.Clock g.O.Sink g.G.Link.Link.tells g.N.Link.Link.tells) g.K.Known.book _ c.args.named.command c.in-Import.field-0
    (objects_of c.args.disk c.args.gate.now c.args.crew.now.members.items c.args.out.now) c.import.result.disk c.import.new.gate c.import.new.out
    c.import.result.status c.in-Import.is c.import.ensures

pub pipe-requires-clause-uuid : goal.pipe-requires-clause-uuid
pipe-requires-clause-uuid g c = c.requires.uuid

pub pipe-requires-clause-known : goal.pipe-requires-clause-known
pipe-requires-clause-known g c = c.requires.known

pub returns-in-Pipe : goal.returns-in-Pipe
returns-in-Pipe g c =
    let some : 0 < length c.args.crew.now.members.items = omega (arith, c.requires.crew) in
    runs_pipe (kinds_of g.D.Disk g.G.Gate g.N.Dialer g.C.Clock g.O.Sink g.G.Link.Link.tells g.N.Link.Link.tells) g.K.Known.book _ c.args.named.command c.in-Pipe.field-0
    (objects_of c.args.disk c.args.gate.now c.args.crew.now.members.items c.args.out.now)
    (objects_of c.pipe.result.disk c.pipe.new.gate (set c.args.crew.now.members.items 0 c.pipe.new.member) c.pipe.new.out) c.pipe.result.status
    _ c.pipe.new.member (drop 1 c.args.crew.now.members.items)
    c.in-Pipe.is
    (first_is c.args.crew.now.members.items _ _ some c.index_mut-member.ensures.value) (first_set c.args.crew.now.members.items c.pipe.new.member some) c.pipe.ensures

pub returns-in-Trial : goal.returns-in-Trial
returns-in-Trial g c =
    runs_trial (kinds_of g.D.Disk g.G.Gate g.N.Dialer g.C.Clock g.O.Sink g.G.Link.Link.tells g.N.Link.Link.tells) g.K.Known.book _ c.args.named.command _ _
    (objects_of c.args.disk c.args.gate.now c.args.crew.now.members.items c.args.out.now) c.trial.result.disk c.trial.new.out
    c.trial.result.status c.in-Trial.is c.trial.ensures.tries c.trial.ensures.same_disk

pub verify-requires-clause-workers : goal.verify-requires-clause-workers
verify-requires-clause-workers g c = λ κs outlives.
    subst (λ command. IfSome (workers_of command) (λ n. (0 < n) × (n ≤ 16))) c.in-Verify.is c.requires.workers

pub verify-requires-clause-known : goal.verify-requires-clause-known
verify-requires-clause-known g c = λ κs outlives.
    subst (λ command. MayBeSettled g.D.Disk c.args.disk (asked_of command) g.K.Known.book) c.in-Verify.is c.requires.known

pub returns-in-Verify : goal.returns-in-Verify
returns-in-Verify g c =
    runs_verify (kinds_of g.D.Disk g.G.Gate g.N.Dialer g.C.Clock g.O.Sink g.G.Link.Link.tells g.N.Link.Link.tells) g.K.Known.book _ c.args.named.command c.in-Verify.workers
    (objects_of c.args.disk c.args.gate.now c.args.crew.now.members.items c.args.out.now) c.verify.result.disk c.verify.new.out
    c.verify.result.status c.in-Verify.is c.verify.ensures

workers_within : (command : Command) (namespace : List ℕ) (workers : ℕ) → command ≡ Serve namespace workers
    → IfSome (workers_of command) (λ n. (0 < n) × (n ≤ 16)) → (0 < workers) × (workers ≤ 16)
workers_within command namespace workers is within = subst (λ c. IfSome (workers_of c) (λ n. (0 < n) × (n ≤ 16))) is within

pub serve_many-requires-clause-uuid : goal.serve_many-requires-clause-uuid
serve_many-requires-clause-uuid g c = λ κs outlives. subst (λ command. IfSome (asked_of command) IsUuid) c.in-Serve.is c.requires.uuid

pub serve_many-requires-clause-some : goal.serve_many-requires-clause-some
serve_many-requires-clause-some g c = λ κs outlives. (workers_within _ _ _ c.in-Serve.is c.requires.workers).0

pub serve_many-requires-clause-few : goal.serve_many-requires-clause-few
serve_many-requires-clause-few g c = λ κs outlives. (workers_within _ _ _ c.in-Serve.is c.requires.workers).1

pub serve_many-requires-clause-enough : goal.serve_many-requires-clause-enough
serve_many-requires-clause-enough g c = λ κs outlives. omega (arith, (workers_within _ _ _ c.in-Serve.is c.requires.workers).1, c.requires.crew)

pub serve_many-requires-clause-known : goal.serve_many-requires-clause-known
serve_many-requires-clause-known g c = λ κs outlives.
    subst (λ command. MayBeSettled g.D.Disk c.args.disk (asked_of command) g.K.Known.book) c.in-Serve.is c.requires.known

pub follow-requires-clause-uuid : goal.follow-requires-clause-uuid
follow-requires-clause-uuid g c = c.requires.uuid

pub follow-requires-clause-known : goal.follow-requires-clause-known
follow-requires-clause-known g c = c.requires.known

pub returns-in-Ok : goal.returns-in-Ok
returns-in-Ok g c =
    let some : 0 < length c.args.crew.now.members.items = omega (arith, c.requires.crew) in
    runs_follow (kinds_of g.D.Disk g.G.Gate g.N.Dialer g.C.Clock g.O.Sink g.G.Link.Link.tells g.N.Link.Link.tells) g.K.Known.book _ c.args.named.command c.in-Follow.field-0
    c.in-Ok.site (objects_of c.args.disk c.args.gate.now c.args.crew.now.members.items c.args.out.now)
    (objects_of c.follow.result.disk c.args.gate.now (set c.args.crew.now.members.items 0 c.follow.new.member) c.follow.new.out) c.follow.result.status
    _ c.follow.new.member (drop 1 c.args.crew.now.members.items)
    c.in-Follow.is c.in-Ok.ensures.site
    (first_is c.args.crew.now.members.items _ _ some c.index_mut-first.ensures.value) (first_set c.args.crew.now.members.items c.follow.new.member some) refl
    (rw c.in-Ok.ensures.prints_nothing at c.follow.ensures)

pub returns-in-Err : goal.returns-in-Err
returns-in-Err g c =
    follow_siteless (kinds_of g.D.Disk g.G.Gate g.N.Dialer g.C.Clock g.O.Sink g.G.Link.Link.tells g.N.Link.Link.tells) g.K.Known.book _ c.args.named.command c.in-Follow.field-0
    (objects_of c.args.disk c.args.gate.now c.args.crew.now.members.items c.args.out.now) c.named_site.new.out c.in-Err.status
    c.in-Follow.is c.in-Err.ensures.none

pub returns-in-Ok-named_site : goal.returns-in-Ok-named_site
returns-in-Ok-named_site g c =
    runs_serve (kinds_of g.D.Disk g.G.Gate g.N.Dialer g.C.Clock g.O.Sink g.G.Link.Link.tells g.N.Link.Link.tells) g.K.Known.book _ c.args.named.command c.in-Serve.field-0
    c.in-Ok-named_site.site c.in-Serve.workers (objects_of c.args.disk c.args.gate.now c.args.crew.now.members.items c.args.out.now)
    (objects_of c.serve_many.result.disk c.serve_many.new.gate c.serve_many.new.crew.items c.serve_many.new.out) c.serve_many.result.status
    c.in-Serve.is c.in-Ok-named_site.ensures.site (rw c.in-Ok-named_site.ensures.prints_nothing at c.serve_many.ensures)

pub returns-in-Err-named_site : goal.returns-in-Err-named_site
returns-in-Err-named_site g c =
    serve_siteless (kinds_of g.D.Disk g.G.Gate g.N.Dialer g.C.Clock g.O.Sink g.G.Link.Link.tells g.N.Link.Link.tells) g.K.Known.book _ c.args.named.command c.in-Serve.field-0
    c.in-Serve.workers (objects_of c.args.disk c.args.gate.now c.args.crew.now.members.items c.args.out.now) c.named_site-in-Serve.new.out c.in-Err-named_site.status
    c.in-Serve.is c.in-Err-named_site.ensures.none
