-- The archive was refused, or there was no memory for its shelves, or it was served over.
use Rattle.std.proofs.Common.{◌≡◌, ℕ, List, Option, IsTrue, refl, sym, ap, subst, ◌∙◌, inl, inr, arith}
use Rattle.std.specs.Prelude.{IfSome}
use Rattle.archive_core.specs.Holdings.{Holdings, contents_of}
use Rattle.archive_reopening.specs.Known.{by_checkpoints}
use Rattle.archive_core.specs.Lasting.{KeepsStored, StandsSince}
use Rattle.archive_core.specs.Stood.{Stood}
use Rattle.archive_reopening.specs.Standing.{KeepsOn, StoodOn}
use Rattle.archive_opening.specs.Telling.{MayBeSettled}
use Rattle.archive_volumes.specs.Volumes.{OpensNear}
use Rattle.warc_journal.specs.Journals.{disk_of}
use Rattle.command.specs.Objects.{kinds_of, objects_of}
use Rattle.command.specs.Opening.{IsNotOpened}
use Rattle.command.specs.Printing.{printed_as}
use Rattle.command.specs.Settling.{ClosesSettled, OpensSettled}
use Rattle.proxy_run.specs.Serves.{Serves}
use Rattle.command.specs.Words.{asked_of}
use Rattle.command.specs.declared.status.Status.TheVariants.{Memory}
use Rattle.proxy_run.specs.steps.Seating.{IsNameOf}
use Rattle.vault_turns.specs.Calm.{StillStands}
use Rattle.vault_turns.specs.declared.noted.Sure.{Sure}
use Rattle.warc_text.specs.Ids.{IsUuid}
use Rattle.proxy_run.proofs.server.serve_many.Goals as goal

pub open_and_settle-requires-clause-uuid : goal.open_and_settle-requires-clause-uuid
open_and_settle-requires-clause-uuid g c = subst (λ (asked : Option (List ℕ)). IfSome asked IsUuid) (sym c.asked_of.ensures) c.requires.uuid

pub open_and_settle-requires-clause-known : goal.open_and_settle-requires-clause-known
open_and_settle-requires-clause-known g c =
    subst (λ (asked : Option (List ℕ)). MayBeSettled g.D.Disk c.args.disk asked g.K.Known.book) (sym c.asked_of.ensures) c.requires.known

pub left_sure-sure-requires : goal.left_sure-sure-requires
left_sure-sure-requires g c = c.in-Ok.ensures.opened.left

pub new-requires-clause-calm : goal.new-requires-clause-calm
new-requires-clause-calm g c = λ sure. c.left_sure-sure.ensures.calm

pub new-requires-clause-right : goal.new-requires-clause-right
new-requires-clause-right g c = λ sure. c.left_sure-sure.ensures.right

pub stood_on-stood-requires : goal.stood_on-stood-requires
stood_on-stood-requires g c = λ tells.
    subst (λ (disk : _). KeepsOn g.D.Disk disk c.in-Ok.archive) (sym c.told_by-given.ensures) (c.in-Ok.ensures.stood tells)

pub new-requires-clause-lasts : goal.new-requires-clause-lasts
new-requires-clause-lasts g c = λ sure.
    subst (λ (s : Sure). StillStands g.D.Disk s.stood c.in-Ok.archive) (sym c.left_sure-sure.ensures.value) c.stood_on-stood.ensures.keeps

pub returns-in-Err : goal.returns-in-Err
returns-in-Err g c = inr (inr (record {
  refused = subst (λ (asked : Option (List ℕ)). IsNotOpened g.D.Disk g.O.Sink (by_checkpoints c.args.disk asked g.K.Known.book) c.in-Err.ran.disk
      (printed_as c.args.out.now c.open_and_settle.new.out c.in-Err.ran.status)) c.asked_of.ensures c.in-Err.ensures.refused;
  untouched = refl;
}))

pub returns-in-Ok-new : goal.returns-in-Ok-new
returns-in-Ok-new g c =
    let kinds = kinds_of g.D.Disk g.G.Gate g.N.Dialer g.C.Clock g.O.Sink g.G.Link.Link.tells g.N.Link.Link.tells in
    let known = g.K.Known.book in
    let asked = asked_of c.args.service.command in
    let is = objects_of c.serve_named.result.disk c.serve_named.new.gate c.serve_named.new.crew.items c.serve_named.new.out in
    let given = c.in-Ok-new.ensures.archive in
    let sure = c.in-Ok-new.ensures.sure ∙ c.left_sure-sure.ensures.value in
    let name : IsNameOf c.in-Ok-new.unnamed (contents_of c.in-Ok.archive) (g.D.Disk.faults (disk_of c.in-Ok.archive.journal)) = record {
      book = given.0;
      limits = given.1;
      tells = given.2;
      met = omega (arith, given.3);
      calm = ap (λ (s : Sure). s.calm) sure;
      right = ap (λ (s : Sure). s.right) sure;
      lasts = ap (λ (s : Sure). s.lasts) sure;
    } in
    let on : IsTrue g.D.Disk.tells → StoodOn g.D.Disk c.args.disk c.in-Ok-new.unnamed.sure.stood × (c.in-Ok-new.unnamed.sure.stood.book ≡ c.in-Ok.archive.book) = λ tells.
    subst (λ (s : Stood). StoodOn g.D.Disk c.args.disk s × (s.book ≡ c.in-Ok.archive.book)) (sym (ap (λ (s : Sure). s.stood) sure))
    (subst (λ (disk : _). StoodOn g.D.Disk disk c.stood_on-stood.result.value) c.told_by-given.ensures (c.stood_on-stood.ensures.on tells), c.stood_on-stood.ensures.book tells) in
    let opened : OpensSettled g.D.Disk (by_checkpoints c.args.disk asked known) c.in-Ok.archive =
    subst (λ (a : Option (List ℕ)). OpensSettled g.D.Disk (by_checkpoints c.args.disk a known) c.in-Ok.archive) c.asked_of.ensures
    c.in-Ok.ensures.opened in
    let served = c.serve_named.ensures known asked c.args.disk c.in-Ok.archive opened name on in
    inl (subst (λ n. Serves kinds known (record { asked = asked; site = c.args.service.site.now; workers = n }) (objects_of c.args.disk c.args.gate.now c.args.crew.now.items c.args.out.now) is c.serve_named.result.status)
    c.in-Ok-new.ensures.passes
    (subst (λ o. Serves kinds known (record { asked = asked; site = c.args.service.site.now; workers = c.in-Ok-new.unnamed.passes }) (objects_of c.args.disk c.args.gate.now c.args.crew.now.items o) is c.serve_named.result.status)
    c.in-Ok.ensures.prints_nothing served))

pub returns : goal.returns
returns g c =
    inr (inl (record {
      before = c.in-Ok.archive;
      opened = subst (λ (asked : Option (List ℕ)). OpensSettled g.D.Disk (by_checkpoints c.args.disk asked g.K.Known.book) c.in-Ok.archive)
          c.asked_of.ensures c.in-Ok.ensures.opened;
      closed = subst (λ (h : Holdings g.row.D.Denot). ClosesSettled g.D.Disk h Memory c.settle_and_close.result.disk c.settle_and_close.result.status)
          c.in-Err-new.ensures.err c.settle_and_close.ensures.closed;
      near = subst (λ (h : Holdings g.row.D.Denot). IsTrue h.told → OpensNear g.D.Disk c.settle_and_close.result.disk h.book) c.in-Err-new.ensures.err
          c.settle_and_close.ensures.near;
      stored = λ tells. record {
        stood = c.stood_on-stood.result.value;
        on = subst (λ (disk : _). StoodOn g.D.Disk disk c.stood_on-stood.result.value) c.told_by-given.ensures (c.stood_on-stood.ensures.on tells);
        began = c.stood_on-stood.ensures.book tells;
        stands = subst (λ (h : Holdings g.row.D.Denot). StandsSince g.D.Disk c.stood_on-stood.result.value h.book c.settle_and_close.result.disk) c.in-Err-new.ensures.err
            (c.settle_and_close.ensures.stands c.stood_on-stood.result.value tells
            (subst (λ (h : Holdings g.row.D.Denot). KeepsStored g.D.Disk c.stood_on-stood.result.value h) (sym c.in-Err-new.ensures.err)
            (c.stood_on-stood.ensures.keeps tells)));
      };
      untouched = ap (λ o. objects_of c.settle_and_close.result.disk c.args.gate.now c.args.crew.now.items o) c.in-Ok.ensures.prints_nothing;
    }))
