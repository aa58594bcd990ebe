-- What is told of the passes is told of the crew's seats.
use Rattle.std.proofs.Common.{◌≡◌, drop, vec_len, sym, ap, subst, arith}
use Rattle.archive_core.specs.Holdings.{contents_of}
use Rattle.archive_reopening.specs.Standing.{StoodOn}
use Rattle.command.specs.Objects.{kinds_of, objects_of}
use Rattle.command.specs.Printing.{printed_as}
use Rattle.proxy_run.specs.Serves.{Serves, TellsCount}
use Rattle.proxy_run.specs.steps.Seating.{IsNameOf}
use Rattle.vault_turns.specs.Calm.{StillStands}
use Rattle.proxy_run.proofs.VaultSeats.{serves_over}
use Rattle.proxy_run.proofs.server.serve_named.Goals as goal
use Rattle.warc_journal.specs.Journals.{disk_of}

pub returns : goal.returns
returns g c = λ known asked disk before opened name on.
    let kinds = kinds_of g.D.Disk g.G.Gate g.N.Dialer g.C.Clock g.O.Sink g.G.Link.Link.tells g.N.Link.Link.tells in
    let was = objects_of disk c.args.gate.now c.args.crew.now.items c.args.out.now in
    let is = objects_of c.settle_and_close.result.disk c.serve_by-said.new.gate c.serve_by-said.new.crew.items c.tell_count-counted.new.out in
    let starts = c.named-vault.result.1 in
    let many : vec_len starts ≡ g.J.Naming.vault.passes = omega (arith, starts.ok.0, c.named-vault.ensures.passes.count) in
    let left = c.close_all-archive.result in
    subst (λ v. Serves kinds known (record { asked = asked; site = c.args.site.now; workers = v.passes }) was is c.settle_and_close.result.status) (sym c.requires.name)
    (serves_over kinds known asked c.args.site.now was is g.J.Naming.vault starts.items c.serve_by-said.new.passes.items before left
    (λ stood. StillStands g.D.Disk stood left) opened
    (subst (λ v. IsNameOf v (contents_of before) (g.D.Disk.faults (disk_of before.journal))) c.requires.name name) c.named-vault.ensures.passes c.serve_by-said.ensures.members
    c.serve_by-said.result (λ t u. c.serve_by-said.ensures.serves t u) c.serve_by-said.ensures.ended c.close_all-archive.ensures c.tell_count-counted.result
    (subst (λ n. TellsCount g.O.Sink n c.serve_by-said.result (printed_as c.args.out.now c.tell_count-counted.new.out c.tell_count-counted.result))
    (ap (λ k. k.captures) c.counts.ensures) c.tell_count-counted.ensures)
    c.settle_and_close.result.status c.settle_and_close.ensures.closed c.settle_and_close.ensures.near
    (λ stands tells. record {
      stood = g.J.Naming.vault.sure.stood;
      on = subst (λ v. StoodOn g.D.Disk disk v.sure.stood) c.requires.name (on tells).0;
      began = subst (λ v. v.sure.stood.book ≡ before.book) c.requires.name (on tells).1;
      stands = c.settle_and_close.ensures.stands g.J.Naming.vault.sure.stood tells (stands tells);
    })
    (subst (λ n. drop n c.serve_by-said.new.crew.items ≡ drop n c.args.crew.now.items) many c.serve_by-said.ensures.same_others))
