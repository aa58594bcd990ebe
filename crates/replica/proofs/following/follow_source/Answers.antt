-- A piece more was taken, or that is how it ended.
use Rattle.std.proofs.Common.{refl, ap, ◌∙◌, arith}
use Rattle.archive_volumes.proofs.ChangeLaws.{DiskLaws}
use Rattle.replica.proofs.FollowLaws.{ended_all, ended_stop, leads_itself, leads_more}
use Rattle.capture.specs.declared.limits.Limits.{Limits}
use Rattle.replica.proofs.TakeLaws.{taken_so}
use Rattle.replica.proofs.following.follow_source.Given.{Over}
use Rattle.replica.proofs.following.follow_source.Goals as goal

disk_laws : (g : Over) → DiskLaws g.D.Disk
disk_laws g = record { earlier = g.met.D.Disk.earlier; now_counts = g.met.D.Disk.now_counts; now_only = g.met.D.Disk.now_only }

pub following-init : goal.following-init
following-init g c = record {
  leads = leads_itself g.D.Disk c.args.source.now g.N.Link.Link.tells c.args.archive.now (g.N.Dialer.links c.args.dialer.now);
  limits = refl;
  faults = refl;
  window = c.requires;
}

pub following-preserved : goal.following-preserved
following-preserved g c =
    let next = rw c.in-Ok-true.field-0-test at c.in-Ok-true.ensures.takes in
    let taken = taken_so g.D.Disk c.following.archive c.take_next.new.archive next.0 _ next.2.leaves.1 in record {
      leads = leads_more g.D.Disk c.args.source.now g.N.Link.Link.tells (disk_laws g) c.args.archive.now c.following.archive c.take_next.new.archive _ _ _
          c.following.invariant.leads next;
      limits = taken.limits ∙ c.following.invariant.limits;
      faults = c.in-Ok-true.ensures.counts ∙ c.following.invariant.faults;
      window = c.take_next.ensures.window;
    }

pub following-smaller : goal.following-smaller
following-smaller g c =
    let next = rw c.in-Ok-true.field-0-test at c.in-Ok-true.ensures.takes in
    let taken = taken_so g.D.Disk c.following.archive c.take_next.new.archive next.0 _ next.2.leaves.1 in
    let limits = ap (λ (l : Limits). l.captures) c.following.invariant.limits in
    omega (arith, taken.count, next.2.leaves.0, limits)

pub returns-in-Ok-false-clause-followed : goal.returns-in-Ok-false-clause-followed
returns-in-Ok-false-clause-followed g c =
    c.following.invariant.leads.leads c.take_next.new.archive _ _
    (ended_all g.D.Disk c.args.source.now g.N.Link.Link.tells c.following.archive c.take_next.new.archive _ _
    (rw c.in-Ok-false.field-0-test at c.in-Ok-false.ensures.takes))

pub returns-in-Err-clause-followed : goal.returns-in-Err-clause-followed
returns-in-Err-clause-followed g c =
    c.following.invariant.leads.leads c.take_next.new.archive _ _
    (ended_stop g.D.Disk c.args.source.now g.N.Link.Link.tells (disk_laws g) c.following.archive c.take_next.new.archive _ _ c.in-Err.stop c.in-Err.ensures.takes)
