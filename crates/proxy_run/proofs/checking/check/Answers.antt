-- The archive was refused, or counted.
use Rattle.std.proofs.Common.{inl, inr}
use Rattle.proxy_run.proofs.CheckLaws.{counted_by}
use Rattle.proxy_run.proofs.checking.check.Goals as goal

pub returns-in-Err : goal.returns-in-Err
returns-in-Err g c = inr c.in-Err.ensures.refused

pub returns : goal.returns
returns g c =
    inl (counted_by g.D.Disk g.O.Sink c.args.disk c.close.result c.in-Ok.archive c.args.out.now c.open.new.out c.print_counts-status.new.out c.print_counts-status.result
    c.in-Ok.ensures.opened c.close.ensures.disk (rw c.counts.ensures at c.print_counts-status.ensures) c.in-Ok.ensures.prints_nothing)
