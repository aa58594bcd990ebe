-- A fault was met while the disk was read, or a store follows.
use Rattle.std.proofs.Common.{ℕ, Option, sym, subst}
use Rattle.std.specs.Prelude.{length, ◌<◌}
use Rattle.capture.specs.Captures.{captures}
use Rattle.archive_core.specs.Holdings.{Holdings}
use Rattle.archive_core.proofs.AfterLaws.{fault_exit, stores_after}
use Rattle.archive_volumes.proofs.ChangeLaws.{DiskLaws}
use Rattle.archive_volumes.proofs.KeepLaws.{refers_within}
use Rattle.archive_payloads.proofs.SinceLaws.{since_exit}
use Rattle.archive_core.proofs.archive.Archive.store_looked.Given.{Over}
use Rattle.archive_core.proofs.ReferLaws.{there_still}
use Rattle.archive_core.proofs.ThereLaws.{receipt_there}
use Rattle.archive_core.proofs.archive.Archive.store_looked.Goals as goal

-- what is asked of the disk
disk_laws : (g : Over) → DiskLaws g.D.Disk
disk_laws g = record { earlier = g.met.D.Disk.earlier; now_counts = g.met.D.Disk.now_counts; now_only = g.met.D.Disk.now_only }

pub returns-in_err-same-clause-stores : goal.returns-in_err-same-clause-stores
returns-in_err-same-clause-stores g c =
    fault_exit g.D.Disk (disk_laws g) c.args.self.now c.same_of.new.self c.args.taken.now c.in_err-same.field-0.0 c.from_residual.result
    c.from_residual.ensures.1 c.in_err-same.ensures.looks c.requires.not_full c.in_err-same.ensures.refers c.in_err-same.ensures.faults

pub still_found-kept-requires : goal.still_found-kept-requires
still_found-kept-requires g c = record {
  below = refers_within c.args.taken.now.cut c.same_of.new.self.book c.in_ok-same.same c.in_ok-same.ensures.refers.can;
}

pub store_compared-requires-clause-refers : goal.store_compared-requires-clause-refers
store_compared-requires-clause-refers g c = c.still_found-kept.ensures.refers c.args.taken.now c.requires.digest c.in_ok-same.ensures.refers

pub store_compared-requires-clause-not_full : goal.store_compared-requires-clause-not_full
store_compared-requires-clause-not_full g c =
    subst (λ (held : Holdings _). length (captures held.book) < held.limits.captures) (sym c.in_ok-same.ensures.looks.others) c.requires.not_full

pub returns-clause-stores : goal.returns-clause-stores
returns-clause-stores g c =
    stores_after g.D.Disk (disk_laws g) c.args.self.now c.same_of.new.self c.store_compared.new.self c.args.taken.now c.store_compared.result
    c.in_ok-same.ensures.looks c.in_ok-same.ensures.faults c.store_compared.ensures.stores

pub returns-in_err-same-clause-since : goal.returns-in_err-same-clause-since
returns-in_err-same-clause-since g c =
    since_exit (Option ℕ) _ c.args.looked.upto c.in_err-same.field-0.0 c.from_residual.result c.from_residual.ensures.1 c.in_err-same.ensures.since

pub returns-clause-since : goal.returns-clause-since
returns-clause-since g c = c.store_compared.ensures.unread c.args.looked.upto

pub returns-clause-there : goal.returns-clause-there
returns-clause-there g c none =
    receipt_there g.D.Disk c.args.self.now c.args.taken.now c.still_found-kept.result c.store_compared.result c.store_compared.ensures.same
    (there_still g.D.Disk c.args.self.now c.args.taken.now c.in_ok-same.same c.still_found-kept.result c.still_found-kept.ensures.one
    (c.in_ok-same.ensures.there none))
