-- What was found among all captures, or the fault that was met.
use Rattle.archive_shelf.specs.declared.fault.StoreFault.{StoreFault}
use Rattle.archive_shelf.specs.declared.looked.Looked.{Looked}
use Rattle.archive_core.proofs.MatchLaws.{finds_all, finds_exit}
use Rattle.archive_payloads.proofs.SinceLaws.{since_exit}
use Rattle.archive_core.proofs.archive.Archive.same_with.Goals as goal

pub returns-in_err-all-clause-finds : goal.returns-in_err-all-clause-finds
returns-in_err-all-clause-finds g c payload is =
    let fault : StoreFault = c.in_err-all.field-0.0 in
    finds_exit c.look_on.new.self.told c.look_on.new.self.book payload fault c.from_residual.result c.from_residual.ensures.1 (c.in_err-all.ensures.looks payload is)

pub returns-clause-finds : goal.returns-clause-finds
returns-clause-finds g c payload is =
    finds_all c.look_on.new.self.told c.look_on.new.self.book payload c.in_ok-all.all (c.in_ok-all.ensures.looks payload is)

pub returns-in_err-all-clause-since : goal.returns-in_err-all-clause-since
returns-in_err-all-clause-since g c =
    since_exit Looked _ c.args.looked.upto c.in_err-all.field-0.0 c.from_residual.result c.from_residual.ensures.1 c.in_err-all.ensures.since

pub returns-clause-there : goal.returns-clause-there
returns-clause-there g c payload is none = c.in_ok-all.ensures.there payload is none
