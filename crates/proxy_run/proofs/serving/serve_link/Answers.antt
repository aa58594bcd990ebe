-- The connection was served and hung up.
use Rattle.command.proofs.GateLaws.{nothing_heard, served_and_hung_up}
use Rattle.proxy_run.proofs.PipeLaws.{ends_by}
use Rattle.proxy_run.proofs.serving.serve_link.Goals as goal

pub returns-clause-serves : goal.returns-clause-serves
returns-clause-serves g c t u before given = record {
  heard = _;
  served = c.serve-served.result;
  logged = served_and_hung_up before _ _ _ given (c.hang_up.ensures.logs t);
  connection = rw (nothing_heard _ _ (c.requires.fresh t) c.requires.no_fault) at (rw c.requires.site at (c.serve-served.ensures.serves t u));
  status_is = c.status_of.ensures;
}

pub returns-clause-ends : goal.returns-clause-ends
returns-clause-ends g c = ends_by c.serve-served.result c.status_of.result c.status_of.ensures c.hang_up.ensures.same_faults
