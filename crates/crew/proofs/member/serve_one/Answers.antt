-- The connection was served and ended.
use Rattle.command.proofs.GateLaws.{nothing_heard}
use Rattle.crew.proofs.member.serve_one.Goals as goal

pub returns-clause-serves : goal.returns-clause-serves
returns-clause-serves g c t u =
    rw (c.end.ensures t) (record {
      served = c.serve-served.result;
      connection = rw (nothing_heard _ _ (c.requires.fresh t) c.requires.no_fault) at (c.serve-served.ensures.serves t u);
    })
