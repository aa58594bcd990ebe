use Rattle.event_core.proofs.StopLaws.{close_holds}
use Rattle.event_core.proofs.stopping.close.Goals as goal

pub returns-clause-holds : goal.returns-clause-holds
returns-clause-holds c = λ limits namespace was image stands now.
    close_holds limits namespace c.args.archive c.close.result c.close.ensures.disk c.close.ensures.near was image stands now
