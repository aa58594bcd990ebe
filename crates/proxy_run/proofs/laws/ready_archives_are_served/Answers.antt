-- The laws.
use Rattle.command.specs.Objects.{kinds_of}
use Rattle.proxy_run.proofs.CompleteLaws.{captures_come_back, checks_answered, follows_answered, follows_leave_ready, imports_answered, imports_leave_ready, pipes_answered, pipes_leave_ready, pipes_leave_settled, pipes_leave_the_last, pipes_pass_on}
use Rattle.proxy_run.proofs.laws.ready_archives_are_served.Goals as goal

pub returns : goal.returns
returns g c =
    let kinds = kinds_of g.D.Disk g.G.Gate g.N.Dialer g.C.Clock g.O.Sink g.G.Link.Link.tells g.N.Link.Link.tells in
    record {
      checks = checks_answered kinds;
      pipes = pipes_answered kinds;
      imports = imports_answered kinds;
      follows = follows_answered kinds;
      follows_on = follows_leave_ready kinds;
      goes_on = imports_leave_ready kinds;
      again = pipes_leave_ready kinds c.settling_keeps_checkpoints_right.ensures;
      back = captures_come_back kinds c.files_stand_for_one_book.ensures.one c.files_stand_for_one_book.ensures.no_volume;
      settled = pipes_leave_settled kinds;
      last = pipes_leave_the_last kinds c.courses_only_grow.ensures.faults c.courses_only_grow.ensures.ids;
      passed = pipes_pass_on kinds;
    }
