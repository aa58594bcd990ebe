-- The laws, by those of settling and of the books for which files stand.
use Rattle.command.specs.Objects.{kinds_of}
use Rattle.proxy_run.proofs.ServeLaws.{servers_captures_come_back, servers_leave_ready, servers_without_shelves_come_back, servers_without_shelves_leave_ready}
use Rattle.proxy_run.proofs.laws.servers_leave_ready.Goals as goal

pub returns : goal.returns
returns g c =
    let kinds = kinds_of g.D.Disk g.G.Gate g.N.Dialer g.C.Clock g.O.Sink g.G.Link.Link.tells g.N.Link.Link.tells in
    record {
      served = servers_leave_ready kinds c.settling_keeps_checkpoints_right.ensures;
      back = servers_captures_come_back kinds c.files_stand_for_one_book.ensures.one c.files_stand_for_one_book.ensures.no_volume;
      without_shelves = servers_without_shelves_leave_ready kinds c.settling_keeps_checkpoints_right.ensures;
      without_back =
          servers_without_shelves_come_back kinds c.files_stand_for_one_book.ensures.one c.files_stand_for_one_book.ensures.no_volume;
    }
