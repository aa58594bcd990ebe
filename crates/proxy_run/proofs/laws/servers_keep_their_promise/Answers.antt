-- The sentences.
use Rattle.archive_volumes.proofs.ChangeLaws.{DiskLaws}
use Rattle.command.specs.Objects.{kinds_of}
use Rattle.proxy_run.proofs.ServeLaws.{all_are_hung_up, all_are_read_out, books_lead_on, books_only_grow, captures_are_stored_once, faults_are_counted, gates_are_emptied, logs_are_in_order, servers_answered, servers_leave_settled, servers_leave_the_last}
use Rattle.proxy_run.proofs.laws.servers_keep_their_promise.Given.{Over}
use Rattle.proxy_run.proofs.laws.servers_keep_their_promise.Goals as goal

disk_laws : (g : Over) → DiskLaws g.D.Disk
disk_laws g = record { earlier = g.met.D.Disk.earlier; now_counts = g.met.D.Disk.now_counts; now_only = g.met.D.Disk.now_only }

pub returns : goal.returns
returns g c =
    let kinds = kinds_of g.D.Disk g.G.Gate g.N.Dialer g.C.Clock g.O.Sink g.G.Link.Link.tells g.N.Link.Link.tells in
    record {
      grow = books_only_grow kinds;
      hung_up = all_are_hung_up kinds;
      emptied = gates_are_emptied kinds;
      in_order = logs_are_in_order kinds;
      read_out = all_are_read_out kinds;
      once = captures_are_stored_once kinds;
      lead = books_lead_on kinds c.courses_only_grow.ensures.grow;
      faults = faults_are_counted kinds c.courses_only_grow.ensures.faults;
      last = servers_leave_the_last kinds (disk_laws g);
      settled = servers_leave_settled kinds;
      answered = servers_answered kinds;
    }
