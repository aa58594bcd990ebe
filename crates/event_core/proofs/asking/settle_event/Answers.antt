use Rattle.std.proofs.Common.{Ok, Err, refl}
use Rattle.event_core.proofs.SettleLaws.{settle_done, settle_refused}
use Rattle.event_core.proofs.asking.settle_event.Goals as goal

pub returns-in-Ok-clause-goes_on : goal.returns-in-Ok-clause-goes_on
returns-in-Ok-clause-goes_on g c = λ limits namespace was stands.
    settle_done g.D.Disk c.args.archive.now c.settle-answer.new.self (Ok c.in-Ok.written) (record {
      one = c.volumes_have_one_list_of_lines.ensures.one;
      stays = c.settling_keeps_checkpoints_right.ensures;
      earlier = λ t s book le o. (
        o.0,
        o.1,
        g.met.D.Disk.earlier _ t s o.1 le o.2,
        o.3,
      );
      reads = g.met.D.Disk.reading_is_image _;
      reads_new = g.met.D.Disk.reading_is_image _;
      tells = c.shows_its_book.ensures.tells;
      shows = c.shows_its_book.ensures.shows;
    }) c.in-Ok.ensures limits namespace was stands c.in-Ok.written refl

pub returns-in-Err-clause-goes_on : goal.returns-in-Err-clause-goes_on
returns-in-Err-clause-goes_on g c = λ limits namespace was stands.
    settle_refused g.D.Disk c.args.archive.now c.settle-answer.new.self (Err c.in-Err.fault) (record {
      one = c.volumes_have_one_list_of_lines.ensures.one;
      stays = c.settling_keeps_checkpoints_right.ensures;
      earlier = λ t s book le o. (
        o.0,
        o.1,
        g.met.D.Disk.earlier _ t s o.1 le o.2,
        o.3,
      );
      reads = g.met.D.Disk.reading_is_image _;
      reads_new = g.met.D.Disk.reading_is_image _;
      tells = c.shows_its_book.ensures.tells;
      shows = c.shows_its_book.ensures.shows;
    }) c.in-Err.ensures limits namespace was stands c.in-Err.fault
