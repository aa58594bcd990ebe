use Rattle.archive_pieces.proofs.PieceRoom.{begun_room, same_room}
use Rattle.archive_pieces.proofs.ready.room_for.Goals as goal

pub returns-in_ok-prepared-in-Some-clause-room : goal.returns-in_ok-prepared-in-Some-clause-room
returns-in_ok-prepared-in-Some-clause-room g c =
    begun_room c.args.volumes.now c.prepare.new.self c.args.begins c.in-Some.born c.in_ok-prepared-in-Some.prepared c.in-Some.is c.requires.holds
    c.requires.measured c.requires.few c.in_ok-prepared-in-Some.ensures.prepared c.in_ok-prepared-in-Some.ensures.born
    c.in_ok-prepared-in-Some.ensures.space c.prepare.ensures.book c.prepare.ensures.journal

pub returns-in_ok-reserve-in-None-clause-room : goal.returns-in_ok-reserve-in-None-clause-room
returns-in_ok-reserve-in-None-clause-room g c =
    same_room c.args.volumes.now c.reserve.new.self c.args.begins c.in-None.is c.in_ok-reserve-in-None.ensures.space
