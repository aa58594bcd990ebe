use Rattle.std.proofs.Common.{ℕ, List, Option, sym, subst}
use Rattle.archive_volumes.specs.declared.room.Prepared.{Prepared}
use Rattle.archive_pieces.specs.PieceReady.{IsReadyGroup, MakesRoom}
use Rattle.archive_pieces.proofs.ready.make_piece_ready.Goals as goal

pub returns-clause-ready : goal.returns-clause-ready
returns-clause-ready g c =
    subst (λ (t : List ℕ). IsReadyGroup t c.args.group c.args.first c.ready_group.result) c.in_ok-room.ensures.text c.ready_group.ensures.ready

pub returns-clause-room : goal.returns-clause-room
returns-clause-room g c =
    subst (λ (p : Option Prepared). MakesRoom c.args.volumes.now c.room_with.new.volumes c.args.begins p) (sym c.ready_group.ensures.prepared)
    c.in_ok-room.ensures.room
