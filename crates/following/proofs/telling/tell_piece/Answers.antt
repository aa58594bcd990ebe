-- The piece is none of the next capture, or the disk failed.
use Rattle.std.proofs.Common.{sym, subst}
use Rattle.std.specs.Prelude.{codes}
use Rattle.archive_pieces.specs.declared.fault.PieceFault.{PieceFault}
use Rattle.command.specs.declared.status.Status.TheVariants.{Outside}
use Rattle.following.proofs.FollowsLaws.{told_number}
use Rattle.following.specs.StopTexts.{TellsStop}
use Rattle.replica.specs.declared.following.Stop.TheVariants.{Piece}
use Rattle.following.proofs.telling.tell_piece.Goals as goal

pub returns-in-NotAPiece : goal.returns-in-NotAPiece
returns-in-NotAPiece g c =
    subst (λ (fault : PieceFault). TellsStop g.O.Sink (Piece c.args.number fault) c.args.out.now c.tell_numbered.new.out c.tell_numbered.result) (sym c.in-NotAPiece.is)
    (told_number g.O.Sink Outside (codes "piece refused ") c.from.result c.args.number c.args.out.now c.tell_numbered.new.out c.tell_numbered.result
    c.from.ensures c.tell_numbered.ensures)

pub returns-in-DiskFault : goal.returns-in-DiskFault
returns-in-DiskFault g c =
    subst (λ (fault : PieceFault). TellsStop g.O.Sink (Piece c.args.number fault) c.args.out.now c.print_as.new.out c.print_as.result) (sym c.in-DiskFault.is)
    c.print_as.ensures
