use Rattle.std.proofs.Common.{Err, subst, sym}
use Rattle.archive_taking.specs.TakingPieces.{TakesPiece}
use Rattle.archive_pieces.specs.declared.fault.PieceFault.{PieceFault}
use Rattle.archive_taking.proofs.PieceTakenLaws.{full_exit}
use Rattle.archive_taking.proofs.next_piece.take_piece.Goals as goal

pub returns-in-Err : goal.returns-in-Err
returns-in-Err g c =
    subst (λ (f : PieceFault). TakesPiece g.D.Disk c.args.archive.now c.args.archive.now c.args.bytes.now (Err f)) (sym c.fault_of.ensures)
    (full_exit g.D.Disk c.args.archive.now c.args.bytes.now c.in-Err.fault c.in-Err.ensures)
