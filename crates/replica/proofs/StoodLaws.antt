-- What stood finished in an archive's volumes stands there still, whatever comes of a piece.
use Rattle.std.proofs.Common.{ℕ, IsTrue, List, length, Option, Some, None, Result, Ok, Err, sym, subst, ⊎_elim}
use Rattle.archive_core.proofs.StoodLaws.{begin_itself, begin_on, keeps_looks, keeps_rests, keeps_writes}
use Rattle.archive_core.proofs.TextLaws.{texts_go_on}
use Rattle.archive_core.specs.Holdings.{Holdings}
use Rattle.archive_core.specs.Looking.{OnlyLooks}
use Rattle.archive_core.specs.Stood.{BeginWith, KeepsStood}
use Rattle.archive_core.specs.Texts.{texts_room}
use Rattle.archive_pieces.specs.declared.fault.PieceFault.{PieceFault}
use Rattle.archive_pieces.specs.declared.fault.PieceFault.TheVariants as pieces
use Rattle.archive_taking.specs.TakingPieces.{IsUntaken, PieceLeaves, TakesPiece}
use Rattle.archive_volumes.proofs.ChangeLaws.{DiskLaws}
use Rattle.archive_volumes.proofs.KeepLaws.{texts_go_more}
use Rattle.archive_volumes.specs.Written.{WritesTexts, texts_as}
use Rattle.disk_model.specs.declared.disk.Disk.{Ghosts as Disks}
use Rattle.replica.specs.Following.{KeepsWhatStood}
use Rattle.warc_journal.specs.Journals.{texts}
use Rattle.warc_journal.specs.Texts.{with_more}
use Rattle.warc_text.specs.Records.{info_text}

module _ {D : Type 0} (d : Disks D) (laws : DiskLaws d) (was is : Holdings D) where
  roomy_by : (begins : Option ℕ) → BeginWith (texts d was.journal) (texts_room d was begins)
  roomy_by None = begin_itself (texts d was.journal)
  roomy_by (Some born) =
      begin_on (texts d was.journal) (texts_room d was (Some born))
      (texts_go_on (texts d was.journal) (info_text was.book.namespace (length was.book.volumes) born))

  stands_put : (begins : Option ℕ) (text : List ℕ) (result : Result ℕ PieceFault)
      → (IsTrue d.tells → WritesTexts d was.journal is.journal (texts_as (texts_room d was begins) (with_more (texts_room d was begins) text)) result)
      → KeepsWhatStood d was is
  stands_put begins text result bytes = λ tells stood keeps.
      let room : List (List ℕ) = texts_room d was begins in
      keeps_writes d laws stood was.journal is.journal room (with_more room text) (roomy_by begins)
      (begin_on room (with_more room text) (texts_go_more room None text)) result keeps (bytes tells)

  stands_looking : OnlyLooks d was is → KeepsWhatStood d was is
  stands_looking looks = λ tells stood keeps. keeps_looks d laws stood was is tells looks keeps

  stands_left : (piece : List ℕ) (result : Result ℕ PieceFault) → PieceLeaves d was is piece result → KeepsWhatStood d was is
  stands_left piece (Ok number) left = stands_put left.1.begins left.1.read.text (Ok number) left.1.put.bytes
  stands_left piece (Err (pieces.Full count limit)) left =
      λ tells stood keeps. subst (λ (h : Holdings D). KeepsStood d stood h.journal) (sym left.3) keeps
  stands_left piece (Err pieces.NotAPiece) left = stands_looking left.1
  stands_left piece (Err pieces.DiskFault) left = ⊎_elim
      (λ (looks : OnlyLooks d was is). stands_looking looks)
      (λ (u : IsUntaken d was is piece). stands_put u.begins u.read.text (Err pieces.DiskFault) u.unput.bytes)
      left.1
  stands_left piece (Err (pieces.Damaged number kept found)) left = stands_looking left.1
  stands_left piece (Err pieces.Memory) left = λ tells stood keeps. keeps_rests d laws stood was.journal is.journal keeps (left.2 tells) left.1

  pub stands_behind : (piece : List ℕ) (result : Result ℕ PieceFault) → TakesPiece d was is piece result → KeepsWhatStood d was is
  stands_behind piece result takes = stands_left piece result takes.leaves
