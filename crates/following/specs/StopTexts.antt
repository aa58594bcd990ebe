-- What is printed of a source that was followed.
use Rattle.std.specs.Prelude.{◌⊎◌, [], ◌∷◌, ◌++◌, codes, decimal}
use Rattle.archive_pieces.specs.declared.fault.PieceFault.TheVariants as pieces
use Rattle.command.specs.Printing.{LacksMemory, Prints}
use Rattle.command.specs.Texts.{damaged_capture, full_line}
use Rattle.command.specs.declared.status.Status.{Status}
use Rattle.command.specs.declared.status.Status.TheVariants.{Archive, Outside}
use Rattle.httparse.specs.Ascii.{line_feed}
use Rattle.outside.specs.declared.sink.Sink.{Ghosts as Sinks}
use Rattle.replica.specs.declared.asking.SourceFault.TheVariants as sources
use Rattle.replica.specs.declared.following.Stop.{Stop}
use Rattle.replica.specs.declared.following.Stop.TheVariants.{Source, Piece}

-- Why no more pieces were taken was printed, with the status of that: the source is at fault, also where its piece is none of the next capture; or the archive
-- is, which is full, damaged or on a disk that failed. There may be no memory for a text with a number, and of want of memory nothing is printed.
abbrev pub TellsStop : {O : Type 0} → Sinks O → Stop → O → O → Status → Type 0
TellsStop sinks (Source number sources.DialFault) was is status = Prints sinks Outside (codes "dial fault\n") was is status
TellsStop sinks (Source number sources.OriginFault) was is status = Prints sinks Outside (codes "origin fault\n") was is status
TellsStop sinks (Source number sources.Malformed) was is status = Prints sinks Outside (codes "source malformed\n") was is status
TellsStop sinks (Source number sources.TooLong) was is status =
    Prints sinks Outside (codes "piece too long " ++ decimal number ++ (line_feed ∷ [])) was is status ⊎ LacksMemory sinks was is status
TellsStop sinks (Source number (sources.Refused code)) was is status =
    Prints sinks Outside (codes "source refused " ++ decimal code ++ (line_feed ∷ [])) was is status ⊎ LacksMemory sinks was is status
TellsStop sinks (Source number sources.Memory) was is status = LacksMemory sinks was is status
TellsStop sinks (Piece number (pieces.Full count limit)) was is status =
    Prints sinks Archive (full_line count limit) was is status ⊎ LacksMemory sinks was is status
TellsStop sinks (Piece number pieces.NotAPiece) was is status =
    Prints sinks Outside (codes "piece refused " ++ decimal number ++ (line_feed ∷ [])) was is status ⊎ LacksMemory sinks was is status
TellsStop sinks (Piece number pieces.DiskFault) was is status = Prints sinks Archive (codes "disk fault\n") was is status
TellsStop sinks (Piece number (pieces.Damaged at kept found)) was is status =
    Prints sinks Archive (damaged_capture at) was is status ⊎ LacksMemory sinks was is status
TellsStop sinks (Piece number pieces.Memory) was is status = LacksMemory sinks was is status
