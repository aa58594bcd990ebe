-- The faults of taking a piece.
use Rattle.std.specs.Prelude.{Bool, true, false, Result, Ok, Err}
use Rattle.archive_shelf.specs.declared.fault.StoreFault.{StoreFault}
use Rattle.archive_shelf.specs.declared.fault.StoreFault.TheVariants as stores
use Rattle.archive_reading.specs.declared.part.ReadFault.{ReadFault}
use Rattle.archive_reading.specs.declared.part.ReadFault.TheVariants as reads
use Rattle.archive_pieces.specs.declared.fault.PieceFault.{PieceFault}
use Rattle.archive_pieces.specs.declared.fault.PieceFault.TheVariants as pieces

-- the same fault, as taking a piece answers it: of reading, and of storing
abbrev pub piece_fault_of : ReadFault → PieceFault
piece_fault_of reads.DiskFault = pieces.DiskFault
piece_fault_of reads.Memory = pieces.Memory

abbrev pub store_fault_as : StoreFault → PieceFault
store_fault_as (stores.Full count limit) = pieces.Full count limit
store_fault_as stores.DiskFault = pieces.DiskFault
store_fault_as (stores.Damaged number kept found) = pieces.Damaged number kept found
store_fault_as stores.Memory = pieces.Memory

-- a fault of the disk is the answer
abbrev pub is_take_fault : {T : Type 0} → Result T PieceFault → Bool
is_take_fault (Ok value) = false
is_take_fault (Err (pieces.Full count limit)) = false
is_take_fault (Err pieces.NotAPiece) = false
is_take_fault (Err pieces.DiskFault) = true
is_take_fault (Err (pieces.Damaged number kept found)) = false
is_take_fault (Err pieces.Memory) = false
