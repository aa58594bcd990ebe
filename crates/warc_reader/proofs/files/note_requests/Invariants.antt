use Rattle.std.proofs.Common.{length}
use Rattle.warc_reader.specs.Files.{IsReadTo}
use Rattle.warc_reader.proofs.files.note_requests.Given as goal

-- the records that were read, and what is left
abbrev pub invariant-loop-rest : goal.invariant-loop-rest
invariant-loop-rest l = IsReadTo l.file l.requests l.rest

abbrev pub decreases-loop-rest : goal.decreases-loop-rest
decreases-loop-rest l = length l.rest
