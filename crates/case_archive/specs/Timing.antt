-- What a capture is that may be stored after a look for its payload.
use Rattle.case_captures.specs.Preparing.{IsPrepared}
use Rattle.case_archive.specs.declared.looking.Timed.{Timed}

-- the capture may be stored, and its payload is known
abbrev pub IsTimed : Timed → Type 0
IsTimed timed = IsPrepared timed.prepared
