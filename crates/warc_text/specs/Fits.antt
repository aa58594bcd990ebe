-- Which captures may be stored.
use Rattle.time_text.specs.Texts.{InRange}
use Rattle.capture.specs.WellFormed.{IsWellFormed}
use Rattle.capture.specs.declared.captured.Taken.{Taken}
use Rattle.warc_text.specs.Lengths.{IsShort}

-- the capture is well formed, its date has a text, and its parts are short
pub record Fits (taken : Taken) : Type 0 where
  pub well_formed : IsWellFormed taken
  pub date : InRange taken.date
  pub short : IsShort taken
