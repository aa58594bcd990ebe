-- What rounds gain of the outside, in what setting, and what its objects tell of that.
use Rattle.std.specs.Prelude.{ℕ, List, Bool}
use Rattle.std.specs.List.{flat_map}
use Rattle.archive_shelf.specs.Told.{Told}
use Rattle.outside.specs.Records.{Links}
use Rattle.outside.specs.declared.dialer.Transcript.{Transcript}
use Rattle.outside.specs.declared.gate.Heard.{Heard}
use Rattle.request_answer.specs.Rounds.{Round, numbers_by}
use Rattle.capture.specs.declared.site.Site.{Site}

-- the clock's answers, the transcripts of the links that were hung up, and the numbers of the captures that were stored
pub record Gains : Type 0 where
  pub times : List ℕ
  pub transcripts : List Transcript
  pub numbers : List ℕ

-- what rounds gained, one after the other
abbrev pub gains_of : List Round → Gains
gains_of rounds = record {
  times = flat_map (λ r. r.traces.times) rounds;
  transcripts = flat_map (λ r. r.traces.transcripts) rounds;
  numbers = flat_map (λ r. numbers_by r.outcome r.traces.before) rounds;
}

-- What the objects of a connection tell so far: what was heard of the client; the clock's answers; the dialer's log, what is
-- out of it and its faults; and what is told of the shelf.
pub record World : Type 1 where
  pub heard : Heard
  pub answers : List ℕ
  pub links : Links Transcript
  pub dialer_faults : ℕ
  pub shelf : Told

-- the archive's site, and whether the clock tells its answers
pub record Setting : Type 0 where
  pub site : Site
  pub clock_tells : Bool
