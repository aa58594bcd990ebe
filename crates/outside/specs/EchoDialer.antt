-- The dialer of the origin that echoes.
use Rattle.std.specs.Prelude.{ℕ, ◌==◌, if◌then◌else◌}
use Rattle.outside.specs.declared.dialer.Transcript.{Transcript}
use Rattle.outside.specs.Calls.{one_more}
use Rattle.outside.specs.Dialer.{transcript_of}
use Rattle.outside.specs.EchoLink.{LinkToEcho}
use Rattle.outside.specs.Records.{Links, nothing_out, one_in}

-- What the dialer holds: what it tells of its links, and its count of faults.
pub record DialerToEcho : Type 0 where
  pub links : Links Transcript
  pub faults : ℕ

-- a dialer that wasn't used yet
abbrev pub new_dialer : DialerToEcho
new_dialer = record { links = nothing_out; faults = 0 }

-- a hang-up keeps the link's transcript, and counts a fault where the link had one
abbrev pub after_hang_up : DialerToEcho → LinkToEcho → DialerToEcho
after_hang_up dialer link = record {
  links = one_in dialer.links (transcript_of link.traffic link.faults);
  faults = if link.faults == 0 then dialer.faults else one_more dialer.faults;
}
