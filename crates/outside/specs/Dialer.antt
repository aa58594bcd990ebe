-- What a dialer keeps of a link, and how it counts faults.
use Rattle.std.specs.Prelude.{◌≡◌, ℕ, ◌<◌, ◌≤◌, Result, Ok, Err}
use Rattle.capture.specs.Faults.{Rose}
use Rattle.outside.specs.declared.dialer.DialError.{DialError}
use Rattle.outside.specs.declared.dialer.DialError.TheVariants.{Failed, Memory}
use Rattle.outside.specs.declared.dialer.Transcript.{Transcript}
use Rattle.outside.specs.Link.{Traffic}

-- what went over a link that failed so often, as a dialer keeps it
abbrev pub transcript_of : Traffic → ℕ → Transcript
transcript_of traffic faults = record {
  host = traffic.host;
  port = traffic.port;
  sent = traffic.taken;
  given = traffic.given;
  ended = traffic.ended;
  faults = faults;
}

-- A dial counts its fault: the count rises where it answers Failed, and else stays.
abbrev pub CountsDial : {L : Type 0} → ℕ → ℕ → Result L DialError → Type 0
CountsDial before now (Ok link) = now ≡ before
CountsDial before now (Err Failed) = (before ≤ now) × Rose before now
CountsDial before now (Err Memory) = now ≡ before

-- A dialer's count at a hang-up: it rises where the link has faults, and else stays.
pub record TakesOverFaults (link before now : ℕ) : Type 0 where
  pub later : before ≤ now
  pub steady : link ≡ 0 → now ≡ before
  pub rose : 0 < link → Rose before now
