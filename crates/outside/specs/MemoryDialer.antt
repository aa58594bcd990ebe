-- Dialers in memory.
use Rattle.std.specs.Prelude.{ℕ, ◌-◌, ◌^◌, ◌==◌, if◌then◌else◌, List, [], ◌∷◌, drop, Result, Ok, Err}
use Rattle.outside.specs.declared.calls.Calls.{Calls}
use Rattle.outside.specs.declared.dialer.DialError.{DialError}
use Rattle.outside.specs.declared.dialer.DialError.TheVariants.{Failed, Memory}
use Rattle.outside.specs.declared.dialer.Transcript.{Transcript}
use Rattle.outside.specs.Calls.{new_calls, one_more, passed, failed}
use Rattle.outside.specs.Dialer.{transcript_of}
use Rattle.outside.specs.MemoryLink.{LinkInMemory, new_link}
use Rattle.outside.specs.Records.{Links, nothing_out, one_out, one_in}

-- What a dialer in memory holds: the links that it has left to give, what it tells of those that it gave, and its
-- calls.
pub record DialerInMemory : Type 0 where
  pub left : List LinkInMemory
  pub links : Links Transcript
  pub calls : Calls

-- a dialer that has these links to give
abbrev pub new_dialer : List LinkInMemory → List ℕ → DialerInMemory
new_dialer left fails = record { left = left; links = nothing_out; calls = new_calls fails }

-- the link that is given next: past the last, one without input
abbrev pub next_link : List LinkInMemory → LinkInMemory
next_link [] = new_link [] (2 ^ 64 - 1) []
next_link (link ∷ links) = link

-- a dial gives one link, or counts its fault, or only its number
abbrev pub after_dial : DialerInMemory → Result LinkInMemory DialError → DialerInMemory
after_dial dialer (Ok link) = record {
  left = drop 1 dialer.left;
  links = one_out dialer.links;
  calls = passed dialer.calls;
}
after_dial dialer (Err Failed) = record dialer { calls = failed dialer.calls }
after_dial dialer (Err Memory) = record dialer { calls = passed dialer.calls }

-- a hang-up keeps the link's transcript, and counts a fault where the link had one
abbrev pub after_hang_up : DialerInMemory → LinkInMemory → DialerInMemory
after_hang_up dialer link = record dialer {
  links = one_in dialer.links (transcript_of link.traffic link.calls.faults);
  calls = record dialer.calls {
    faults = if link.calls.faults == 0 then dialer.calls.faults else one_more dialer.calls.faults;
  };
}
