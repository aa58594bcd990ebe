-- How a source is asked for the piece of a capture, and what its answer gives (RFC 9110, section 15.3).
use Rattle.std.specs.Prelude.{◌≡◌, ◌≢◌, ℕ, ◌==◌, Bool, true, false, List, [], ◌++◌, codes, decimal, Option, Some, None, Result, Ok, Err, if◌then◌else◌}
use Rattle.capture.specs.Payload.{IsPayload}
use Rattle.capture.specs.declared.site.Site.{Site}
use Rattle.exchange.specs.Fetches.{Asking, LogsFetch}
use Rattle.exchange.specs.declared.aim.Target.{Target}
use Rattle.exchange.specs.declared.fetching.FetchFault.{FetchFault}
use Rattle.exchange.specs.declared.fetching.FetchFault.TheVariants as fetches
use Rattle.http_head.specs.declared.head.Received.{Received}
use Rattle.outside.specs.Records.{Links}
use Rattle.outside.specs.declared.dialer.Transcript.{Transcript}
use Rattle.replica.specs.declared.asking.SourceFault.{SourceFault}
use Rattle.replica.specs.declared.asking.SourceFault.TheVariants.{DialFault, OriginFault, Malformed, TooLong, Refused, Memory}

-- the host, with the port where it isn't the default one (RFC 9110, section 7.2)
unfoldable pub authority_text : List ℕ → ℕ → List ℕ
authority_text host port = host ++ (if port == 80 then [] else codes ":" ++ decimal port)

-- the request for the piece of the capture with this number
unfoldable pub request_text : (host : List ℕ) (port number : ℕ) → List ℕ
request_text host port number =
    codes "GET /web/ship/" ++ decimal number ++ codes " HTTP/1.1\r\nHost: " ++ authority_text host port ++ codes "\r\nConnection: close\r\n\r\n"

-- the source at a site, which is asked for more than one target
abbrev pub source_of : Site → Target
source_of site = record { uri = []; host = site.host; port = site.port; path = [] }

-- what a source is asked for the piece of the capture with this number
abbrev pub asking_of : Target → ℕ → Asking
asking_of source number = record { target = source; request = request_text source.host source.port number; answers_head = false }

-- What a response gives: a whole one with status 200 its payload, and a whole one with 204 the end; else it is cut, or it refuses.
abbrev pub Gives : Received → Result (Option (List ℕ)) SourceFault → Type 0
Gives received (Ok (Some piece)) =
    (received.cut ≡ false) × (received.head.status ≡ 200) × IsPayload false received.framing received.wire piece
Gives received (Ok None) = (received.cut ≡ false) × (received.head.status ≡ 204)
Gives received (Err DialFault) = ⊥
Gives received (Err OriginFault) = ⊥
Gives received (Err Malformed) = received.cut ≡ true
Gives received (Err TooLong) = ⊥
Gives received (Err (Refused status)) =
    (received.cut ≡ false) × (received.head.status ≡ status) × (status ≢ 200) × (status ≢ 204)
Gives received (Err Memory) = ⊥

-- why there is no response
abbrev pub why : FetchFault → SourceFault
why fetches.DialFault = DialFault
why fetches.OriginFault = OriginFault
why fetches.OriginEnded = Malformed
why fetches.OriginMalformed = Malformed
why fetches.OriginTooLong = TooLong
why fetches.TooManyInterim = Malformed
why fetches.Memory = Memory

-- what comes of a fetch
abbrev pub ComesOf : Result Received FetchFault → Result (Option (List ℕ)) SourceFault → Type 0
ComesOf (Ok received) result = Gives received result
ComesOf (Err fault) result = result ≡ Err (why fault)

-- The source was asked by one fetch for the capture with this number, and that is all that was dialed.
pub record Asks (source : Target) (number : ℕ) (old new : Links Transcript) (result : Result (Option (List ℕ)) SourceFault) : Type 0 where
  pub outcome : Result Received FetchFault
  pub logs : LogsFetch (asking_of source number) outcome old new
  pub comes : ComesOf outcome result

-- the dialer or the link failed
abbrev pub is_outside : Result (Option (List ℕ)) SourceFault → Bool
is_outside (Ok given) = false
is_outside (Err DialFault) = true
is_outside (Err OriginFault) = true
is_outside (Err Malformed) = false
is_outside (Err TooLong) = false
is_outside (Err (Refused status)) = false
is_outside (Err Memory) = false
