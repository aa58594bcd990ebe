-- What an exchange sends is what a capture holds.
use Rattle.std.specs.Prelude.{◌≡◌, ℕ, ◌^◌, ◌<◌, ◌≤◌, List, length, IsTrue, Ok}
use Rattle.capture.specs.Target.{is_accepted_uri}
use Rattle.capture.specs.WellFormed.{IsRequestOf}
use Rattle.capture.specs.declared.limits.TheConstants.{HEAD_LIMIT}
use Rattle.capture.specs.declared.site.Site.{Site}
use Rattle.exchange.specs.Aim.{aim_of}
use Rattle.exchange.specs.Texts.{forwarded}
use Rattle.exchange.specs.declared.aim.Aim.TheVariants.{Origin}
use Rattle.exchange.specs.declared.aim.Target.{Target}
use Rattle.http_head.specs.declared.head.RequestMessage.{RequestMessage}
use Rattle.http_wire.specs.Messages.{IsRequest}

-- a request that was read is aimed at this origin, whose host is no longer than that of a URL
pub record IsForOrigin (message : RequestMessage) (target : Target) : Type 0 where
  pub site : Site
  pub stream : List ℕ
  pub request : IsRequest stream message
  pub aim : aim_of site message.head.method message.head.target ≡ Ok (Origin target)
  pub host : length target.host < 2 ^ 32

-- the target is an accepted one, and what the origin gets is one whole request of the method, with or without a body
pub record CanBeForwarded (message : RequestMessage) (target : Target) : Type 0 where
  pub uri : target.uri ≡ message.head.target
  pub accepted : IsTrue (is_accepted_uri target.uri)
  pub whole : IsRequestOf message.head.method (forwarded message target)
  pub short_uri : length target.uri ≤ HEAD_LIMIT
  pub short : length (forwarded message target) < 2 ^ 34

-- so it is with each request that is aimed at an origin
abbrev pub RequestsCanBeStored : Type 0
RequestsCanBeStored = (message : RequestMessage) (target : Target) → IsForOrigin message target → CanBeForwarded message target
