-- What is known of a request when it is to be answered.
use Rattle.std.proofs.Common.{◌≡◌, Ok, subst}
use Rattle.capture.specs.declared.site.Site.{Site}
use Rattle.exchange.specs.Aim.{HasShortHost, aim_of}
use Rattle.exchange.specs.Storing.{IsForOrigin}
use Rattle.exchange.specs.declared.aim.Aim.{Aim}
use Rattle.exchange.specs.declared.aim.Aim.TheVariants.{Origin}
use Rattle.exchange.specs.declared.aim.Target.{Target}
use Rattle.request_answer.specs.steps.Answering.{IsWellAsked}
use Rattle.request_answer.specs.declared.answering.Asked.{Asked}

-- a request that was read, and goes to an origin
pub for_origin : (site : Site) (asked : Asked) (target : Target) → asked.aim ≡ Origin target → IsWellAsked site asked → IsForOrigin asked.message target
for_origin site asked target is h = record {
  site = site;
  stream = h.stream;
  request = h.request;
  aim = subst (λ (aim : Aim). aim_of site asked.message.head.method asked.message.head.target ≡ Ok aim) is h.aimed;
  host = subst HasShortHost is h.short;
}
