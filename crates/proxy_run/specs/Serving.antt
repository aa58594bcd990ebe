-- What serving the gate's first connection leaves.
use Rattle.std.specs.Prelude.{◌≡◌, Bool, codes}
use Rattle.archive_shelf.specs.Told.{Told}
use Rattle.capture.specs.declared.site.Site.{Site}
use Rattle.command.specs.Gates.{unheard}
use Rattle.outside.specs.Gate.{one_served}
use Rattle.outside.specs.declared.gate.Heard.{Heard}
use Rattle.command.specs.Objects.{Around}
use Rattle.command.specs.declared.status.Status.{Status}
use Rattle.command.specs.declared.status.Status.TheVariants.{Done, Outside, Memory}
use Rattle.session.specs.Connection.{IsConnection}
use Rattle.request_answer.specs.Gains.{Setting}
use Rattle.session.specs.declared.served.Served.{Served}
use Rattle.session.specs.declared.served.Served.TheVariants as served

-- the site of an archive that is reached through `pipe`
abbrev pub pipe_site : Site
pipe_site = record { base = codes "http://localhost:8080"; host = codes "localhost"; port = 8080 }

-- the status of a program that served one connection
abbrev pub status_of : Served → Status
status_of served.Done = Done
status_of served.ClientBroke = Outside
status_of served.ClientEndedEarly = Outside
status_of (served.ClientRefused refusal) = Done
status_of served.WantOfMemory = Memory

module _ (alone : Bool) (setting : Setting) where
  -- One connection was given, served and hung up, and is all that the gate gave.
  pub record ServesOne (was is : Around) (shelf_was shelf_is : Told) (status : Status) : Type 0 where
    pub heard : Heard
    pub served : Served
    pub logged : is.connections ≡ one_served was.connections heard
    pub connection : IsConnection alone setting
        (record { heard = unheard; answers = was.answers; links = was.links; dialer_faults = was.dialer_faults; shelf = shelf_was })
        (record { heard = heard; answers = is.answers; links = is.links; dialer_faults = is.dialer_faults; shelf = shelf_is }) served
    pub status_is : status ≡ status_of served
