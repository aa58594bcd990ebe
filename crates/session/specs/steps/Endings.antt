-- How the last step of a connection makes it one.
use Rattle.std.specs.Prelude.{◌≡◌, ℕ, true, List, [], ◌∷◌, ◌++◌, Bool}
use Rattle.exchange.specs.Receiving.{StaysAccounted}
use Rattle.exchange.specs.Writing.{GrowsByProperFront}
use Rattle.request_answer.specs.Gains.{Setting, World}
use Rattle.session.specs.steps.Stages.{Stage, closes}
use Rattle.request_answer.specs.steps.Making.{IsMade}
use Rattle.outside.specs.Calls.{one_more}
use Rattle.outside.specs.declared.gate.Heard.{Heard}
use Rattle.session.specs.steps.Reads.{Client}
use Rattle.session.specs.steps.Wire.{Says}
use Rattle.request_answer.specs.Rounds.{Round}
use Rattle.session.specs.Stopping.{Ends, IsClosed, IsCutShort}
use Rattle.session.specs.declared.served.Served.{Served}

-- the client's side of a stage
abbrev pub client_at : Stage → Client
client_at stage = record { heard = stage.world.heard; pending = stage.pending }

-- what the objects tell where nothing but the client was heard
abbrev pub heard_now : World → Heard → World
heard_now world now = record world { heard = now }

module _ (alone : Bool) (setting : Setting) where
  -- A lawful round that closes, whose text was written whole.
  pub record LastIsWhole (r : Round) (rest : List ℕ) (from : Stage) (is : World) (result : Served) : Type 0 where
    pub made : IsMade alone setting from.served r from.world is
    pub closed : closes from.served r ≡ true
    pub accounts : StaysAccounted from.world.heard.given from.pending is.heard.given (r.wire ++ rest)
    pub said : Says (r.interim ++ r.text) from.world.heard is.heard
    pub ends : IsClosed (record { served = from.served; rounds = r ∷ []; rest = rest }) from.world.heard is.heard
        → Ends result setting.site (record { served = from.served; rounds = r ∷ []; rest = rest }) from.world.heard is.heard

  -- A lawful round, whose text was written in part.
  pub record LastIsInPart (r : Round) (rest : List ℕ) (from : Stage) (is : World) (result : Served) : Type 0 where
    pub made : IsMade alone setting from.served r from.world is
    pub accounts : StaysAccounted from.world.heard.given from.pending is.heard.given (r.wire ++ rest)
    pub part : GrowsByProperFront (from.world.heard.written ++ r.interim) is.heard.written r.text
    pub unwritten : is.heard.failed_writes ≡ one_more from.world.heard.failed_writes
    pub ends : IsCutShort (record { served = from.served; rounds = r ∷ []; rest = rest }) from.world.heard is.heard
        → Ends result setting.site (record { served = from.served; rounds = r ∷ []; rest = rest }) from.world.heard is.heard
