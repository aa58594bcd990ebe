-- A connection from a stage on, and a step from one stage to the next.
use Rattle.std.specs.Prelude.{◌≡◌, ◌+◌, ℕ, Bool, false, List, ◌++◌, ◌||◌}
use Rattle.exchange.specs.Receiving.{StaysAccounted}
use Rattle.request_answer.specs.Gains.{Setting, World, gains_of}
use Rattle.request_answer.specs.Images.{KeepsImages}
use Rattle.request_answer.specs.Rounds.{Round, closes_outcome}
use Rattle.session.specs.Courses.{IsCourse, course_wire}
use Rattle.session.specs.Stopping.{Ends}
use Rattle.session.specs.steps.Wire.{Says}
use Rattle.session.specs.declared.served.Served.{Served}
use Rattle.request_answer.specs.steps.Making.{terms_at, view_at, Gained, IsMade}

-- a point of a connection: how many requests were served, what the client gave and nobody has used, and what the objects tell
pub record Stage : Type 1 where
  pub served : ℕ
  pub pending : List ℕ
  pub world : World

-- whether the connection closes with a round, behind so many requests
abbrev pub closes : ℕ → Round → Bool
closes served r = r.lacked || closes_outcome served r.outcome

module _ (alone : Bool) (setting : Setting) where
  -- what is left of a connection, from a stage on
  pub record IsRemainder (from : Stage) (is : World) (result : Served) : Type 0 where
    pub rounds : List Round
    pub rest : List ℕ
    pub accounts : StaysAccounted from.world.heard.given from.pending is.heard.given (course_wire rounds ++ rest)
    pub lawful : IsCourse (terms_at alone setting from.world.shelf) from.served (view_at from.world) rounds (view_at is)
    pub ends : Ends result setting.site (record { served = from.served; rounds = rounds; rest = rest }) from.world.heard is.heard
    pub gained : Gained alone setting from.world is (gains_of rounds)
    pub images : KeepsImages (terms_at alone setting from.world.shelf) rounds from.world.shelf is.shelf

  -- A lawful round was made from one stage to the next, doesn't close, and its text was written.
  pub record IsStep (r : Round) (from to : Stage) : Type 0 where
    pub made : IsMade alone setting from.served r from.world to.world
    pub stays : closes from.served r ≡ false
    pub next : to.served ≡ from.served + 1
    pub accounts : StaysAccounted from.world.heard.given from.pending to.world.heard.given (r.wire ++ to.pending)
    pub said : Says (r.interim ++ r.text) from.world.heard to.world.heard
