-- What one connection was.
use Rattle.std.specs.Prelude.{◌≡◌, ℕ, ◌-◌, ◌^◌, ◌<◌, Bool, List, ◌++◌, length, IsTrue}
use Rattle.std.specs.List.{flat_map}
use Rattle.request_answer.specs.Gains.{World, Setting}
use Rattle.request_answer.specs.Images.{KeepsImages}
use Rattle.request_answer.specs.Rounds.{Round, numbers_by}
use Rattle.session.specs.Courses.{IsCourse}
use Rattle.session.specs.Stopping.{Ends}
use Rattle.request_answer.specs.Traces.{terms_of, view_of}
use Rattle.session.specs.declared.served.Served.{Served}

module _ (alone : Bool) (setting : Setting) where
  -- A connection: lawful rounds and a rest are what the client gave, and the answers are what was written to it. It begins with what was
  -- seen of the archive, and ends with what is. What the objects tell has changed by what the rounds gained: clock and dialer tell it, and
  -- no link is left out; and nothing else of the shelf's contents changed. A clock that tells does so while its answers are fewer than
  -- 2^64 - 1.
  pub record IsConnection (was is : World) (result : Served) : Type 0 where
    pub rounds : List Round
    pub rest : List ℕ
    pub given : is.heard.given ≡ was.heard.given ++ (flat_map (λ r. r.wire) rounds ++ rest)
    pub lawful : IsCourse (terms_of setting.site alone was.shelf.contents) 0
        (view_of was.shelf.contents was.dialer_faults was.shelf.faults) rounds
        (view_of is.shelf.contents is.dialer_faults is.shelf.faults)
    pub ends : Ends result setting.site (record { served = 0; rounds = rounds; rest = rest }) was.heard is.heard
    pub asked : IsTrue setting.clock_tells → length is.answers < 2 ^ 64 - 1
        → is.answers ≡ was.answers ++ flat_map (λ r. r.traces.times) rounds
    pub logged : is.links ≡ record was.links { log = was.links.log ++ flat_map (λ r. r.traces.transcripts) rounds }
    pub stored : is.shelf.contents ≡ record was.shelf.contents {
      seen = is.shelf.contents.seen;
      shown = is.shelf.contents.shown;
      mine = was.shelf.contents.mine ++ flat_map (λ r. numbers_by r.outcome r.traces.before) rounds;
    }
    pub images : KeepsImages (terms_of setting.site alone was.shelf.contents) rounds was.shelf is.shelf
