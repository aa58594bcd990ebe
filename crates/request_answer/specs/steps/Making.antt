-- How a lawful round was made.
use Rattle.std.specs.Prelude.{◌≡◌, ◌+◌, ◌-◌, ◌^◌, ◌<◌, ℕ, Bool, IsTrue, [], ◌∷◌, ◌++◌, length}
use Rattle.archive_shelf.specs.Told.{Told}
use Rattle.archive_shelf.specs.Contents.{Shows}
use Rattle.request_answer.specs.Gains.{Setting, World, Gains}
use Rattle.request_answer.specs.Images.{KeepsImages}
use Rattle.request_answer.specs.Rounds.{Round, IsRound, is_from_shown, numbers_by}
use Rattle.request_answer.specs.Traces.{LeadsView, Terms, View, terms_of, view_of}

-- what holds for as long as the connection lasts
abbrev pub terms_at : Bool → Setting → Told → Terms
terms_at alone setting shelf = terms_of setting.site alone shelf.contents

-- what is seen
abbrev pub view_at : World → View
view_at world = view_of world.shelf.contents world.dialer_faults world.shelf.faults

-- what a round gained
abbrev pub gains_by : Round → Gains
gains_by r = record {
  times = r.traces.times;
  transcripts = r.traces.transcripts;
  numbers = numbers_by r.outcome r.traces.before;
}

module _ (alone : Bool) (setting : Setting) where
  -- what the objects tell has changed by what was gained
  pub record Gained (was is : World) (gains : Gains) : Type 0 where
    pub asked : IsTrue setting.clock_tells → length is.answers < 2 ^ 64 - 1 → is.answers ≡ was.answers ++ gains.times
    pub logged : is.links ≡ record was.links { log = was.links.log ++ gains.transcripts }
    pub stored : is.shelf.contents ≡ record was.shelf.contents {
      seen = is.shelf.contents.seen;
      shown = is.shelf.contents.shown;
      mine = was.shelf.contents.mine ++ gains.numbers;
    }

  -- A lawful round was made. Only its text may not be written.
  pub record IsMade (served : ℕ) (r : Round) (was is : World) : Type 0 where
    pub lawful : IsRound (terms_at alone setting was.shelf) served r
    pub leads : LeadsView (terms_at alone setting was.shelf) (view_at was) r.traces.before
    pub knows : IsTrue was.shelf.contents.tells → IsTrue (is_from_shown r.outcome) → Shows alone was.shelf.contents.seen r.traces.before.shown
    pub left : view_at is ≡ r.traces.after
    pub gained : Gained was is (gains_by r)
    pub images : KeepsImages (terms_at alone setting was.shelf) (r ∷ []) was.shelf is.shelf
