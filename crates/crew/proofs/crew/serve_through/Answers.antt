-- One connection is one of a shift.
use Rattle.std.proofs.Common.{[], ◌∷◌, refl}
use Rattle.crew.specs.Shifts.{hand_of}
use Rattle.crew.proofs.CrewSums.{first_true, second_true}
use Rattle.crew.proofs.crew.serve_through.Goals as goal

pub returns : goal.returns
returns g c = record {
  pasts = c.serve_one-past.result ∷ [];
  count_is = refl;
  stays = refl;
  served = record {
    shift = λ t. (
      hand_of g.N.Dialer g.C.Clock c.serve_one-past.new.shelf c.serve_one-past.new.member,
      c.serve_one-past.ensures.serves (first_true g.G.Link.Link.tells g.N.Link.Link.tells t) (second_true g.G.Link.Link.tells g.N.Link.Link.tells t),
      refl,
    );
    goes_on = c.serve_one-past.ensures.goes_on;
  };
  logs = c.hang_up.ensures.logs;
  same_closed = c.hang_up.ensures.same_closed;
  same_faults = c.hang_up.ensures.same_faults;
}
