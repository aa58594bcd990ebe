-- The verdicts on sound volumes, by the law of these.
use Rattle.command.specs.Objects.{kinds_of}
use Rattle.proxy_run.proofs.VerifiedLaws.{verifies_answered}
use Rattle.proxy_run.proofs.laws.sound_archives_verify.Goals as goal

pub returns : goal.returns
returns g c =
    let kinds = kinds_of g.D.Disk g.G.Gate g.N.Dialer g.C.Clock g.O.Sink g.G.Link.Link.tells g.N.Link.Link.tells in
    record {
      sound = c.sound_volumes_verify.ensures.sound;
      one = c.sound_volumes_verify.ensures.one;
      done = verifies_answered kinds c.sound_volumes_verify.ensures.sound;
    }
