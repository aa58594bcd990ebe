use Rattle.index_snapshot.proofs.Rules.{looks}
use Rattle.index_snapshot.proofs.viewer.Viewer.enter.Goals as goal

pub enter_as-requires : goal.enter_as-requires
enter_as-requires g c x = looks g.B.Brings.entries g.B.Brings.fits _ _ x
