use Rattle.index_snapshot.proofs.Rules.{admits, forks, merges}
use Rattle.index_snapshot.proofs.publisher.seat_viewer.Goals as goal

pub reader-requires : goal.reader-requires
reader-requires g c = admits g.B.Brings.entries g.B.Brings.fits

pub tell-told-requires : goal.tell-told-requires
tell-told-requires g c = forks g.B.Brings.entries g.B.Brings.fits _ _

pub learn-requires-clause-rule : goal.learn-requires-clause-rule
learn-requires-clause-rule g c = merges g.B.Brings.entries g.B.Brings.fits _ _ _ _
