use Rattle.checkpoint.proofs.LeftLaws.{finished_is_given, volumes_stay}
use Rattle.checkpoint.proofs.laws.writing_leaves_what_is_given.Goals as goal

pub returns-clause-finished : goal.returns-clause-finished
returns-clause-finished g c = finished_is_given

pub returns-clause-volumes : goal.returns-clause-volumes
returns-clause-volumes g c = volumes_stay g.D.Disk g.met.D.Disk.now_counts g.met.D.Disk.now_only
