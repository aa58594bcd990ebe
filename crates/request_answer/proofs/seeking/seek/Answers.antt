-- What a look by date tells.
use Rattle.request_answer.proofs.LookLaws.{nearest_found}
use Rattle.request_answer.proofs.seeking.seek.Goals as goal

pub returns-clause-found : goal.returns-clause-found
returns-clause-found g c =
    nearest_found g.S.Finder.alone (g.S.Finder.told c.find_nearest.new.shelf).contents c.args.of.now.url c.args.of.now.key c.args.time c.find_nearest.result c.requires.keyed c.find_nearest.ensures.found c.find_nearest.ensures.knows
