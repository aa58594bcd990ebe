-- What a look for all entries of a key tells.
use Rattle.request_answer.proofs.LookLaws.{all_found}
use Rattle.request_answer.proofs.listing.all_of.Goals as goal

pub returns-clause-found : goal.returns-clause-found
returns-clause-found g c =
    all_found g.S.Finder.alone (g.S.Finder.told c.find_all.new.shelf).contents c.args.of.now.url c.args.of.now.key (λ entries. entries.items) c.find_all.result c.requires.keyed c.find_all.ensures.found c.find_all.ensures.knows
