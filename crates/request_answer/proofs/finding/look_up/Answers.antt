-- What was looked up answers the query.
use Rattle.request_answer.proofs.LookLaws.{answer_found}
use Rattle.request_answer.proofs.finding.look_up.Goals as goal

pub returns-in-Ok-clause-found : goal.returns-in-Ok-clause-found
returns-in-Ok-clause-found g c =
    answer_found g.S.Finder.alone (g.S.Finder.told c.find_starting.new.shelf).contents c.args.query.now c.in-Ok.entries.items c.answer.result
    c.in-Ok.ensures.found c.in-Ok.ensures.knows
    (rw c.as_slice.ensures.value at c.answer.ensures.shown) c.requires.start
