use Rattle.archive_shelf.proofs.CallLaws.{caught_both, looked_catches}
use Rattle.archive_shelf.proofs.looking.find_starting.Goals as goal

pub returns-in-Ok-clause-looks : goal.returns-in-Ok-clause-looks
returns-in-Ok-clause-looks g c = looked_catches g.S.Finder.alone (g.S.Finder.told c.args.shelf.now) (g.S.Finder.told c.starting.new.self) c.starting.ensures.looks

pub returns-in-Err-clause-looks : goal.returns-in-Err-clause-looks
returns-in-Err-clause-looks g c =
    let alone = g.S.Finder.alone in
    let was = g.S.Finder.told c.args.shelf.now in
    let mid = g.S.Finder.told c.starting.new.self in
    let caught = g.S.Finder.told c.catch_up.new.self in
    let is = g.S.Finder.told c.starting-in-Err.new.self in
    caught_both alone was mid is (looked_catches alone was mid c.starting.ensures.looks)
    (caught_both alone mid caught is c.catch_up.ensures.catches (looked_catches alone caught is c.starting-in-Err.ensures.looks))
