use Rattle.std.proofs.Common.{List, subst, sym}
use Rattle.index_entry.specs.Facts.{Facts}
use Rattle.event_core.proofs.LookLaws.{map_lacks, mapped_answers}
use Rattle.event_core.specs.declared.event.Event.TheVariants as events
use Rattle.event_core.specs.declared.reply.Reply.TheVariants as replies
use Rattle.event_core.specs.steps.Standing.{Answers}
use Rattle.event_core.proofs.asking.map_event.Goals as goal

pub returns-in-Ok-clause-goes_on : goal.returns-in-Ok-clause-goes_on
returns-in-Ok-clause-goes_on g c = λ alone limits namespace was stands.
    subst (λ (found : List Facts). Answers limits namespace (g.S.Finder.told c.map.new.self) was (events.Map c.args.key.now) (replies.Mapped found)) (sym c.of.ensures)
    (mapped_answers g.S.Finder.alone (g.S.Finder.told c.args.shelf.now) (g.S.Finder.told c.map.new.self) (g.met.S.Finder.earlier c.map.new.self)
    c.map.ensures.looks alone limits namespace was stands c.args.key.now c.in-Ok.entries.items c.in-Ok.ensures.found)

pub returns-in-Err-clause-goes_on : goal.returns-in-Err-clause-goes_on
returns-in-Err-clause-goes_on g c = λ alone limits namespace was stands.
    map_lacks g.S.Finder.alone (g.S.Finder.told c.args.shelf.now) (g.S.Finder.told c.map.new.self) (g.met.S.Finder.earlier c.map.new.self)
    c.map.ensures.looks alone limits namespace was stands c.args.key.now c.in-Err.memory
