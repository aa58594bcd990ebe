-- What was brought, or wasn't.
use Rattle.std.proofs.Common.{false, refl, ◌∙◌}
use Rattle.archive_shelf.proofs.CallLaws.{read_goes_on, stays_tells}
use Rattle.replay_url.specs.Questions.{ForNearest, by_memento}
use Rattle.request_answer.specs.SiteAnswers.{Replays}
use Rattle.request_answer.specs.steps.Making.{terms_at}
use Rattle.request_answer.proofs.FoundLaws.{found_replayed, found_unbrought}
use Rattle.request_answer.proofs.LookLaws.{found_answers}
use Rattle.request_answer.proofs.replaying.replay_found.Goals as goal

pub returns-in-Ok-clause-answers : goal.returns-in-Ok-clause-answers
returns-in-Ok-clause-answers g c clock_tells was looks =
    found_answers g.S.Finder.alone (record { site = c.args.visit.site.now; clock_tells = clock_tells })
    (record { message = c.args.visit.message.now; address = c.args.visit.address.now })
    (Replays (ForNearest (by_memento c.args.sought.time c.args.sought.digits c.args.sought.raw c.args.sought.of.now.url)) c.in-Ok.brought) c.args.visit.closes false c.replay.result (g.S.Finder.told was) (g.S.Finder.told c.args.shelf.now) (g.S.Finder.told c.bring.new.self)
    (g.met.S.Finder.earlier c.bring.new.self) looks c.requires.found.knows
    c.in-Ok.ensures.reads refl refl
    (λ faults. found_replayed (terms_at g.S.Finder.alone (record { site = c.args.visit.site.now; clock_tells = clock_tells }) (g.S.Finder.told was)) g.S.Finder.alone (record { message = c.args.visit.message.now; address = c.args.visit.address.now }) (by_memento c.args.sought.time c.args.sought.digits c.args.sought.raw c.args.sought.of.now.url) c.args.number faults
    (g.S.Finder.told was).faults c.in-Ok.brought (g.S.Finder.told c.args.shelf.now).contents (g.S.Finder.told c.bring.new.self).contents
    c.requires.found.reaches c.in-Ok.ensures.reads.stays.shown c.in-Ok.ensures.brings
    (stays_tells g.S.Finder.alone (g.S.Finder.told c.args.shelf.now).contents (g.S.Finder.told c.bring.new.self).contents c.in-Ok.ensures.reads.stays ∙ stays_tells g.S.Finder.alone (g.S.Finder.told was).contents (g.S.Finder.told c.args.shelf.now).contents looks.reads.stays))
    c.replay.ensures.text c.replay.ensures.closes

pub returns-in-Err-clause-answers : goal.returns-in-Err-clause-answers
returns-in-Err-clause-answers g c clock_tells was looks =
    found_unbrought g.S.Finder.alone (record { site = c.args.visit.site.now; clock_tells = clock_tells })
    (record { message = c.args.visit.message.now; address = c.args.visit.address.now })
    (by_memento c.args.sought.time c.args.sought.digits c.args.sought.raw c.args.sought.of.now.url) c.args.number c.in-Err.fault
    c.asks_for_head-answers_head.result c.args.visit.closes c.declined.result (g.S.Finder.told was) (g.S.Finder.told c.args.shelf.now) (g.S.Finder.told c.bring.new.self)
    (g.met.S.Finder.earlier c.bring.new.self) looks c.requires.found c.asks_for_head-answers_head.ensures
    c.in-Err.ensures.brings c.in-Err.ensures.reads (rw c.why_unbrought.ensures at c.declined.ensures.declines)

pub returns-in-Ok-clause-goes_on : goal.returns-in-Ok-clause-goes_on
returns-in-Ok-clause-goes_on g c =
    read_goes_on g.S.Finder.alone false (g.S.Finder.told c.args.shelf.now) (g.S.Finder.told c.bring.new.self) c.in-Ok.ensures.shows.consistent
    c.in-Ok.ensures.reads

pub returns-in-Err-clause-goes_on : goal.returns-in-Err-clause-goes_on
returns-in-Err-clause-goes_on g c =
    read_goes_on g.S.Finder.alone _ (g.S.Finder.told c.args.shelf.now) (g.S.Finder.told c.bring.new.self) c.in-Err.ensures.shows.consistent
    c.in-Err.ensures.reads
