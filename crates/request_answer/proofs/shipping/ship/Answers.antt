-- A piece that is there, or the next one, or none.
use Rattle.std.proofs.Common.{false, refl}
use Rattle.archive_shelf.proofs.CallLaws.{read_goes_on, stays_tells}
use Rattle.request_answer.specs.SiteAnswers.{Ships}
use Rattle.request_answer.specs.steps.Making.{terms_at}
use Rattle.request_answer.proofs.VisitLaws.{bring_answers, piece_shipped, unshipped_answers}
use Rattle.request_answer.proofs.shipping.ship.Goals as goal

pub returns-in-Ok-clause-answers : goal.returns-in-Ok-clause-answers
returns-in-Ok-clause-answers g c clock_tells =
    bring_answers g.S.Finder.alone (record { site = c.args.visit.site.now; clock_tells = clock_tells })
    (record { message = c.args.visit.message.now; address = c.args.visit.address.now })
    (Ships c.args.number c.in-Ok.piece) c.args.visit.closes false c.found.result (g.S.Finder.told c.args.shelf.now) (g.S.Finder.told c.piece.new.self)
    (g.met.S.Finder.earlier c.piece.new.self)
    c.in-Ok.ensures.reads refl refl refl
    (λ faults. piece_shipped (terms_at g.S.Finder.alone (record { site = c.args.visit.site.now; clock_tells = clock_tells }) (g.S.Finder.told c.args.shelf.now)) (record { message = c.args.visit.message.now; address = c.args.visit.address.now }) c.args.number c.in-Ok.piece (g.S.Finder.told c.piece.new.self).contents faults
    (g.S.Finder.told c.args.shelf.now).faults c.requires.asks c.in-Ok.ensures.gives
    (stays_tells g.S.Finder.alone (g.S.Finder.told c.args.shelf.now).contents (g.S.Finder.told c.piece.new.self).contents c.in-Ok.ensures.reads.stays))
    c.found.ensures.text
    c.found.ensures.closes

pub returns-in-Err-clause-answers : goal.returns-in-Err-clause-answers
returns-in-Err-clause-answers g c clock_tells =
    unshipped_answers g.S.Finder.alone (record { site = c.args.visit.site.now; clock_tells = clock_tells })
    (record { message = c.args.visit.message.now; address = c.args.visit.address.now }) c.args.number c.in-Err.fault
    c.asks_for_head-answers_head.result c.args.visit.closes c.unshipped.result (g.S.Finder.told c.args.shelf.now) (g.S.Finder.told c.piece.new.self)
    (g.met.S.Finder.earlier c.piece.new.self) c.requires.asks c.asks_for_head-answers_head.ensures c.in-Err.ensures.gives c.in-Err.ensures.reads
    c.unshipped.ensures.declines c.unshipped.ensures.closes

pub returns-in-Ok-clause-goes_on : goal.returns-in-Ok-clause-goes_on
returns-in-Ok-clause-goes_on g c =
    read_goes_on g.S.Finder.alone false (g.S.Finder.told c.args.shelf.now) (g.S.Finder.told c.piece.new.self) c.in-Ok.ensures.shows.consistent
    c.in-Ok.ensures.reads

pub returns-in-Err-clause-goes_on : goal.returns-in-Err-clause-goes_on
returns-in-Err-clause-goes_on g c =
    read_goes_on g.S.Finder.alone _ (g.S.Finder.told c.args.shelf.now) (g.S.Finder.told c.piece.new.self) c.in-Err.ensures.shows.consistent
    c.in-Err.ensures.reads
