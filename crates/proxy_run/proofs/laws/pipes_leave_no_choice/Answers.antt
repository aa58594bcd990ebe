-- The law, by that of courses, and by that of a book's entries.
use Rattle.command.specs.Objects.{kinds_of}
use Rattle.proxy_run.proofs.OnePipeLaws.{pipes_one_way}
use Rattle.proxy_run.proofs.laws.pipes_leave_no_choice.Goals as goal

pub returns : goal.returns
returns g c =
    pipes_one_way (kinds_of g.D.Disk g.G.Gate g.N.Dialer g.C.Clock g.O.Sink g.G.Link.Link.tells g.N.Link.Link.tells)
    c.books_have_one_index.ensures.entries c.courses_leave_no_choice.ensures.one c.courses_leave_no_choice.ensures.ends
