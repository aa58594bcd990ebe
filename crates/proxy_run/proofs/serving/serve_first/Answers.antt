-- The gate's connection was served, or it gave none.
use Rattle.std.proofs.Common.{refl, ◌∙◌, inl, inr}
use Rattle.command.specs.Objects.{told_around}
use Rattle.proxy_run.proofs.PipeLaws.{ends_with, none_gained}
use Rattle.proxy_run.proofs.serving.serve_first.Goals as goal

pub returns-in-Err-clause-serves : goal.returns-in-Err-clause-serves
returns-in-Err-clause-serves g c t u =
    inr (tt, none_gained (told_around g.G.Gate g.N.Dialer g.C.Clock c.args.gate.now c.args.member.now) _ refl, refl)

pub returns-in-Connection-clause-serves : goal.returns-in-Connection-clause-serves
returns-in-Connection-clause-serves g c t u = inl (c.serve_link.ensures.serves t u (g.G.Gate.connections c.args.gate.now) (c.in-Connection.ensures.gives t))

pub returns-in-Closed-clause-serves : goal.returns-in-Closed-clause-serves
returns-in-Closed-clause-serves g c t u =
    inr ((c.in-Closed.ensures.was_closed t, c.in-Closed.ensures.counts), none_gained (told_around g.G.Gate g.N.Dialer g.C.Clock c.args.gate.now c.args.member.now) _ (c.in-Closed.ensures.gives t), refl)

pub returns-in-Failed-clause-serves : goal.returns-in-Failed-clause-serves
returns-in-Failed-clause-serves g c t u =
    inr (c.in-Failed.ensures.counts.1, none_gained (told_around g.G.Gate g.N.Dialer g.C.Clock c.args.gate.now c.args.member.now) _ (c.in-Failed.ensures.gives t), refl)

pub returns-clause-serves : goal.returns-clause-serves
returns-clause-serves g c t u =
    inr (tt, none_gained (told_around g.G.Gate g.N.Dialer g.C.Clock c.args.gate.now c.args.member.now) _ (c.in-Memory.ensures.gives t), refl)

pub returns-in-Err-clause-ends : goal.returns-in-Err-clause-ends
returns-in-Err-clause-ends g c = inr (inr refl, refl)

pub returns-in-Connection-clause-ends : goal.returns-in-Connection-clause-ends
returns-in-Connection-clause-ends g c = ends_with c.serve_link.result (λ same. same ∙ c.in-Connection.ensures.counts) c.serve_link.ensures.ends

pub returns-in-Closed-clause-ends : goal.returns-in-Closed-clause-ends
returns-in-Closed-clause-ends g c = inr (inl refl, c.in-Closed.ensures.counts)

pub returns-in-Failed-clause-ends : goal.returns-in-Failed-clause-ends
returns-in-Failed-clause-ends g c = inl refl

pub returns-clause-ends : goal.returns-clause-ends
returns-clause-ends g c = inr (inr refl, c.in-Memory.ensures.counts)
