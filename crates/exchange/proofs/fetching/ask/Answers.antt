-- A link that failed while it was written to has given nothing.
use Rattle.std.proofs.Common.{inl, ap, ◌∙◌}
use Rattle.http_head.proofs.FrontLaws.{heads_stay}
use Rattle.outside.specs.Link.{Traffic}
use Rattle.exchange.proofs.ArrivalLaws.{comes_to_nothing}
use Rattle.exchange.proofs.fetching.ask.Goals as goal

pub returns-in-Err-clause-receives : goal.returns-in-Err-clause-receives
returns-in-Err-clause-receives g c t =
    let nothing = ap (λ (traffic : Traffic). traffic.given) (c.in-Err.ensures.breaks_off t)
    ∙ ap (λ (traffic : Traffic). traffic.given) (c.requires.fresh t) in
    inl (comes_to_nothing heads_stay c.args.answers_head (g.L.Link.traffic c.write_all.new.link).given nothing)
