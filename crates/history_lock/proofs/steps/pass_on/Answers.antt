use Rattle.std.proofs.Common.{rules, arith, ◌≡◌, ◌+◌, ◌%◌, ◌^◌, ◌∙◌}
use Rattle.history_lock.proofs.Keeps.{passes_on}
use Rattle.history_lock.proofs.steps.pass_on.Goals as goal

pub store-requires : goal.store-requires
store-requires g c = let d = c.requires.holds in
    let new : (c.args.ticket + 1) % 2 ^ 64 ≡ (1 + d.count) % 2 ^ 64 = omega (arith, d.ticket_is) in
    (search rules, search rules, passes_on g.T.Told.list g.T.Told.by _ _ _ d.count _ c.args.seat.now.me.0 _ d.value d.holds (search rules ∙ new) d.hand d.seen_is)
