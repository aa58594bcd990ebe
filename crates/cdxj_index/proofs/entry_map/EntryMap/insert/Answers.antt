use Rattle.std.proofs.Common.{◌≡◌, ◌^◌, ◌<◌, Some, rules, ap, subst, sym, ◌∙◌}
use Rattle.cdxj_index.specs.Maps.{Changes, entry_of}
use Rattle.index_entry.specs.Order.{Moment, moment_of}
use Rattle.cdxj_index.proofs.Changes.{put_there, keys_there, put_first, keys_first, same_there, keys_same, keys_alike, on_err}
use Rattle.cdxj_index.proofs.entry_map.EntryMap.insert.Goals as goal

pub insert-requires : goal.insert-requires
insert-requires c = (c.requires.each c.facts.inside.key c.in-Some.captures.now (sym c.in-Some.ensures.value)).ordered

pub returns-in_err-insert-clause-keys : goal.returns-in_err-insert-clause-keys
returns-in_err-insert-clause-keys c =
    let written = c.get_mut.follows.holds c.insert.new.self in
    keys_same c.args.self.now.keys (c.get_mut.follows.lender c.insert.new.self) c.in-Some.captures.now c.insert.new.self c.facts.inside.key c.requires c.in-Some.ensures.value written.4 (written.3 (search rules)) c.in_err-insert.ensures.ordered c.in_err-insert.ensures.err

pub returns-in_err-insert-clause-err : goal.returns-in_err-insert-clause-err
returns-in_err-insert-clause-err c =
    let written = c.get_mut.follows.holds c.insert.new.self in
    on_err c.from_residual.result (same_there c.args.self.now.keys (c.get_mut.follows.lender c.insert.new.self) c.in-Some.captures.now c.insert.new.self c.facts.inside.key c.in-Some.ensures.value (written.3 (search rules)) c.in_err-insert.ensures.err)

pub returns-in-Some-clause-keys : goal.returns-in-Some-clause-keys
returns-in-Some-clause-keys c =
    let moment : c.moment-moment.result ≡ (c.facts.inside.date, c.facts.inside.number) = c.moment-moment.ensures.value ∙ ap moment_of (sym c.facts.view_is) in
    let fits : c.facts.inside.number < 2 ^ 32 = subst (λ (m : Moment). m.1 < 2 ^ 32) moment c.moment-moment.ensures.fits in
    let written = c.get_mut.follows.holds c.insert.new.self in
    keys_there c.args.self.now.keys (c.get_mut.follows.lender c.insert.new.self) c.in-Some.captures.now c.insert.new.self c.args.entry _ (c.facts.view_is ∙ c.facts-facts.ensures) fits c.requires c.in-Some.ensures.value written.4 (written.3 (search rules)) c.in_ok-insert.ensures.ordered
    (subst (λ m. Changes c.in-Some.captures.now c.insert.new.self m (Some (entry_of c.args.entry))) moment c.in_ok-insert.ensures.ok)

pub returns-in-Some-clause-ok : goal.returns-in-Some-clause-ok
returns-in-Some-clause-ok c =
    let moment : c.moment-moment.result ≡ (c.facts.inside.date, c.facts.inside.number) = c.moment-moment.ensures.value ∙ ap moment_of (sym c.facts.view_is) in
    let written = c.get_mut.follows.holds c.insert.new.self in
    put_there c.args.self.now.keys (c.get_mut.follows.lender c.insert.new.self) c.in-Some.captures.now c.insert.new.self c.args.entry _ (c.facts.view_is ∙ c.facts-facts.ensures) c.in-Some.ensures.value (written.3 (search rules))
    (subst (λ m. Changes c.in-Some.captures.now c.insert.new.self m (Some (entry_of c.args.entry))) moment c.in_ok-insert.ensures.ok)

pub returns-in_err-insert-2-clause-keys : goal.returns-in_err-insert-2-clause-keys
returns-in_err-insert-2-clause-keys c =
    let same = rw c.get_mut.follows.holds-at-none at c.in_err-insert-2.ensures.err in
    keys_alike c.args.self.now.keys c.insert-2.new.self c.requires same

pub returns-clause-keys : goal.returns-clause-keys
returns-clause-keys c =
    let moment : c.moment-moment.result ≡ (c.facts.inside.date, c.facts.inside.number) = c.moment-moment.ensures.value ∙ ap moment_of (sym c.facts.view_is) in
    let fits : c.facts.inside.number < 2 ^ 32 = subst (λ (m : Moment). m.1 < 2 ^ 32) moment c.moment-moment.ensures.fits in
    let updates = rw c.in_ok-key.ensures at (rw c.get_mut.follows.holds-at-none at c.in_ok-insert-2.ensures.updates) in
    keys_first c.args.self.now.keys c.insert-2.new.self c.args.entry _ (c.facts.view_is ∙ c.facts-facts.ensures) fits c.requires c.in_ok-insert-2.ensures.ordered updates

pub returns-clause-ok : goal.returns-clause-ok
returns-clause-ok c =
    let updates = rw c.in_ok-key.ensures at (rw c.get_mut.follows.holds-at-none at c.in_ok-insert-2.ensures.updates) in
    put_first c.args.self.now.keys c.insert-2.new.self c.args.entry _ (c.facts.view_is ∙ c.facts-facts.ensures) (sym c.in_default.ensures.value) updates
