use Rattle.std.proofs.Common.{rules, subst, sym}
use Rattle.cdxj_index.specs.Maps.{Takes}
use Rattle.cdxj_index.proofs.Changes.{taken_there, keys_taken, dropped_there, keys_dropped, taken_nowhere}
use Rattle.cdxj_index.proofs.entry_map.EntryMap.remove.Goals as goal

pub remove-requires : goal.remove-requires
remove-requires c = (c.requires.each c.args.key.now c.in-Some.captures.now (sym c.in-Some.ensures.value)).ordered

pub returns-else-remove-clause-keys : goal.returns-else-remove-clause-keys
returns-else-remove-clause-keys c =
    let written = c.get_mut.follows.holds c.remove.new.self in
    keys_taken c.args.self.now.keys (c.get_mut.follows.lender c.remove.new.self) c.in-Some.captures.now c.remove.new.self c.args.key.now c.args.moment c.requires c.in-Some.ensures.value written.4 (written.3 (search rules)) (c.remove.ensures.ordered c.if-remove.false) (c.remove.ensures.taken c.if-remove.false)

pub returns-else-remove-clause-taken : goal.returns-else-remove-clause-taken
returns-else-remove-clause-taken c =
    let written = c.get_mut.follows.holds c.remove.new.self in
    taken_there c.args.self.now.keys (c.get_mut.follows.lender c.remove.new.self) c.in-Some.captures.now c.remove.new.self c.args.key.now c.args.moment c.in-Some.ensures.value (written.3 (search rules)) (c.remove.ensures.taken c.if-remove.false)

pub returns-in_default-clause-taken : goal.returns-in_default-clause-taken
returns-in_default-clause-taken c =
    subst (λ keys. Takes c.args.self.now.keys keys c.args.key.now c.args.moment) (sym c.get_mut.follows.holds-at-none)
    (taken_nowhere c.args.self.now.keys c.args.key.now c.args.moment (sym c.in_default.ensures.value))

pub returns-then-remove-clause-keys : goal.returns-then-remove-clause-keys
returns-then-remove-clause-keys c =
    let written = c.get_mut.follows.holds c.remove.new.self in
    keys_dropped c.args.self.now.keys (c.get_mut.follows.lender c.remove.new.self) c.remove-then-remove.new.self c.args.key.now c.remove.new.self c.requires (written.3 (search rules)) c.remove-then-remove.ensures.ordered c.remove-then-remove.ensures.updates

pub returns-then-remove-clause-taken : goal.returns-then-remove-clause-taken
returns-then-remove-clause-taken c =
    let written = c.get_mut.follows.holds c.remove.new.self in
    dropped_there c.args.self.now.keys (c.get_mut.follows.lender c.remove.new.self) c.remove-then-remove.new.self c.in-Some.captures.now c.remove.new.self c.args.key.now c.args.moment c.in-Some.ensures.value (written.3 (search rules)) (c.remove.ensures.only c.if-remove.true) c.remove-then-remove.ensures.updates
