use Rattle.std.proofs.Common.{ap, ◌∙◌}
use Rattle.index_entry.specs.Order.{moment_of}
use Rattle.cdxj_index.proofs.Changes.{both_held}
use Rattle.cdxj_index.proofs.entry_map.captures.both_of.Goals as goal

pub returns-clause-changes : goal.returns-clause-changes
returns-clause-changes c =
    both_held c.new-places.result c.insert.new.self c.insert-2.new.self c.in_ok-places.places c.args.first.now c.in_ok-shared.shared c.args.entry c.moment.result c.args.moment c.new-places.ensures.empty c.in_ok-shared.ensures (c.moment.ensures.value ∙ ap moment_of c.facts.ensures)
    c.in_ok-insert.ensures.updates c.in_ok-insert-2.ensures.updates c.in_ok-places.ensures.ok
