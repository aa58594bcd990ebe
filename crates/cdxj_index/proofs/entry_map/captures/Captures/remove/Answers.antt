use Rattle.std.proofs.Common.{None, subst, sym}
use Rattle.std.specs.BTreeMap.{Updates}
use Rattle.std.specs.Box.{with_value}
use Rattle.cdxj_index.specs.declared.entry_map.captures.Captures.TheVariants.{Many}
use Rattle.cdxj_index.specs.Maps.{Changes}
use Rattle.index_entry.specs.Order.{moment_cmp}
use Rattle.cdxj_index.proofs.Changes.{many_changed}
use Rattle.cdxj_index.proofs.entry_map.captures.Captures.remove.Goals as goal

pub returns-in-Many-clause-taken : goal.returns-in-Many-clause-taken
returns-in-Many-clause-taken c some =
    subst (λ old. Changes old (Many (with_value c.in-Many.places c.remove.new.self)) c.args.moment None) (sym c.in-Many.is)
    (many_changed c.in-Many.places (with_value c.in-Many.places c.remove.new.self) c.args.moment None
    (subst (λ places. Updates moment_cmp places c.remove.new.self c.args.moment None) c.deref_mut.ensures.value c.remove.ensures.updates))
