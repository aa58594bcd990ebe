use Rattle.std.proofs.Common.{Some, subst, sym}
use Rattle.std.specs.BTreeMap.{Updates}
use Rattle.std.specs.Box.{with_value}
use Rattle.cdxj_index.specs.declared.entry_map.captures.Captures.TheVariants.{Many}
use Rattle.cdxj_index.specs.Maps.{Changes, entry_of}
use Rattle.index_entry.specs.Order.{moment_cmp}
use Rattle.cdxj_index.proofs.Changes.{many_changed}
use Rattle.cdxj_index.proofs.entry_map.captures.Captures.insert.Goals as goal

pub returns-in_ok-insert-in-Many-clause-ok : goal.returns-in_ok-insert-in-Many-clause-ok
returns-in_ok-insert-in-Many-clause-ok c =
    subst (λ old. Changes old (Many (with_value c.in-Many.places c.insert.new.self)) c.args.moment (Some (entry_of c.args.entry))) (sym c.in-Many.is)
    (many_changed c.in-Many.places (with_value c.in-Many.places c.insert.new.self) c.args.moment (Some c.args.entry)
    (subst (λ places. Updates moment_cmp places c.insert.new.self c.args.moment (Some c.args.entry)) c.deref_mut.ensures.value c.in_ok-insert-in-Many.ensures.updates))
