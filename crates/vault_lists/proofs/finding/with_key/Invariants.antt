use Rattle.std.proofs.Common.{◌≡◌, ◌++◌}
use Rattle.index_entry.specs.Queries.{of_key}
use Rattle.vault_lists.proofs.finding.with_key.Given as goal

abbrev pub invariant-loop-entry : goal.invariant-loop-entry
invariant-loop-entry l = of_key l.key l.index ≡ l.entries.items ++ l.entry-iterator
