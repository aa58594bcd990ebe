use Rattle.std.proofs.Common.{◌≡◌, ◌++◌}
use Rattle.index_entry.specs.Queries.{starting_with}
use Rattle.vault_lists.proofs.finding.starting.Given as goal

abbrev pub invariant-loop-entry : goal.invariant-loop-entry
invariant-loop-entry l = starting_with l.start l.index ≡ l.entries.items ++ l.entry-iterator
