use Rattle.std.specs.Prelude.{◌<◌, All}
use Rattle.bench.proofs.tables.table_of.Given as goal

abbrev pub invariant-loop-digest : goal.invariant-loop-digest
invariant-loop-digest l = All (λ entry. entry.1 < l.number) l.table.kept
