use Rattle.std.proofs.Common.{rules}
use Rattle.std.specs.Prelude.{nat_le, nat_lt}
use Rattle.std.proofs.lemmas.List.Kept.{IsStrictlyIncreasing-filter}
use Rattle.std.proofs.lemmas.List.Sorted.{IsPartitionPoint-from_clause, IsPartitionedBy-ltb}
use Rattle.revisit_table.proofs.Searches.{rest_is_filter, non_decreasing}
use Rattle.revisit_table.proofs.digests.from_least.Goals as goal

-- the closure tells whether a number is below `least`
pub returns-clause-numbers : goal.returns-clause-numbers
returns-clause-numbers c =
    let xs = c.args.numbers.now in
    let search_ = c.partition_point-start.ensures in
    let parts = IsPartitionPoint-from_clause (λ x. nat_lt x c.args.least) xs _ search_.partitioned (IsPartitionedBy-ltb (λ x. x) xs c.args.least (non_decreasing xs c.requires)) (λ a r f called. search rules) in
    rest_is_filter xs _ c.args.least search_.bound parts.0 parts.1

pub returns-clause-rising : goal.returns-clause-rising
returns-clause-rising c =
    rw (returns-clause-numbers c) (IsStrictlyIncreasing-filter (λ x. nat_le c.args.least x) c.args.numbers.now c.requires)
