use Rattle.std.proofs.Common.{subst}
use Rattle.index_entry.specs.Queries.{IsIndex}
use Rattle.cdxj_index.proofs.Calls.{is_index}
use Rattle.cdxj_index.proofs.index.Index.len.Goals as goal

pub returns-clause-index : goal.returns-clause-index
returns-clause-index c = subst IsIndex c.self.view_is (is_index c.self.inside.map.keys c.self.inside.numbers c.self.invariant)
