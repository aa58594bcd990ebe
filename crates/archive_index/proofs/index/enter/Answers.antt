use Rattle.std.proofs.Common.{◌<◌, Option, subst}
use Rattle.std.specs.Prelude.{Contains, IfSome}
use Rattle.index_entry.specs.Facts.{Facts}
use Rattle.archive_index.proofs.IndexLaws.{index_after, none_there}
use Rattle.archive_index.proofs.index.enter.Goals as goal

pub add-requires : goal.add-requires
add-requires c =
    none_there c.in-Some.entry.number c.args.index.now
    (subst (λ (o : Option Facts). IfSome o (λ e. (other : Facts) → Contains c.args.index.now other → other.number < e.number)) c.in-Some.is c.requires.behind)

pub returns-in-Some-clause-indexed : goal.returns-in-Some-clause-indexed
returns-in-Some-clause-indexed c =
    index_after c.add.result c.in-Some.entry c.args.index.now c.add.new.self c.requires.indexed
    (subst (λ (o : Option Facts). IfSome o (λ e. (other : Facts) → Contains c.args.index.now other → other.number < e.number)) c.in-Some.is c.requires.behind)
    c.add.ensures.ok c.add.ensures.err
