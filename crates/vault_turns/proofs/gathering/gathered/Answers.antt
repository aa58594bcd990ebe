use Rattle.std.proofs.Common.{refl}
use Rattle.vault_turns.proofs.GatherLaws.{gathered_is}
use Rattle.vault_turns.proofs.gathering.gathered.Goals as goal

pub returns : goal.returns
returns g c = gathered_is c.args.archive.now.told c.args.archive.now.book c.args.archive.now.index c.in_ok-index.index c.in_ok-index.ensures c.len.ensures.index
    (λ told. c.shows_its_book.ensures.shows.consistent.shown refl told)
