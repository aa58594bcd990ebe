-- The archive of the history that the last turn found.
use Rattle.std.proofs.Common.{subst}
use Rattle.history_lock.specs.Known.{Known}
use Rattle.history_lock.specs.Seen.{Shows}
use Rattle.vault_turns.specs.History.{by_of}
use Rattle.vault_turns.specs.declared.noted.Noted.{Noted}
use Rattle.vault.proofs.vault.Vault.close.Goals as goal

pub returns : goal.returns
returns g c = record {
  history = c.close.result.kept.history;
  shows = subst (λ (k : Known Noted). Shows by_of k.passes k.numbers k.seen c.close.result.kept.history) c.into_known.ensures c.close.ensures;
  begun = c.into_archive.ensures.stands.begun;
  book_is = c.into_archive.ensures.stands.book;
  limits_are = c.into_archive.ensures.stands.limits;
  told_is = c.into_archive.ensures.stands.told;
  counted = c.into_archive.ensures.counted;
  calm = c.into_archive.ensures.calm;
  right = c.into_archive.ensures.right;
  lasts = c.into_archive.ensures.lasts;
}
