-- What the steps from an archive to the shelves of a crew say.
use Rattle.std.specs.Prelude.{◌≡◌, ◌≤◌, ℕ, IsTrue}
use Rattle.archive_shelf.specs.Contents.{Contents}
use Rattle.vault.specs.Members.{VaultName}

-- The vault was given an archive of which this is told, whose disk had counted so many faults, and of which a crash left its book alone,
-- no finished checkpoints but that book's, and what stood in its volumes.
pub record IsNameOf (vault : VaultName) (now : Contents) (faults : ℕ) : Type 0 where
  pub book : vault.book ≡ now.seen
  pub limits : vault.limits ≡ now.limits
  pub tells : vault.tells ≡ now.tells
  pub met : faults ≤ vault.faults
  pub calm : IsTrue vault.sure.calm
  pub right : IsTrue vault.sure.right
  pub lasts : IsTrue vault.sure.lasts
