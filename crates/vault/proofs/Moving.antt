-- What lies behind a vault's lock may move between threads where its disk may, and so may a pass, and a pass at its vault.
use denote.RattleType.{RattleType}
use denote.Ref.{NamedLft}
use denote.Param.Send.{IsSend, IsSync, sendable}
use Rattle.std.proofs.Crossing.{crosses}
use Rattle.disk_model.specs.declared.disk.Disk.{Ghosts}
use Rattle.cdxj_index.proofs.index.Index.TheSendSync as index
use Rattle.revisit_table.proofs.digests.Digests.TheSendSync as digests
use Rattle.warc_journal.proofs.journal.Journal.TheSendSync as journal
use Rattle.archive_volumes.proofs.spot.Spot.TheSendSync as spot
use Rattle.archive_volumes.specs.contracts.held.Held as held
use Rattle.archive_volumes.specs.contracts.held.Shadow as shadow
use Rattle.archive_volumes.specs.contracts.stored_ghost.StoredGhost as stored
use Rattle.archive_volumes.specs.contracts.volumes.Volumes as volumes
use Rattle.archive_core.specs.contracts.archive.Archive as archive
use Rattle.shown.specs.contracts.shown.Shown as shown
use Rattle.history_lock.proofs.lock.HistoryLock.TheSendSync as lock
use Rattle.history_lock.proofs.pass.Pass.TheSendSync as pass
use Rattle.index_snapshot.proofs.publisher.Publisher.TheSendSync as publisher
use Rattle.index_snapshot.proofs.viewer.Viewer.TheSendSync as viewer
use Rattle.index_snapshot.proofs.note.Note.TheSendSync as note
use Rattle.vault_lists.specs.contracts.item.Item as item
use Rattle.vault.specs.contracts.at.At as at
use Rattle.vault_turns.specs.contracts.keeping.Keeping as keeping
use Rattle.vault.specs.contracts.pass.VaultPass as seated
use Rattle.vault_turns.specs.contracts.published.Published as published
use Rattle.vault.specs.contracts.vault.Vault as vault
use Rattle.vault.specs.declared.naming.Naming.{Ghosts as Names}

pub shown_send : (T : RattleType) → IsSend (shown.the_row T)
shown_send T = search (sendable, crosses) depth 40

pub stored_send : IsSend stored.the_row
stored_send = let w = shown_send in search (sendable, crosses) depth 40

pub shadow_send : IsSend shadow.the_row
shadow_send = let a = stored_send in search (sendable, crosses) depth 40

pub held_send : IsSend held.the_row
held_send = let a = shadow_send in search (sendable, crosses) depth 40

pub volumes_send : (D : RattleType) → IsSend D → IsSend (volumes.the_row D)
volumes_send D s = let a = held_send in let w = shown_send in let j = journal.the_send D s in search (sendable, crosses) depth 40

pub archive_send : (D : RattleType) (g : Ghosts D.Denot) → IsSend D → IsSend (archive.the_row D g)
archive_send D g s = let a = volumes_send D s in let i = index.the_send in let t = digests.the_send in let p = spot.the_send in let w = shown_send in search (sendable, crosses) depth 40

pub keeping_send : (D : RattleType) (g : Ghosts D.Denot) → IsSend D → IsSend (keeping.the_row D g)
keeping_send D g s = let a = archive_send D g s in search (sendable, crosses) depth 40

pub item_send : IsSend item.the_row
item_send = let a = held_send in let i = index.the_send in search (sendable, crosses) depth 40

pub published_send : (D : RattleType) (g : Ghosts D.Denot) → IsSend D → IsSend (published.the_row D g)
published_send D g s = let a = keeping_send D g s in let i = item_send in let p = publisher.the_send in search (sendable, crosses) depth 40

pub pass_send : IsSend seated.the_row
pass_send = let i = item_send in let v = viewer.the_send in let n = note.the_send in let p = pass.the_send in search (sendable, crosses) depth 40

pub vault_sync : (D : RattleType) (g : Ghosts D.Denot) → IsSend D → IsSync (vault.the_row D g)
vault_sync D g s = let a = published_send D g s in search (sendable, crosses, lock.the_sync) depth 40

-- a pass at its vault, of a name that may move too
pub at_send : (κ : NamedLft) (R D N : RattleType) (g : Ghosts D.Denot) (n : Names N.Denot) → IsSync R → IsSend D → IsSend N → IsSend (at.the_row κ R D N g n)
at_send κ R D N g n r s j = let p = pass_send in let v = vault_sync D g s in search (sendable, crosses) depth 40
