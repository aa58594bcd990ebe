-- A server may move to another thread where its disk and its vault's name may, and its runtime may be shared.
use denote.RattleType.{RattleType}
use denote.Ref.{NamedLft}
use denote.Param.Send.{IsSend, IsSync, sendable}
use Rattle.std.proofs.Crossing.{crosses}
use Rattle.disk_model.specs.declared.disk.Disk.{Ghosts}
use Rattle.outside.proofs.memory.dialer.MemoryDialer.TheSendSync as dialer
use Rattle.outside.proofs.memory.clock.MemoryClock.TheSendSync as clock
use Rattle.vault.specs.declared.naming.Naming.{Ghosts as Names}
use Rattle.vault.proofs.Moving.{at_send}
use Rattle.bench_stock.specs.contracts.connections.Connection as connection
use Rattle.bench_vault.specs.contracts.loads.Load as load
use Rattle.bench_vault.specs.contracts.passes.Server as server

connection_send : IsSend connection.the_row
connection_send = let d = dialer.the_send in let c = clock.the_send in search (sendable, crosses) depth 40

load_send : IsSend load.the_row
load_send = let c = connection_send in search (sendable, crosses) depth 40

pub server_send : (κ : NamedLft) (R D N : RattleType) (g : Ghosts D.Denot) (n : Names N.Denot) → IsSync R → IsSend D → IsSend N → IsSend (server.the_row κ R D N g n)
server_send κ R D N g n r s j =
    let a = at_send κ R D N g n r s j in
    let l = load_send in
    let at_owned = a.owned in
    let load_owned = l.owned in
    search (sendable, crosses, at_owned, load_owned) depth 40
