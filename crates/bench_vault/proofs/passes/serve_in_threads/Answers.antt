use denote.Ref.{NamedLft}
use denote.Param.Send.{sendable}
use Rattle.std.proofs.Crossing.{crosses}
use Rattle.bench_vault.proofs.Moving.{server_send}
use Rattle.bench_vault.proofs.passes.serve_in_threads.Goals as goal

pub for_each_mut-requires-send-T : goal.for_each_mut-requires-send-T
for_each_mut-requires-send-T g c κs within =
    let a = λ (κ : NamedLft). server_send κ _ _ _ g.D.Disk g.J.Naming c.type_bounds.sync-R c.type_bounds.send-D c.type_bounds.send-J in
    search (sendable, crosses, a) depth 20
