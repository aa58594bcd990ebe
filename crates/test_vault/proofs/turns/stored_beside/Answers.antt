use denote.Ref.{NamedLft}
use denote.Param.Send.{sendable}
use Rattle.std.proofs.Crossing.{crosses}
use Rattle.vault.proofs.Moving.{at_send}
use Rattle.test_vault.proofs.turns.stored_beside.Goals as goal

pub join-requires-send-F : goal.join-requires-send-F
join-requires-send-F g c κs within =
    let a = λ (κ : NamedLft). at_send κ _ _ _ g.D.Disk g.J.Naming c.type_bounds.sync-R c.type_bounds.send-D c.type_bounds.send-J in
    search (sendable, crosses, a) depth 20

pub join-requires-send-A : goal.join-requires-send-A
join-requires-send-A g c κs within =
    let a = λ (κ : NamedLft). at_send κ _ _ _ g.D.Disk g.J.Naming c.type_bounds.sync-R c.type_bounds.send-D c.type_bounds.send-J in
    search (sendable, crosses, a) depth 20
