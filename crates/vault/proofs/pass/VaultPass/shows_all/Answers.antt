-- The pass's history names both lists.
use Rattle.std.proofs.Common.{ap, ◌∙◌}
use Rattle.index_snapshot.specs.Edges.{Edge}
use Rattle.vault_lists.specs.declared.item.Item.{Item}
use Rattle.vault_turns.proofs.SeenLaws.{names_one}
use Rattle.vault.proofs.pass.VaultPass.shows_all.Goals as goal

pub begins-requires : goal.begins-requires
begins-requires c =
    ap (λ (note : Edge Item). note.of) c.note-shown.ensures
    ∙ names_one c.self.inside.known.seen c.self.inside.listed.note.of c.self.inside.viewer.of c.self.invariant.1.named c.self.invariant.0
