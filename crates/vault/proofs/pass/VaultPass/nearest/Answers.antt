use Rattle.vault.proofs.AtLaws.{knows_seen}
use Rattle.vault_turns.proofs.TellingLaws.{on_ok}
use Rattle.vault.proofs.pass.VaultPass.nearest.Goals as goal

pub returns-clause-knows : goal.returns-clause-knows
returns-clause-knows c =
    on_ok c.find_nearest.result _ _ (λ seen. knows_seen c.growth_keeps_captures.ensures.keeps c.growth_keeps_captures.ensures.itself c.growth_keeps_captures.ensures.steps
    (record { known = c.self.inside.known; shown = c.find_nearest.new.viewer }) c.self.inside.listed.note c.self.inside.listed.whole c.self.invariant.1 seen)
    c.find_nearest.ensures.seen
