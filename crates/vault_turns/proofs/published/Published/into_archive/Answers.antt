-- What a crash leaves of the archive is as sure as the history says.
use Rattle.std.proofs.Common.{subst}
use Rattle.vault_turns.specs.Calm.{StaysCalm, StaysRight, StaysStood}
use Rattle.vault_turns.specs.Guarded.{Publication}
use Rattle.vault_turns.proofs.published.Published.into_archive.Goals as goal

pub returns-clause-calm : goal.returns-clause-calm
returns-clause-calm g c = subst (λ (p : Publication _). StaysCalm g.D.Disk p.kept.history c.into_archive.result) c.self.view_is c.into_archive.ensures.calm

pub returns-clause-right : goal.returns-clause-right
returns-clause-right g c = subst (λ (p : Publication _). StaysRight g.D.Disk p.kept.history c.into_archive.result) c.self.view_is c.into_archive.ensures.right

pub returns-clause-lasts : goal.returns-clause-lasts
returns-clause-lasts g c = subst (λ (p : Publication _). StaysStood g.D.Disk p.kept.history c.into_archive.result) c.self.view_is c.into_archive.ensures.lasts
