-- What a crash leaves of the archive is as sure as the history says.
use Rattle.std.proofs.Common.{subst}
use Rattle.vault_turns.specs.Calm.{StaysCalm, StaysRight, StaysStood}
use Rattle.vault_turns.specs.Guarded.{Guarded}
use Rattle.vault_turns.proofs.keeping.Keeping.into_archive.Goals as goal

pub returns-clause-calm : goal.returns-clause-calm
returns-clause-calm g c = subst (λ (kept : Guarded _). StaysCalm g.D.Disk kept.history c.self.inside.archive) c.self.view_is c.self.invariant.2

pub returns-clause-right : goal.returns-clause-right
returns-clause-right g c = subst (λ (kept : Guarded _). StaysRight g.D.Disk kept.history c.self.inside.archive) c.self.view_is c.self.invariant.3

pub returns-clause-lasts : goal.returns-clause-lasts
returns-clause-lasts g c = subst (λ (kept : Guarded _). StaysStood g.D.Disk kept.history c.self.inside.archive) c.self.view_is c.self.invariant.4
