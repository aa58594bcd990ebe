use Rattle.std.proofs.Common.{subst, sym}
use Rattle.logbook.specs.Pages.{Book as LogBook}
use Rattle.vault_turns.specs.History.{Names}
use Rattle.vault.proofs.JoinLaws.{joined_listed, shown_names}
use Rattle.vault.proofs.vault.Vault.join.Goals as goal

pub invariant_of-result : goal.invariant_of-result
invariant_of-result g c = (
  subst (λ (log : LogBook). Names c.join-known.result.seen log) (sym c.learn-2.ensures.of)
      (shown_names c.pass.inside.known.passes c.pass.inside.known.numbers c.pass.inside.known.seen c.join-known.result.seen c.pass.inside.viewer.of
      c.join-known.ensures.pass c.pass.invariant.0),
  joined_listed c.pass.inside.known.passes c.pass.inside.known.numbers c.other.inside.known.numbers c.pass.inside.known.seen c.other.inside.known.seen
      c.join-known.result.seen c.join-known.ensures.one c.join-known.ensures.pass c.join-known.ensures.other c.pass.inside.listed.note
      c.other.inside.listed.note c.longer.result.note c.pass.inside.listed.whole c.other.inside.listed.whole c.longer.result.whole c.pass.invariant.1
      c.other.invariant.1 c.longer.ensures.of c.longer.ensures.one c.longer.ensures.first c.longer.ensures.second c.longer.ensures.whole,
)
