use Rattle.vault.specs.Company.{Passing}
use Rattle.std.proofs.Common.{IsTrue, subst}
use Rattle.vault_turns.specs.History.{is_told, told_book}
use Rattle.vault_turns.specs.Listing.{HasEntries}
use Rattle.vault.proofs.pass.VaultPass.has_entries.Goals as goal

pub returns : goal.returns
returns c = subst (λ (p : Passing). IsTrue (is_told p.known.seen) → HasEntries (told_book p.known.seen)) c.self.view_is c.self.invariant.1.entries
