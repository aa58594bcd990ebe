use Rattle.std.proofs.Common.{◌≡◌, List}
use Rattle.std.specs.Vec.Iter.{into_iter_items, into_iter_len}
use Rattle.std.specs.List.{All}
use Rattle.vault.specs.Members.{IsMember}
use Rattle.vault.specs.Sharing.{IsShownIn}
use Rattle.vault_turns.specs.declared.noted.Noted.{Noted}
use Rattle.vault.proofs.vault.Vault.join_all.Given as goal

-- however what is left is shown, all are shown so
abbrev pub invariant-joining : goal.invariant-joining
invariant-joining g l =
    record {
      lock : l.joined.known.lock ≡ g.J.Naming.vault.lock;
      count : l.joined.known.passes ≡ g.J.Naming.vault.passes;
      members : All (λ p. IsMember g.J.Naming.vault p.known) (into_iter_items l.rest);
      shown : (history : List Noted) → IsShownIn history l.joined → All (IsShownIn history) (into_iter_items l.rest)
          → All (IsShownIn history) l.fn.passes.items;
    }

abbrev pub decreases-joining : goal.decreases-joining
decreases-joining g l = into_iter_len l.rest
