-- What goes to a client, and what refusing its bytes leaves.
use Rattle.std.specs.Prelude.{◌≡◌, ◌≢◌, List, ◌++◌, ℕ}
use Rattle.exchange.specs.Writing.{GrowsByProperFront}
use Rattle.outside.specs.Calls.{one_more}
use Rattle.outside.specs.declared.gate.Heard.{Heard}

-- A text was written whole, and the link is whole.
pub record Writes (text : List ℕ) (then now : Heard) : Type 0 where
  pub same_given : now.given ≡ then.given
  pub same_end : now.ended ≡ then.ended
  pub written : now.written ≡ then.written ++ text
  pub unfailed : now.failed_writes ≡ then.failed_writes
  pub whole : now.faults ≡ 0

-- A text was written in part, since a write of it failed.
pub record Breaks (text : List ℕ) (then now : Heard) : Type 0 where
  pub same_given : now.given ≡ then.given
  pub part : GrowsByProperFront then.written now.written text
  pub broke : now.faults ≢ 0
  pub unwritten : now.failed_writes ≡ one_more then.failed_writes
