-- What a link's traffic keeps where it gives.
use Rattle.std.proofs.Common.{ap, ◌∙◌}
use Rattle.outside.specs.Link.{Traffic}
use Rattle.exchange.specs.Receiving.{Gives}

-- it gave some, and then some more
pub gives_on : (was then now : Traffic) → Gives was then → Gives then now → Gives was now
gives_on was then now first second = λ i. record {
  given = now.given;
  ended = now.ended;
  taken = (ap (λ (t : Traffic). t.taken) second ∙ ap (λ (t : Traffic). t.taken) first) i;
  failed_writes = (ap (λ (t : Traffic). t.failed_writes) second ∙ ap (λ (t : Traffic). t.failed_writes) first) i;
  host = (ap (λ (t : Traffic). t.host) second ∙ ap (λ (t : Traffic). t.host) first) i;
  port = (ap (λ (t : Traffic). t.port) second ∙ ap (λ (t : Traffic). t.port) first) i;
}
