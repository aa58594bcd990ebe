-- What is heard of a connection that a gate gave, and that it was hung up.
use Rattle.std.proofs.Common.{◌≡◌, ℕ, ap, ◌∙◌}
use Rattle.command.specs.Gates.{unheard}
use Rattle.outside.proofs.HangUps.{connections_hung_up_are_logged}
use Rattle.outside.specs.Gate.{Connections, heard_of, one_given, one_hung_up, one_served}
use Rattle.outside.specs.Link.{IsFresh, Traffic}
use Rattle.outside.specs.declared.gate.Heard.{Heard}

-- on a fresh link nothing was heard yet
pub nothing_heard : (traffic : Traffic) (faults : ℕ) → IsFresh traffic → faults ≡ 0 → heard_of traffic faults ≡ unheard
nothing_heard traffic faults fresh none = ap (λ (t : Traffic). heard_of t faults) fresh ∙ ap (λ (n : ℕ). record unheard { faults = n }) none

-- the connection that was given and hung up is all that was gained
pub served_and_hung_up : (before given now : Connections) (heard : Heard) → given ≡ one_given before
    → now ≡ one_hung_up given heard → now ≡ one_served before heard
served_and_hung_up before given now heard was is =
    is ∙ ap (λ (c : Connections). one_hung_up c heard) was ∙ connections_hung_up_are_logged before heard
