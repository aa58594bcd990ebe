-- The status behind the last settling.
use Rattle.std.proofs.Common.{◌≡◌, ◌≢◌, ◌⊎◌, ℕ, Result, Ok, Err, sym, subst, ◌∙◌, inl, inr}
use Rattle.checkpoint.specs.declared.fault.CheckpointFault.{CheckpointFault}
use Rattle.checkpoint.specs.declared.fault.CheckpointFault.TheVariants as checkpoints
use Rattle.command.specs.Settling.{settled_status}
use Rattle.command.specs.declared.status.Status.{Status}
use Rattle.command.specs.declared.status.Status.TheVariants.{Done, Memory}

-- where memory was wanting before, that is told
pub memory_told : (answer : Result ℕ CheckpointFault) (said status : Status) → status ≡ settled_status answer said → said ≡ Memory → status ≡ Memory
memory_told (Ok written) said status is lacks = is ∙ lacks
memory_told (Err checkpoints.DiskFault) said status is lacks = is ∙ lacks
memory_told (Err checkpoints.Memory) said status is lacks = is

-- what isn't want of memory is the status from before
pub said_by : (answer : Result ℕ CheckpointFault) (said status : Status) → status ≡ settled_status answer said → status ≢ Memory → status ≡ said
said_by (Ok written) said status is some = is
said_by (Err checkpoints.DiskFault) said status is some = is
said_by (Err checkpoints.Memory) said status is some = absurd (some is)

-- it is Done or Memory where the one before was, or another that is named
pub settled_answered : (X : Status → Type 0) (answer : Result ℕ CheckpointFault) (said status : Status) → status ≡ settled_status answer said
    → (said ≡ Done) ⊎ (said ≡ Memory) ⊎ X said → (status ≡ Done) ⊎ (status ≡ Memory) ⊎ X status
settled_answered X (Ok written) said status is answered = subst (λ (s : Status). (s ≡ Done) ⊎ (s ≡ Memory) ⊎ X s) (sym is) answered
settled_answered X (Err checkpoints.DiskFault) said status is answered = subst (λ (s : Status). (s ≡ Done) ⊎ (s ≡ Memory) ⊎ X s) (sym is) answered
settled_answered X (Err checkpoints.Memory) said status is answered = inr (inl is)

pub settled_well : (answer : Result ℕ CheckpointFault) (said status : Status) → status ≡ settled_status answer said → (said ≡ Done) ⊎ (said ≡ Memory)
    → (status ≡ Done) ⊎ (status ≡ Memory)
settled_well (Ok written) said status is well = subst (λ (s : Status). (s ≡ Done) ⊎ (s ≡ Memory)) (sym is) well
settled_well (Err checkpoints.DiskFault) said status is well = subst (λ (s : Status). (s ≡ Done) ⊎ (s ≡ Memory)) (sym is) well
settled_well (Err checkpoints.Memory) said status is well = inr is
