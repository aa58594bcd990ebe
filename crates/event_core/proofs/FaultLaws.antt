-- How the count of faults rises.
use Rattle.std.proofs.Common.{◌≡◌, ℕ, ◌+◌, ◌≤◌, List, [], ◌∷◌, ◌++◌, Result, Ok, Err, sym, subst, arith}
use Rattle.capture.specs.Faults.{RoseBy}
use Rattle.capture.specs.declared.captured.Brought.{Brought}
use Rattle.checkpoint.specs.Faults.{CountsDisk}
use Rattle.checkpoint.specs.declared.fault.CheckpointFault.{CheckpointFault}
use Rattle.checkpoint.specs.declared.fault.CheckpointFault.TheVariants as checkpoints
use Rattle.archive_shelf.specs.Answers.{CountsIf, is_bring_fault, is_store_fault}
use Rattle.archive_shelf.specs.declared.fault.BringFault.{BringFault}
use Rattle.archive_shelf.specs.declared.fault.BringFault.TheVariants as brings
use Rattle.archive_shelf.specs.declared.fault.ReopenFault.{ReopenFault}
use Rattle.archive_shelf.specs.declared.fault.ReopenFault.TheVariants as reopens
use Rattle.archive_shelf.specs.declared.fault.RollFault.{RollFault}
use Rattle.archive_shelf.specs.declared.fault.RollFault.TheVariants as rolls
use Rattle.archive_shelf.specs.declared.fault.StoreFault.{StoreFault}
use Rattle.archive_shelf.specs.declared.fault.StoreFault.TheVariants as stores
use Rattle.archive_shelf.specs.declared.receipt.Receipt.{Receipt}
use Rattle.archive_taking.specs.Rolling.{is_roll_fault}
use Rattle.archive_gathering.specs.Refusing.{CountsFault}
use Rattle.event_core.specs.Events.{bring_reply, roll_reply, settle_reply, store_reply}
use Rattle.event_core.specs.Faults.{disk_faults, reopen_faults, reply_faults}
use Rattle.event_core.specs.declared.reply.Reply.{Reply}

pub not_less : (before now : ℕ) → before ≤ now → RoseBy 0 before now
not_less before now le = omega (arith, le)

pub rose_same : (before now : ℕ) → now ≡ before → RoseBy 0 before now
rose_same before now same = omega (arith, same)

-- the count rises by the sum
pub rose_on : (a b x y z : ℕ) → RoseBy a x y → RoseBy b y z → RoseBy (a + b) x z
rose_on a b x y z first next = omega (arith, first, next)

-- faults in between don't make it fall
pub rose_past : (a b x y z : ℕ) → RoseBy a x y → RoseBy b y z → RoseBy b x z
rose_past a b x y z first next = omega (arith, first, next)

pub store_counts : (result : Result Receipt StoreFault) (before now : ℕ) → CountsIf (is_store_fault result) before now
    → RoseBy (reply_faults (store_reply result)) before now
store_counts (Ok receipt) before now h = rose_same before now h
store_counts (Err (stores.Full count limit)) before now h = rose_same before now h
store_counts (Err stores.DiskFault) before now h = h.1
store_counts (Err (stores.Damaged number kept found)) before now h = rose_same before now h
store_counts (Err stores.Memory) before now h = rose_same before now h

pub bring_counts : (result : Result Brought BringFault) (before now : ℕ) → CountsIf (is_bring_fault result) before now
    → RoseBy (reply_faults (bring_reply result)) before now
bring_counts (Ok brought) before now h = rose_same before now h
bring_counts (Err (brings.NoSuch count)) before now h = rose_same before now h
bring_counts (Err brings.DiskFault) before now h = h.1
bring_counts (Err (brings.Damaged at kept found)) before now h = rose_same before now h
bring_counts (Err brings.Memory) before now h = rose_same before now h

pub roll_counts : {T : Type 0} (result : Result T RollFault) (before now : ℕ) → CountsIf (is_roll_fault result) before now
    → RoseBy (reply_faults (roll_reply result)) before now
roll_counts (Ok done) before now h = rose_same before now h
roll_counts (Err rolls.DiskFault) before now h = h.1
roll_counts (Err rolls.Memory) before now h = rose_same before now h

pub settle_counts : (result : Result ℕ CheckpointFault) (before now : ℕ) → CountsDisk before now result → RoseBy (reply_faults (settle_reply result)) before now
settle_counts (Ok written) before now h = rose_same before now h
settle_counts (Err checkpoints.DiskFault) before now h = h.1
settle_counts (Err checkpoints.Memory) before now h = rose_same before now h

pub reopen_counts : (fault : ReopenFault) (before now : ℕ) → CountsFault before now fault → RoseBy (reopen_faults fault) before now
reopen_counts (reopens.Damaged kind file place) before now h = rose_same before now h
reopen_counts (reopens.OtherNamespace other) before now h = rose_same before now h
reopen_counts reopens.DiskFault before now h = h
reopen_counts reopens.Memory before now h = rose_same before now h

-- with one reply more
pub faults_push : (replies : List Reply) (reply : Reply) → disk_faults (replies ++ reply ∷ []) ≡ disk_faults replies + reply_faults reply
faults_push [] reply = omega arith
faults_push (first ∷ others) reply = omega (arith, faults_push others reply)

pub rose_push : (replies all : List Reply) (reply : Reply) (x y z : ℕ) → all ≡ replies ++ reply ∷ [] → RoseBy (disk_faults replies) x y
    → RoseBy (reply_faults reply) y z → RoseBy (disk_faults all) x z
rose_push replies all reply x y z same first next =
    subst (λ (l : List Reply). RoseBy (disk_faults l) x z) (sym same)
    (subst (λ (n : ℕ). RoseBy n x z) (sym (faults_push replies reply)) (rose_on (disk_faults replies) (reply_faults reply) x y z first next))
