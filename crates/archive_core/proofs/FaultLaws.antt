-- An archive that is full, or has no memory, answers no damage.
use Rattle.std.proofs.Common.{◌≡◌, ℕ, Result, Err}
use Rattle.std.specs.Prelude.{IsErrAnd, ⊤}
use Rattle.archive_shelf.specs.Contents.{Contents}
use Rattle.archive_shelf.specs.declared.fault.StoreFault.{StoreFault}
use Rattle.archive_shelf.specs.declared.fault.StoreFault.TheVariants as stores
use Rattle.archive_payloads.proofs.SinceLaws.{since_exit}
use Rattle.archive_payloads.specs.Choosing.{NoneDamagedBelow}
use Rattle.archive_core.specs.Stores.{Admits}

since_full : (T : Type 0) (now : Contents) (from : ℕ) (fault : StoreFault) → Admits {T = ⊤} now (Err fault) → NoneDamagedBelow {T = T} from (Err fault)
since_full T now from (stores.Full count limit) full = tt
since_full T now from stores.DiskFault full = absurd full
since_full T now from (stores.Damaged at kept found) full = absurd full
since_full T now from stores.Memory full = absurd full

-- it is full, which a `?` hands out
pub full_since : (T : Type 0) (now : Contents) (from : ℕ) (fault : StoreFault) (answer : Result T StoreFault) → IsErrAnd answer (λ other. other ≡ fault)
    → Admits {T = ⊤} now (Err fault) → NoneDamagedBelow from answer
full_since T now from fault answer is full = since_exit T T from fault answer is (since_full T now from fault full)

-- there was no memory
pub memory_since : (T : Type 0) (from : ℕ) (answer : Result T StoreFault) → IsErrAnd answer (λ other. other ≡ stores.Memory) → NoneDamagedBelow from answer
memory_since T from answer is = since_exit T T from stores.Memory answer is tt
