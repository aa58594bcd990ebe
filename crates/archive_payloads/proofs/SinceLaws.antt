-- Which captures are answered to be damaged: none that was looked at before.
use Rattle.std.proofs.Common.{◌≡◌, ℕ, Result, Ok, Err, sym, subst}
use Rattle.std.specs.Prelude.{IsErrAnd}
use Rattle.archive_shelf.specs.declared.fault.StoreFault.{StoreFault}
use Rattle.archive_shelf.specs.declared.fault.StoreFault.TheVariants as stores
use Rattle.archive_payloads.specs.Choosing.{NoneDamagedBelow}

since_of : (T U : Type 0) (from : ℕ) (fault : StoreFault) → NoneDamagedBelow {T = T} from (Err fault) → NoneDamagedBelow {T = U} from (Err fault)
since_of T U from (stores.Full count limit) since = tt
since_of T U from stores.DiskFault since = tt
since_of T U from (stores.Damaged at kept found) since = since
since_of T U from stores.Memory since = tt

-- a fault that a `?` hands out
pub since_exit : (T U : Type 0) (from : ℕ) (fault : StoreFault) (answer : Result U StoreFault) → IsErrAnd answer (λ other. other ≡ fault)
    → NoneDamagedBelow {T = T} from (Err fault) → NoneDamagedBelow from answer
since_exit T U from fault (Ok value) is since = absurd is
since_exit T U from fault (Err other) is since =
    subst (λ (f : StoreFault). NoneDamagedBelow {T = U} from (Err f)) (sym is) (since_of T U from fault since)
