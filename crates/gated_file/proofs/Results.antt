-- Facts at a result.
use Rattle.std.proofs.Common.{Result, Ok, Err, OnOk, OnErr}

pub on_ok_both : {T E P Q R : Type 0} (result : Result T E) → (P → Q → R) → OnOk result P → OnOk result Q → OnOk result R
on_ok_both (Ok v) gives p q = gives p q
on_ok_both (Err e) gives p q = tt

-- what holds, holds at a refusal
pub on_err : {T E : Type 0} (P : Type 0) (result : Result T E) → P → OnErr result P
on_err P (Ok v) p = tt
on_err P (Err e) p = p
