-- What a `?` hands out.
use Rattle.std.proofs.Common.{◌≡◌, sym, subst}
use Rattle.std.specs.Prelude.{Option, Some, Result, Ok, Err, IsErrAnd}
use Rattle.http_head.specs.declared.head.WireFault.{WireFault}
use Rattle.http_wire.specs.HeldBodies.{fault_of}

-- what is known with the fault that came is known with the fault that the answer has
pub at_fault : {T : Type 0} (P : Option WireFault → Type 0) (fault : WireFault) (r : Result T WireFault) → IsErrAnd r (λ y. y ≡ fault)
    → P (Some fault) → P (fault_of r)
at_fault P fault (Ok x) is p = absurd is
at_fault P fault (Err y) is p = subst (λ f. P (Some f)) (sym is) p
