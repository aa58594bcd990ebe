-- What a `?` hands out.
use Rattle.std.proofs.Common.{◌≡◌, sym, ◌∙◌}
use Rattle.std.specs.Prelude.{Result, Ok, Err, IsErrAnd, IsErrOf}
use Rattle.http_head.specs.declared.head.WireFault.{WireFault}
use Rattle.http_head.specs.declared.head.WireFault.TheVariants.{Malformed}

abbrev failed : (T : Type 0) → WireFault → Result T WireFault
failed T fault = Err fault

same_fault : (T : Type 0) (a b : WireFault) → failed T a ≡ failed T b → a ≡ b
same_fault T a b e = cc

-- what is known where the fault that came is Malformed is known where the answer has that
pub at_malformed : {T : Type 0} (P : Type 0) (fault : WireFault) (r : Result T WireFault) → IsErrAnd r (λ y. y ≡ fault) → (fault ≡ Malformed → P)
    → IsErrOf r Malformed → P
at_malformed {T} P fault (Ok x) is p e = absurd is
at_malformed {T} P fault (Err y) is p e = p (sym is ∙ same_fault T y Malformed e)
