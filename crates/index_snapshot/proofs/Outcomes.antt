-- What a test of an outcome tells.
use Rattle.std.proofs.Common.{◌≡◌, false, Option, None, Some, refl}
use Rattle.std.specs.Prelude.{OnOk, is_err, is_some}
use Rattle.std.specs.declared.result.Result.{Result}
use Rattle.std.specs.declared.result.Result.TheVariants.{Ok, Err}

pub at_ok : {T E : Type 0} (r : Result T E) (P : Type 0) → is_err r ≡ false → OnOk r P → P
at_ok (Ok x) P is p = p
at_ok (Err e) P is p = absurd (cc is)

pub none_at_false : {T : Type 0} (o : Option T) → is_some o ≡ false → o ≡ None
none_at_false None is = refl
none_at_false (Some x) is = absurd (cc is)
