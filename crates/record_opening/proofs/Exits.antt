-- What a `?` hands out.
use Rattle.std.proofs.Common.{◌≡◌, sym, subst, ◌∙◌}
use Rattle.std.specs.Prelude.{Result, Ok, Err, IfErr, IsErrAnd, IsErrOf}
use Rattle.record_opening.specs.declared.stop.Stop.{Stop}
use Rattle.record_opening.specs.declared.stop.Stop.TheVariants.{Open, Wrong}

abbrev failed : (V : Type 0) → Stop → Result V Stop
failed V stop = Err stop

same_stop : (V : Type 0) (a b : Stop) → failed V a ≡ failed V b → a ≡ b
same_stop V a b e = cc

-- where the stop that came is handed out, what is known of it is known of the answer
pub at_exit : {T : Type 0} (P : Stop → Type 0) (stop : Stop) (r : Result T Stop) → IsErrAnd r (λ y. y ≡ stop) → P stop → IfErr r P
at_exit P stop (Ok x) is p = absurd is
at_exit P stop (Err y) is p = subst P (sym is) p

-- and what is known where it was that the bytes end inside a text
pub at_open_exit : {T : Type 0} (P : Type 0) (stop : Stop) (r : Result T Stop) → IsErrAnd r (λ y. y ≡ stop) → (stop ≡ Open → P) → IsErrOf r Open → P
at_open_exit {T} P stop (Ok x) is p e = absurd is
at_open_exit {T} P stop (Err y) is p e = p (sym is ∙ same_stop T y Open e)

-- or that no such text stands there
pub at_wrong_exit : {T : Type 0} (P : Type 0) (stop : Stop) (r : Result T Stop) → IsErrAnd r (λ y. y ≡ stop) → (stop ≡ Wrong → P) → IsErrOf r Wrong → P
at_wrong_exit {T} P stop (Ok x) is p e = absurd is
at_wrong_exit {T} P stop (Err y) is p e = p (sym is ∙ same_stop T y Wrong e)
