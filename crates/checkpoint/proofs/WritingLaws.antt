-- What writing a checkpoint leaves, of what putting its text leaves.
use Rattle.std.proofs.Common.{◌≡◌, ℕ, List, ◌++◌, refl, sym, ap, subst, ◌∙◌, arith}
use Rattle.std.proofs.lemmas.List.{append_assoc}
use Rattle.capture.specs.Tails.{IsCommitted}
use Rattle.cdxj_line.specs.declared.line.Line.{Line}
use Rattle.checkpoint.specs.Checkpoints.{checkpoint_text}

-- two texts that were put
pub two_put : (out first second mid new : List ℕ) → mid ≡ out ++ first → new ≡ mid ++ second → new ≡ out ++ (first ++ second)
two_put out first second mid new p q = q ∙ ap (λ (l : List ℕ). l ++ second) p ∙ append_assoc out first second

-- the text of a checkpoint begins with the commit byte, and more stands behind that
pub is_committed : (lines : List Line) (text : List ℕ) → text ≡ checkpoint_text lines → IsCommitted 33 text
unfolding checkpoint_text
is_committed lines text is = subst (IsCommitted 33) (sym is) (record { begins = refl; more = omega arith })
