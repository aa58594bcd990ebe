-- The texts of volumes go on where they stay, and where one more is begun.
use Rattle.std.proofs.Common.{ℕ, List, [], ◌∷◌, ◌++◌, sym, ◌∙◌, append-nil, length-append, arith}
use Rattle.std.specs.Prelude.{slice_index_or}
use Rattle.std.proofs.lemmas.List.{get_or_append_left}
use Rattle.archive_volumes.proofs.SpotLaws.{GoOn}

pub texts_go_on : (was : List (List ℕ)) (info : List ℕ) → GoOn was (was ++ info ∷ [])
texts_go_on was info = record {
  count = omega (arith, length-append was (info ∷ []));
  rest = λ k. [];
  each = λ k less. get_or_append_left was (info ∷ []) [] k less ∙ sym (append-nil (slice_index_or was k []));
}

pub texts_stay : (was : List (List ℕ)) → GoOn was was
texts_stay was = record { count = omega arith; rest = λ k. []; each = λ k less. sym (append-nil (slice_index_or was k [])) }
