-- A range that is read in parts.
use Rattle.std.proofs.Common.{◌≡◌, ℕ, ◌+◌, ◌≤◌, List, ◌++◌, length, take, drop, ap, sym, ◌∙◌}
use Rattle.std.proofs.Math.Seq.{length-take-le, take-add, take-append_seam, drop-append_seam}
use Rattle.std.proofs.lemmas.List.{drop-drop}

-- a range that is read in two parts, of which the first stays
pub read_more : (file old rest : List ℕ) (at done place n : ℕ) → done ≤ length old → place ≡ at + done
    → take done old ≡ take done (drop at file)
    → take n rest ≡ take n (drop place file)
    → take (done + n) (take done old ++ rest) ≡ take (done + n) (drop at file)
read_more file old rest at done place n inside is_place e more =
    let len : length (take done old) ≡ done = length-take-le done old inside
    in let front : take done (take done old ++ rest) ≡ take done old =
    ap (λ k. take k (take done old ++ rest)) (sym len) ∙ take-append_seam (take done old) rest
    in let back : drop done (take done old ++ rest) ≡ rest =
    ap (λ k. drop k (take done old ++ rest)) (sym len) ∙ drop-append_seam (take done old) rest
    in let behind : drop done (drop at file) ≡ drop place file = drop-drop done at file ∙ ap (λ k. drop k file) (sym is_place)
    in take-add done n (take done old ++ rest)
    ∙ ap (λ xs. xs ++ take n (drop done (take done old ++ rest))) (front ∙ e)
    ∙ ap (λ xs. take done (drop at file) ++ take n xs) back
    ∙ ap (λ xs. take done (drop at file) ++ xs) (more ∙ ap (take n) (sym behind))
    ∙ sym (take-add done n (drop at file))
