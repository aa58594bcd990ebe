-- Files that begin with texts begin with those before.
use Rattle.std.proofs.Common.{◌≡◌, ◌≢◌, ℕ, ◌+◌, ◌-◌, ◌<◌, List, [], ◌∷◌, ◌++◌, length, get_or, sym, ap, ◌∙◌, arith, append_assoc, append-nil}
use Rattle.std.proofs.lemmas.Grind.{get_or-set_at}
use Rattle.std.proofs.lemmas.List.{get_or-set_other, get_or_append_left, length-set, length_push}
use Rattle.volume_scan.specs.Books.{AreFronts}
use Rattle.warc_journal.specs.Texts.{with_more}

-- without the last text
pub fronts_before : (texts files : List (List ℕ)) (text : List ℕ) → AreFronts (texts ++ text ∷ []) files → AreFronts texts files
fronts_before texts files text fronts =
    let count = length_push texts text in
    let sealed : (k : ℕ) → k < length texts → get_or files k [] ≡ get_or texts k [] =
    (λ k less. fronts.sealed k (omega (arith, less, count)) ∙ get_or_append_left texts (text ∷ []) [] k less) in
    record {
      enough = omega (arith, fronts.enough, count);
      sealed = λ k less. sealed k (omega (arith, less));
      last = λ k is. ([], sealed k (omega (arith, is)) ∙ sym (append-nil (get_or texts k [])));
    }

-- without what is added to the last one
pub fronts_before_more : (texts files : List (List ℕ)) (text : List ℕ) → 0 < length texts → AreFronts (with_more texts text) files → AreFronts texts files
fronts_before_more texts files text some fronts =
    let l = length texts - 1 in
    let more = get_or texts l [] ++ text in
    let count = length-set texts l more in
    record {
      enough = omega (arith, fronts.enough, count);
      sealed = λ k less.
          let other : k ≢ l = (λ e. omega (arith, e, less)) in
          fronts.sealed k (omega (arith, less, count)) ∙ get_or-set_other texts l k more [] other;
      last = λ k is.
          let at : k ≡ l = omega (arith, is) in
          let front = fronts.last k (omega (arith, is, count)) in (
            text ++ front.0,
            front.1
                ∙ ap (λ (t : List ℕ). t ++ front.0) (get_or-set_at texts l k more [] at (omega (arith, some)))
                ∙ append_assoc (get_or texts l []) text front.0
                ∙ ap (λ (j : ℕ). get_or texts j [] ++ (text ++ front.0)) (sym at),
          );
    }

-- the last text with more behind it
pub last_with_more : (texts : List (List ℕ)) (text : List ℕ) (k : ℕ) → k + 1 ≡ length texts → get_or (with_more texts text) k [] ≡ get_or texts k [] ++ text
last_with_more texts text k is =
    let l = length texts - 1 in
    let at : k ≡ l = omega (arith, is) in
    get_or-set_at texts l k (get_or texts l [] ++ text) [] at (omega (arith, is)) ∙ ap (λ (j : ℕ). get_or texts j [] ++ text) (sym at)
