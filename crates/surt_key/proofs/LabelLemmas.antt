-- A first label `www` is taken away from references to labels as it is from the labels.
use Rattle.std.proofs.Common.{◌≡◌, ℕ, true, false, List, [], ◌∷◌, ◌++◌, map, drop, reverse, Bor, cond, refl, ap, sym, ◌∙◌}
use Rattle.std.specs.List.{remove}
use Rattle.std.proofs.lemmas.List.{map_push, reverse-append}
use Rattle.surt_key.specs.Labels.{begins_with_www, without_www}

abbrev pub texts : List (Bor (List ℕ)) → List (List ℕ)
texts labels = map (λ l. l.now) labels

texts-remove_first : (labels : List (Bor (List ℕ))) → texts (remove labels 0) ≡ drop 1 (texts labels)
texts-remove_first [] = refl
texts-remove_first (first ∷ others) = refl

pub without_www-removed : (labels : List (Bor (List ℕ))) → begins_with_www (texts labels) ≡ true → texts (remove labels 0) ≡ without_www (texts labels)
without_www-removed labels h = texts-remove_first labels ∙ sym (ap (λ b. cond b (drop 1 (texts labels)) (texts labels)) h)

pub without_www-kept : (labels : List (Bor (List ℕ))) → begins_with_www (texts labels) ≡ false → texts labels ≡ without_www (texts labels)
without_www-kept labels h = sym (ap (λ b. cond b (drop 1 (texts labels)) (texts labels)) h)

pub texts-reverse : (labels : List (Bor (List ℕ))) → texts (reverse labels) ≡ reverse (texts labels)
texts-reverse [] = refl
texts-reverse (first ∷ others) =
    ap texts (reverse-append (first ∷ []) others) ∙ map_push (λ l. l.now) (reverse others) first
    ∙ ap (λ t. t ++ first.now ∷ []) (texts-reverse others) ∙ sym (reverse-append (first.now ∷ []) (texts others))
