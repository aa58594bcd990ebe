-- The book that is held, as volumes and captures are added.
use Rattle.std.proofs.Common.{◌≡◌, ℕ, Bool, not, nat_eq, List, [], ◌∷◌, ◌++◌, length, map, Option, Some, option_to_list, refl, ap, sym, ◌∙◌}
use Rattle.std.proofs.lemmas.List.{length-map, map-append}
use Rattle.capture.specs.declared.book.Volume.{Volume}
use Rattle.capture.specs.declared.captured.Stored.{Stored}
use Rattle.archive_volumes.specs.Held.{is_filled, stored_in, volume_of}
use Rattle.archive_shelf.specs.Storing.{add_to_last, new_volume}
use Rattle.archive_volumes.specs.declared.held.Shadow.{Shadow}
use Rattle.archive_volumes.specs.declared.stored_ghost.StoredGhost.{StoredGhost}

-- a capture more in the last volume
pub add_behind : (sealed : List Volume) (last : Volume) (stored : Stored)
    → add_to_last (sealed ++ last ∷ []) stored ≡ sealed ++ record { born = last.born; captures = last.captures ++ stored ∷ [] } ∷ []
add_behind [] last stored = refl
add_behind (first ∷ []) last stored = refl
add_behind (first ∷ next ∷ others) last stored = ap (λ (behind : List Volume). first ∷ behind) (add_behind (next ∷ others) last stored)

-- a volume more, behind the one that was the last
pub volume_behind : (sealed after : List Shadow) (last : Option Shadow) (volume : Shadow) (born : ℕ)
    → after ≡ sealed ++ option_to_list last → volume_of volume ≡ new_volume born
    → map volume_of after ++ volume_of volume ∷ [] ≡ (map volume_of sealed ++ map volume_of (option_to_list last)) ++ new_volume born ∷ []
volume_behind sealed after last volume born items is =
    ap (λ (l : List Shadow). map volume_of l ++ volume_of volume ∷ []) items
    ∙ ap (λ (l : List Volume). l ++ volume_of volume ∷ []) (map-append volume_of sealed (option_to_list last))
    ∙ ap (λ (v : Volume). (map volume_of sealed ++ map volume_of (option_to_list last)) ++ v ∷ []) is

-- a capture more behind those of the last volume
pub capture_behind : (sealed : List Shadow) (born : ℕ) (before after : List StoredGhost) (noted : StoredGhost) (stored : Stored)
    → after ≡ before ++ noted ∷ [] → stored_in noted ≡ stored
    → map volume_of sealed ++ record { born = born; captures = map stored_in after } ∷ []
    ≡ add_to_last (map volume_of sealed ++ record { born = born; captures = map stored_in before } ∷ []) stored
capture_behind sealed born before after noted stored items value =
    let front : List Volume = map volume_of sealed in
    let old : List Stored = map stored_in before in
    let captures : map stored_in after ≡ old ++ stored ∷ [] =
    ap (λ (l : List StoredGhost). map stored_in l) items
    ∙ map-append stored_in before (noted ∷ [])
    ∙ ap (λ (v : Stored). old ++ v ∷ []) value in
    ap (λ (l : List Stored). front ++ record { born = born; captures = l } ∷ []) captures
    ∙ sym (add_behind front (record { born = born; captures = old }) stored)

-- whether the last volume holds a capture
last_filled : (front : List Volume) (last : Volume) → is_filled (front ++ last ∷ []) ≡ not (nat_eq (length last.captures) 0)
last_filled [] last = refl
last_filled (first ∷ []) last = refl
last_filled (first ∷ next ∷ others) last = last_filled (next ∷ others) last

pub is_filled_last : (sealed : List Shadow) (last : Option Shadow) (shadow : Shadow) (empty : Bool) → last ≡ Some shadow
    → empty ≡ nat_eq (length shadow.captures.items) 0
    → not empty ≡ is_filled (map volume_of sealed ++ map volume_of (option_to_list last))
is_filled_last sealed last shadow empty is empty_is =
    ap not (empty_is ∙ sym (ap (λ (n : ℕ). nat_eq n 0) (length-map shadow.captures.items stored_in)))
    ∙ sym (last_filled (map volume_of sealed) (volume_of shadow))
    ∙ sym (ap (λ (l : Option Shadow). is_filled (map volume_of sealed ++ map volume_of (option_to_list l))) is)
