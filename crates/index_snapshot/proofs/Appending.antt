-- An item is added behind all that was appended.
use Rattle.std.proofs.Common.{◌≡◌, List, [], ◌∷◌, ◌++◌, fold, refl, sym, ap, subst, ◌∙◌}
use Rattle.std.specs.Prelude.{option_to_list}
use Rattle.std.proofs.lemmas.List.{append-nil}
use Rattle.index_entry.specs.Facts.{Facts}
use Rattle.index_snapshot.specs.Edges.{Edge, with_item}
use Rattle.index_snapshot.specs.Entries.{IsNew, absorbed, entries_in}
use Rattle.index_snapshot.specs.Listings.{IsOf}
use Rattle.index_snapshot.specs.Publishing.{IsAt, State, applied}
use Rattle.index_snapshot.specs.declared.listing.Addition.{Addition}
use Rattle.index_snapshot.proofs.Bringing.{absorbed_has}

fold_behind : {E : Type 0} (s : State E) (ops : List (Addition E)) (op : Addition E) → fold applied s (ops ++ op ∷ []) ≡ applied (fold applied s ops) op
fold_behind s [] op = refl
fold_behind s (o ∷ ops) op = fold_behind (applied s o) ops op

-- what the copies lack gives the longer list, where it gave the list before
pub appended : {E : Type 0} (brings : E → List Facts) (Fits : List E → Type 0) (s : State E) (old new : List (Addition E)) (full longer : Edge E) (op : Addition E) (item : E)
    → IsAt brings Fits (fold applied s (old ++ [])) full → new ≡ old ++ op ∷ [] → longer ≡ with_item full item → op.note ≡ longer
    → brings item ≡ option_to_list op.place → IsNew (entries_in brings full.items) op.place → Fits (full.items ++ item ∷ [])
    → IsAt brings Fits (fold applied s new) longer
appended brings Fits s old new full longer op item was more grown note brought next fits =
    let before : IsAt brings Fits (fold applied s old) full = subst (λ ops. IsAt brings Fits (fold applied s ops) full) (append-nil old) was in
    let has : IsOf brings Fits (absorbed (fold applied s old).0 op.place) (full.items ++ item ∷ []) = record { has = absorbed_has brings (fold applied s old).0 full.items item op.place before.0.has brought next; fits = fits } in
    let all : IsOf brings Fits (absorbed (fold applied s old).0 op.place) longer.items = subst (λ (e : Edge _). IsOf brings Fits (absorbed (fold applied s old).0 op.place) e.items) (sym grown) has in
    subst (λ t. IsAt brings Fits t longer) (sym (ap (fold applied s) more ∙ fold_behind s old op)) (all, note)
