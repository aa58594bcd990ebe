-- The entries that items bring, as an index has them.
use Rattle.std.proofs.Common.{◌≡◌, ◌≢◌, ℕ, ◌==◌, Bool, true, false, List, [], ◌∷◌, ◌++◌, Option, None, Some, cond, refl, sym, ap, subst, ◌∙◌, arith}
use Rattle.std.specs.Prelude.{option_to_list}
use Rattle.std.specs.Option.{option_map_or}
use Rattle.std.proofs.lemmas.Bool.Decides.{nat_tests}
use Rattle.std.proofs.lemmas.List.{append-nil, append_assoc}
use Rattle.index_entry.specs.Facts.{Facts}
use Rattle.index_entry.specs.Order.{comes_before, with_entry}
use Rattle.index_entry.specs.Queries.{with_number}
use Rattle.index_snapshot.specs.Entries.{HasEntries, IsNew, absorbed, entries_in}

-- ---- an entry more in an index

either_first : (fn en : Bool) (f e : Facts) (other : Option Facts) → (fn ≡ true → en ≡ true → ⊥) → cond fn (Some f) (cond en (Some e) other) ≡ cond en (Some e) (cond fn (Some f) other)
either_first true true f e other not_both = absurd (not_both refl refl)
either_first true false f e other not_both = refl
either_first false en f e other not_both = refl

put_before : (b : Bool) (number : ℕ) (e f : Facts) (others : List Facts) → ((f.number == number) ≡ true → (e.number == number) ≡ true → ⊥)
    → with_number number (with_entry e others) ≡ cond (e.number == number) (Some e) (with_number number others)
    → with_number number (cond b (f ∷ with_entry e others) (e ∷ f ∷ others)) ≡ cond (e.number == number) (Some e) (with_number number (f ∷ others))
put_before true number e f others not_both later = ap (λ o. cond (f.number == number) (Some f) o) later ∙ either_first (f.number == number) (e.number == number) f e (with_number number others) not_both
put_before false number e f others not_both later = refl

first_apart : (b : Bool) (e f : Facts) (others : List Facts) → (f.number == e.number) ≡ b → cond b (Some f) (with_number e.number others) ≡ None → (f.number ≢ e.number) × (with_number e.number others ≡ None)
first_apart true e f others is none = absurd (cc none)
first_apart false e f others is none = ((λ same. grind (arith, nat_tests)), none)

-- the entry of each number, when an entry of a new number was put in
pub number_put : (e : Facts) (index : List Facts) (number : ℕ) → with_number e.number index ≡ None → with_number number (with_entry e index) ≡ cond (e.number == number) (Some e) (with_number number index)
number_put e [] number none = refl
number_put e (f ∷ others) number none =
    let apart = first_apart (f.number == e.number) e f others refl none in
    put_before (comes_before f e) number e f others (λ is is₂. apart.0 (grind (arith, nat_tests))) (number_put e others number apart.1)

-- ---- an entry more behind a list

behind : (f e : Facts) (others : List Facts) (number : ℕ) (b : Bool) → (f.number == number) ≡ b → ((f.number == e.number) ≡ true → ⊥)
    → with_number number (others ++ e ∷ []) ≡ cond (e.number == number) (Some e) (with_number number others)
    → cond b (Some f) (with_number number (others ++ e ∷ [])) ≡ cond (e.number == number) (Some e) (cond b (Some f) (with_number number others))
behind f e others number true is apart later = either_first true (e.number == number) f e (with_number number others) (λ t is₂. apart (grind (arith, nat_tests)))
behind f e others number false is apart later = later

-- the entry of each number, when an entry of a new number was put behind
pub number_behind : (e : Facts) (entries : List Facts) (number : ℕ) → with_number e.number entries ≡ None → with_number number (entries ++ e ∷ []) ≡ cond (e.number == number) (Some e) (with_number number entries)
number_behind e [] number none = refl
number_behind e (f ∷ others) number none =
    let apart = first_apart (f.number == e.number) e f others refl none in
    behind f e others number (f.number == number) refl (λ same. apart.0 (grind (arith, nat_tests))) (number_behind e others number apart.1)

-- ---- items

-- the entries of two lists of items
pub entries_joined : {E : Type 0} (brings : E → List Facts) (items more : List E) → entries_in brings (items ++ more) ≡ entries_in brings items ++ entries_in brings more
entries_joined brings [] more = refl
entries_joined brings (item ∷ items) more = ap (λ es. brings item ++ es) (entries_joined brings items more) ∙ sym (append_assoc (brings item) (entries_in brings items) (entries_in brings more))

-- the entries of a list with an item more
entries_more : {E : Type 0} (brings : E → List Facts) (items : List E) (item : E) (place : Option Facts) → brings item ≡ option_to_list place → entries_in brings (items ++ item ∷ []) ≡ entries_in brings items ++ option_to_list place
entries_more brings items item place brought =
    entries_joined brings items (item ∷ []) ∙ ap (λ es. entries_in brings items ++ es) (append-nil (brings item) ∙ brought)

absorbed_one : (index entries : List Facts) (place : Option Facts) → HasEntries index entries → IsNew entries place → HasEntries (absorbed index place) (entries ++ option_to_list place)
absorbed_one index entries None has next number = has number ∙ ap (with_number number) (sym (append-nil entries))
absorbed_one index entries (Some e) has next number =
    let none : with_number e.number index ≡ None = has e.number ∙ next in
    ap (λ o. with_number number (option_map_or (λ h. index) o (with_entry e index))) none
    ∙ number_put e index number none
    ∙ ap (λ o. cond (e.number == number) (Some e) o) (has number)
    ∙ sym (number_behind e entries number next)

pub absorbed_has : {E : Type 0} (brings : E → List Facts) (index : List Facts) (items : List E) (item : E) (place : Option Facts) → HasEntries index (entries_in brings items) → brings item ≡ option_to_list place
    → IsNew (entries_in brings items) place → HasEntries (absorbed index place) (entries_in brings (items ++ item ∷ []))
absorbed_has brings index items item place has brought next =
    subst (HasEntries (absorbed index place)) (sym (entries_more brings items item place brought)) (absorbed_one index (entries_in brings items) place has next)
