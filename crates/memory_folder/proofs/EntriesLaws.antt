-- What is found among the entries of a folder in memory after one was changed.
use Rattle.std.proofs.Common.{◌≡◌, ◌≢◌, ◌<◌, ◌⊎◌, ℕ, zero, suc, ◌+◌, Bool, true, false, ◌||◌, if◌then◌else◌, IsTrue, Option, Some, None, List, [], ◌∷◌, ◌++◌, length, take, get_or, set, refl, sym, ap, ◌∙◌, subst, arith, ⊎_elim, inl, inr, true≢false}
use Rattle.std.specs.List.{Contains, IsDistinct, AllByRecursion, slice_index_or}
use Rattle.std.specs.Option.{option_map}
use Rattle.std.specs.Str.{bytes_eq}
use Rattle.std.proofs.lemmas.Option.{none-some, same_Some}
use Rattle.std.proofs.lemmas.Slice.Eq.{bytes_eq-Decides}
use Rattle.folder_model.specs.steps.FolderLaws.{names_cases}
use Rattle.memory_folder.specs.Standing.{is_sure}
use Rattle.memory_folder.specs.Entry.{Entry, entry_listed, all_listed, found, IsPlace, no_entry, changed, names_of, AreApart, is_left, left_entry, left_entries}
use Rattle.memory_folder.specs.declared.budget.Budget.{Budget}
use Rattle.memory_folder.specs.declared.standing.Standing.TheVariants.{Sure}

same_name : (name : List ℕ) → bytes_eq name name ≡ true
same_name name = (bytes_eq-Decides name name).1 refl

pick-true : {A : Type 0} (b : Bool) (x y : A) → b ≡ true → (if b then x else y) ≡ x
pick-true b x y is = ap (λ (c : Bool). if c then x else y) is

pick-false : {A : Type 0} (b : Bool) (x y : A) → b ≡ false → (if b then x else y) ≡ y
pick-false b x y is = ap (λ (c : Bool). if c then x else y) is

-- the first entry of the name, or those behind it
pub found-here : (entry : Entry) (others : List Entry) (name : List ℕ) → bytes_eq name entry.name ≡ true → found (entry ∷ others) name ≡ Some entry
found-here entry others name is = pick-true (bytes_eq name entry.name) (Some entry) (found others name) is

pub found-behind : (entry : Entry) (others : List Entry) (name : List ℕ) → bytes_eq name entry.name ≡ false → found (entry ∷ others) name ≡ found others name
found-behind entry others name is = pick-false (bytes_eq name entry.name) (Some entry) (found others name) is

bool_cases : (b : Bool) → (b ≡ true) ⊎ (b ≡ false)
bool_cases true = inl refl
bool_cases false = inr refl

-- where none of the name is before it, it is the place
pub place_from_before : (entries : List Entry) (name : List ℕ) (i : ℕ) (d : Entry) → i < length entries → found (take i entries) name ≡ None
    → bytes_eq name (get_or entries i d).name ≡ true → IsPlace entries name i
place_from_before [] name i d inside none here = absurd (omega (arith, inside))
place_from_before (entry ∷ others) name zero d inside none here = sym ((bytes_eq-Decides name entry.name).0 here)
place_from_before (entry ∷ others) name (suc i) d inside none here =
    ⊎_elim
    (λ is. absurd (none-some entry (sym none ∙ found-here entry (take i others) name is)))
    (λ is. (is, place_from_before others name i d (omega (arith, inside)) (sym (found-behind entry (take i others) name is) ∙ none) here))
    (bool_cases (bytes_eq name entry.name))

-- one more that isn't of the name
pub none_before : (entries : List Entry) (name : List ℕ) (i : ℕ) (d : Entry) → i < length entries → found (take i entries) name ≡ None
    → bytes_eq name (get_or entries i d).name ≡ false → found (take (suc i) entries) name ≡ None
none_before [] name i d inside none other = refl
none_before (entry ∷ others) name zero d inside none other = found-behind entry [] name other
none_before (entry ∷ others) name (suc i) d inside none other =
    ⊎_elim
    (λ is. absurd (none-some entry (sym none ∙ found-here entry (take i others) name is)))
    (λ is. found-behind entry (take (suc i) others) name is
    ∙ none_before others name i d (omega (arith, inside)) (sym (found-behind entry (take i others) name is) ∙ none) other)
    (bool_cases (bytes_eq name entry.name))

-- what stands at the place is found
pub found-place : (entries : List Entry) (name : List ℕ) (i : ℕ) (d : Entry) → IsPlace entries name i → found entries name ≡ Some (get_or entries i d)
found-place [] name i d place = absurd place
found-place (entry ∷ others) name zero d place = found-here entry others name ((bytes_eq-Decides name entry.name).1 (sym place))
found-place (entry ∷ others) name (suc i) d place = found-behind entry others name place.0 ∙ found-place others name i d place.1

-- the entry at the place is the one that is changed
pub changed-place : (change : Entry → Entry) (entries : List Entry) (name : List ℕ) (i : ℕ) (d : Entry) → IsPlace entries name i
    → set entries i (change (get_or entries i d)) ≡ changed change name entries
changed-place change [] name i d place = absurd place
changed-place change (entry ∷ others) name zero d place =
    sym (pick-true (bytes_eq name entry.name) (change entry ∷ others) (entry ∷ changed change name others) ((bytes_eq-Decides name entry.name).1 (sym place)))
changed-place change (entry ∷ others) name (suc i) d place =
    ap (λ (es : List Entry). entry ∷ es) (changed-place change others name i d place.1)
    ∙ sym (pick-false (bytes_eq name entry.name) (change entry ∷ others) (entry ∷ changed change name others) place.0)

-- where there is none, nothing is changed
pub changed-none : (change : Entry → Entry) (entries : List Entry) (name : List ℕ) → found entries name ≡ None → changed change name entries ≡ entries
changed-none change [] name none = refl
changed-none change (entry ∷ others) name none =
    ⊎_elim
    (λ is. absurd (none-some entry (sym none ∙ found-here entry others name is)))
    (λ is. pick-false (bytes_eq name entry.name) (change entry ∷ others) (entry ∷ changed change name others) is
    ∙ ap (λ (es : List Entry). entry ∷ es) (changed-none change others name (sym (found-behind entry others name is) ∙ none)))
    (bool_cases (bytes_eq name entry.name))

-- a change that leaves the name
abbrev pub KeepsName : (Entry → Entry) → Type 0
KeepsName change = (entry : Entry) → (change entry).name ≡ entry.name

pub found-changed : (change : Entry → Entry) → KeepsName change → (entries : List Entry) (name : List ℕ) → found (changed change name entries) name ≡ option_map change (found entries name)
found-changed change keeps [] name = refl
found-changed change keeps (entry ∷ others) name =
    ⊎_elim
    (λ is.
    ap (λ (es : List Entry). found es name) (pick-true (bytes_eq name entry.name) (change entry ∷ others) (entry ∷ changed change name others) is)
    ∙ found-here (change entry) others name (ap (λ (n : List ℕ). bytes_eq name n) (keeps entry) ∙ is)
    ∙ sym (ap (λ (o : Option Entry). option_map change o) (found-here entry others name is)))
    (λ is.
    ap (λ (es : List Entry). found es name) (pick-false (bytes_eq name entry.name) (change entry ∷ others) (entry ∷ changed change name others) is)
    ∙ found-behind entry (changed change name others) name is
    ∙ found-changed change keeps others name
    ∙ sym (ap (λ (o : Option Entry). option_map change o) (found-behind entry others name is)))
    (bool_cases (bytes_eq name entry.name))

found-cons : (entry : Entry) (one two : List Entry) (m : List ℕ) → found one m ≡ found two m → found (entry ∷ one) m ≡ found (entry ∷ two) m
found-cons entry one two m same = ap (λ (o : Option Entry). if bytes_eq m entry.name then Some entry else o) same

pub found-others : (change : Entry → Entry) → KeepsName change → (entries : List Entry) (name m : List ℕ) → m ≢ name → found (changed change name entries) m ≡ found entries m
found-others change keeps [] name m apart = refl
found-others change keeps (entry ∷ others) name m apart =
    ⊎_elim
    (λ is.
    let not_it : bytes_eq m entry.name ≡ false =
    ⊎_elim
    (λ same. absurd (apart (same.0 ∙ sym ((bytes_eq-Decides name entry.name).0 is))))
    (λ other. other.1)
    (names_cases m entry.name) in
    ap (λ (es : List Entry). found es m) (pick-true (bytes_eq name entry.name) (change entry ∷ others) (entry ∷ changed change name others) is)
    ∙ found-behind (change entry) others m (ap (λ (n : List ℕ). bytes_eq m n) (keeps entry) ∙ not_it)
    ∙ sym (found-behind entry others m not_it))
    (λ is.
    ap (λ (es : List Entry). found es m) (pick-false (bytes_eq name entry.name) (change entry ∷ others) (entry ∷ changed change name others) is)
    ∙ found-cons entry (changed change name others) others m (found-others change keeps others name m apart))
    (bool_cases (bytes_eq name entry.name))

from_none : {A B : Type 0} (f : A → B) (o : Option A) → o ≡ None → option_map f o ≡ None
from_none f o is = ap (λ (p : Option _). option_map f p) is

-- where none of a name was, none is after a change
none_changed : (change : Entry → Entry) → KeepsName change → (entries : List Entry) (name m : List ℕ) → found entries m ≡ None → found (changed change name entries) m ≡ None
none_changed change keeps entries name m none =
    ⊎_elim
    (λ same.
    subst (λ (n : List ℕ). found (changed change n entries) m ≡ None) same.0
    (found-changed change keeps entries m ∙ ap (λ (o : Option Entry). option_map change o) none))
    (λ other. found-others change keeps entries name m other.0 ∙ none)
    (names_cases m name)

pub apart-changed : (change : Entry → Entry) → KeepsName change → (entries : List Entry) (name : List ℕ) → AreApart entries → AreApart (changed change name entries)
apart-changed change keeps [] name apart = apart
apart-changed change keeps (entry ∷ others) name apart =
    ⊎_elim
    (λ is.
    subst AreApart (sym (pick-true (bytes_eq name entry.name) (change entry ∷ others) (entry ∷ changed change name others) is))
    (subst (λ (n : List ℕ). found others n ≡ None) (sym (keeps entry)) apart.0, apart.1))
    (λ is.
    subst AreApart (sym (pick-false (bytes_eq name entry.name) (change entry ∷ others) (entry ∷ changed change name others) is))
    (none_changed change keeps others name entry.name apart.0, apart-changed change keeps others name apart.1))
    (bool_cases (bytes_eq name entry.name))

-- all of them after a sync of the folder
pub found-listed : (done : Bool) (entries : List Entry) (name : List ℕ) → found (all_listed done entries) name ≡ option_map (entry_listed done) (found entries name)
found-listed done [] name = refl
found-listed done (entry ∷ others) name =
    ⊎_elim
    (λ is. found-here (entry_listed done entry) (all_listed done others) name is
    ∙ sym (ap (λ (o : Option Entry). option_map (entry_listed done) o) (found-here entry others name is)))
    (λ is. found-behind (entry_listed done entry) (all_listed done others) name is
    ∙ found-listed done others name
    ∙ sym (ap (λ (o : Option Entry). option_map (entry_listed done) o) (found-behind entry others name is)))
    (bool_cases (bytes_eq name entry.name))

pub apart-listed : (done : Bool) (entries : List Entry) → AreApart entries → AreApart (all_listed done entries)
apart-listed done [] apart = apart
apart-listed done (entry ∷ others) apart = (
  found-listed done others entry.name ∙ ap (λ (o : Option Entry). option_map (entry_listed done) o) apart.0,
  apart-listed done others apart.1,
)

-- one more behind them
pub found-push_new : (entries : List Entry) (entry : Entry) → found entries entry.name ≡ None → found (entries ++ entry ∷ []) entry.name ≡ Some entry
found-push_new [] entry none = found-here entry [] entry.name (same_name entry.name)
found-push_new (first ∷ others) entry none =
    ⊎_elim
    (λ is. absurd (none-some first (sym none ∙ found-here first others entry.name is)))
    (λ is. found-behind first (others ++ entry ∷ []) entry.name is ∙ found-push_new others entry (sym (found-behind first others entry.name is) ∙ none))
    (bool_cases (bytes_eq entry.name first.name))

pub found-push_other : (entries : List Entry) (entry : Entry) (m : List ℕ) → m ≢ entry.name → found (entries ++ entry ∷ []) m ≡ found entries m
found-push_other [] entry m apart = found-behind entry [] m (⊎_elim (λ same. absurd (apart same.0)) (λ other. other.1) (names_cases m entry.name))
found-push_other (first ∷ others) entry m apart = found-cons first (others ++ entry ∷ []) others m (found-push_other others entry m apart)

pub apart-push : (entries : List Entry) (entry : Entry) → found entries entry.name ≡ None → AreApart entries → AreApart (entries ++ entry ∷ [])
apart-push [] entry none apart = (refl, tt)
apart-push (first ∷ others) entry none apart =
    ⊎_elim
    (λ is. absurd (none-some first (sym none ∙ found-here first others entry.name is)))
    (λ is. (
      found-push_other others entry first.name (λ same. true≢false (sym ((bytes_eq-Decides entry.name first.name).1 (sym same)) ∙ is)) ∙ apart.0,
      apart-push others entry (sym (found-behind first others entry.name is) ∙ none) apart.1,
    ))
    (bool_cases (bytes_eq entry.name first.name))

-- what a stop leaves of the entry of a name
abbrev pub left_found : Budget → Option Entry → Option Entry
left_found budget None = None
left_found budget (Some entry) = if is_left budget entry then Some (left_entry budget entry) else None

pub found-left : (budget : Budget) (entries : List Entry) → AreApart entries → (name : List ℕ) → found (left_entries budget entries) name ≡ left_found budget (found entries name)
found-left budget [] apart name = refl
found-left budget (entry ∷ others) apart name =
    let all = λ (es : List Entry). found es name in
    let here = left_entry budget entry ∷ left_entries budget others in
    let behind = left_entries budget others in
    ⊎_elim
    (λ left.
    ap all (pick-true (is_left budget entry) here behind left)
    ∙ ⊎_elim
    (λ is. found-here (left_entry budget entry) behind name is
    ∙ sym (ap (left_found budget) (found-here entry others name is) ∙ pick-true (is_left budget entry) (Some (left_entry budget entry)) None left))
    (λ is. found-behind (left_entry budget entry) behind name is ∙ found-left budget others apart.1 name ∙ sym (ap (left_found budget) (found-behind entry others name is)))
    (bool_cases (bytes_eq name entry.name)))
    (λ gone.
    ap all (pick-false (is_left budget entry) here behind gone)
    ∙ found-left budget others apart.1 name
    ∙ ⊎_elim
    (λ is.
    ap (left_found budget) (subst (λ (n : List ℕ). found others n ≡ None) (sym ((bytes_eq-Decides name entry.name).0 is)) apart.0)
    ∙ sym (ap (left_found budget) (found-here entry others name is) ∙ pick-false (is_left budget entry) (Some (left_entry budget entry)) None gone))
    (λ is. sym (ap (left_found budget) (found-behind entry others name is)))
    (bool_cases (bytes_eq name entry.name)))
    (bool_cases (is_left budget entry))

pub apart-left : (budget : Budget) (entries : List Entry) → AreApart entries → AreApart (left_entries budget entries)
apart-left budget [] apart = apart
apart-left budget (entry ∷ others) apart =
    ⊎_elim
    (λ left.
    subst AreApart (sym (pick-true (is_left budget entry) (left_entry budget entry ∷ left_entries budget others) (left_entries budget others) left))
    (found-left budget others apart.1 entry.name ∙ ap (left_found budget) apart.0, apart-left budget others apart.1))
    (λ gone.
    subst AreApart (sym (pick-false (is_left budget entry) (left_entry budget entry ∷ left_entries budget others) (left_entries budget others) gone))
    (apart-left budget others apart.1))
    (bool_cases (is_left budget entry))

cons_cases : (x z : List ℕ) (xs : List (List ℕ)) (k : ℕ) → k < length (x ∷ xs) → slice_index_or (x ∷ xs) k z ≡ z → (x ≡ z) ⊎ Contains xs z
cons_cases x z xs zero inside is = inl is
cons_cases x z xs (suc k) inside is = inr (k, omega (arith, inside), is)

-- the names are those that are found, each once
pub named_is_found : (entries : List Entry) (name : List ℕ) → Contains (names_of entries) name → found entries name ≢ None
named_is_found [] name has none = absurd (omega (arith, has.1))
named_is_found (entry ∷ others) name has none =
    ⊎_elim
    (λ is. none-some entry (sym none ∙ found-here entry others name is))
    (λ is.
    ⊎_elim
    (λ same. true≢false (sym ((bytes_eq-Decides name entry.name).1 (sym same)) ∙ is))
    (λ behind. named_is_found others name behind (sym (found-behind entry others name is) ∙ none))
    (cons_cases entry.name name (names_of others) has.0 has.1 has.2))
    (bool_cases (bytes_eq name entry.name))

pub found_is_named : (entries : List Entry) (name : List ℕ) → found entries name ≢ None → Contains (names_of entries) name
found_is_named [] name some = absurd (some refl)
found_is_named (entry ∷ others) name some =
    ⊎_elim
    (λ is. subst (λ (n : List ℕ). Contains (entry.name ∷ names_of others) n) (sym ((bytes_eq-Decides name entry.name).0 is)) (0, omega arith, refl))
    (λ is.
    let behind = found_is_named others name (λ none. some (found-behind entry others name is ∙ none)) in
    (suc behind.0, omega (arith, behind.1), behind.2))
    (bool_cases (bytes_eq name entry.name))

none_of : (entries : List Entry) (name : List ℕ) → found entries name ≡ None → AllByRecursion (λ y. bytes_eq name y ≡ false) (names_of entries)
none_of [] name none = tt
none_of (entry ∷ others) name none =
    ⊎_elim
    (λ is. absurd (none-some entry (sym none ∙ found-here entry others name is)))
    (λ is. (is, none_of others name (sym (found-behind entry others name is) ∙ none)))
    (bool_cases (bytes_eq name entry.name))

pub names_distinct : (entries : List Entry) → AreApart entries → IsDistinct bytes_eq (names_of entries)
unfolding IsDistinct
names_distinct [] apart = tt
names_distinct (entry ∷ others) apart = (none_of others entry.name apart.0, names_distinct others apart.1)
