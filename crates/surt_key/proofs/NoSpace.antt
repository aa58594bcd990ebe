-- Texts without a space, through all that a key does with the parts of a URL.
use Rattle.std.proofs.Common.{ℕ, ◌-◌, ◌<◌, ◌==◌, Bool, List, [], ◌∷◌, ◌++◌, drop, take, reverse, length, sym, subst, arith, lit<, Option, Some, None, All, codes}
use Rattle.std.specs.Char.{to_ascii_lowercase}
use Rattle.std.specs.Cmp.Lexicographic.{slice_cmp}
use Rattle.std.specs.List.{slice_split, onto_first, join_with_byte}
use Rattle.std.specs.Ordering.{nat_cmp, is_le}
use Rattle.std.proofs.lemmas.Bool.{cond_both}
use Rattle.std.proofs.lemmas.Bool.Decides.{nat_tests}
use Rattle.std.proofs.lemmas.List.{reverse-append}
use Rattle.std.proofs.lemmas.List.Elements.{All-nil, All-cons, All-head, All-tail, All-append, All-take, All-weaker, All-map}
use Rattle.url.specs.Ascii.{dot}
use Rattle.capture.specs.Fields.{lowered}
use Rattle.surt_key.specs.Key.{comma, ampersand, sorted_query, query_text}
use Rattle.surt_key.specs.Labels.{without_final_dot, begins_with_www, without_www, reversed_labels}
use Rattle.surt_key.specs.Sorted.{insert_in_order, sorted}
use Rattle.surt_key.specs.Spaces.{HoldsNoSpace}

abbrev pub IsAbove : ℕ → Type 0
IsAbove b = 32 < b

-- `HoldsNoSpace`, in a record so that the text is read off a goal
pub record Spaceless (text : List ℕ) : Type 0 where
  pub all : HoldsNoSpace text

pub nothing : Spaceless []
nothing = record { all = All-nil IsAbove }

pub joined : {xs ys : List ℕ} → Spaceless xs → Spaceless ys → Spaceless (xs ++ ys)
joined {xs} {ys} h k = record { all = All-append IsAbove xs ys h.all k.all }

pub before : {b : ℕ} {xs : List ℕ} → 32 < b → Spaceless xs → Spaceless (b ∷ xs)
before {b} {xs} above h = record { all = All-cons IsAbove b xs above h.all }

head_of : (b : ℕ) (xs : List ℕ) → Spaceless (b ∷ xs) → 32 < b
head_of b xs h = All-head IsAbove b xs h.all

pub tail_of : (b : ℕ) (xs : List ℕ) → Spaceless (b ∷ xs) → Spaceless xs
tail_of b xs h = record { all = All-tail IsAbove b xs h.all }

-- the front of a text without a space
pub front_of : (xs ys : List ℕ) → Spaceless (xs ++ ys) → Spaceless xs
front_of [] ys h = nothing
front_of (x ∷ xs) ys h = before (head_of x (xs ++ ys) h) (front_of xs ys (tail_of x (xs ++ ys) h))

pub from_bytes : (P : ℕ → Type 0) (xs : List ℕ) → ((b : ℕ) → P b → 32 < b) → All P xs → Spaceless xs
from_bytes P xs above h = record { all = All-weaker P IsAbove above xs h }

lowered_byte : (b : ℕ) → 32 < b → 32 < to_ascii_lowercase b
lowered_byte b h = grind (arith, nat_tests)

pub spaceless-lowered : (xs : List ℕ) → Spaceless xs → Spaceless (lowered xs)
spaceless-lowered xs h = record { all = All-map IsAbove to_ascii_lowercase xs (All-weaker IsAbove (λ b. IsAbove (to_ascii_lowercase b)) lowered_byte xs h.all) }

-- ---- several texts

abbrev Each : List (List ℕ) → Type 0
Each [] = Unit {0}
Each (text ∷ texts) = Spaceless text × Each texts

each-onto_first : (b : ℕ) (texts : List (List ℕ)) → 32 < b → Each texts → Each (onto_first b texts)
each-onto_first b [] above h = (before above nothing, tt)
each-onto_first b (text ∷ texts) above h = (before above h.0, h.1)

each-split : (p : ℕ → Bool) (xs : List ℕ) → Spaceless xs → Each (slice_split p xs)
each-split p [] h = (nothing, tt)
each-split p (x ∷ xs) h =
    let rest = each-split p xs (tail_of x xs h) in
    cond_both (p x) ([] ∷ slice_split p xs) (onto_first x (slice_split p xs)) Each (λ _. (nothing, rest)) (λ _. each-onto_first x _ (head_of x xs h) rest)

each-insert : (text : List ℕ) (texts : List (List ℕ)) → Spaceless text → Each texts → Each (insert_in_order text texts)
each-insert text [] h k = (h, tt)
each-insert text (first ∷ others) h k =
    cond_both (is_le (slice_cmp nat_cmp text first)) (text ∷ first ∷ others) (first ∷ insert_in_order text others) Each (λ _. (h, k))
    (λ _. (k.0, each-insert text others h k.1))

each-sorted : (texts : List (List ℕ)) → Each texts → Each (sorted texts)
each-sorted [] h = tt
each-sorted (text ∷ texts) h = each-insert text (sorted texts) h.0 (each-sorted texts h.1)

each-append : (xs ys : List (List ℕ)) → Each xs → Each ys → Each (xs ++ ys)
each-append [] ys h k = k
each-append (x ∷ xs) ys h k = (h.0, each-append xs ys h.1 k)

each-reverse : (texts : List (List ℕ)) → Each texts → Each (reverse texts)
each-reverse [] h = tt
each-reverse (text ∷ texts) h =
    subst Each (sym (reverse-append (text ∷ []) texts)) (each-append (reverse texts) (text ∷ []) (each-reverse texts h.1) (h.0, tt))

each-without_first : (texts : List (List ℕ)) → Each texts → Each (drop 1 texts)
each-without_first [] h = tt
each-without_first (text ∷ texts) h = h.1

spaceless-join : (c : ℕ) (texts : List (List ℕ)) → 32 < c → Each texts → Spaceless (join_with_byte c texts)
spaceless-join c [] above h = nothing
spaceless-join c (text ∷ []) above h = h.0
spaceless-join c (text ∷ next ∷ others) above h = joined h.0 (before above (spaceless-join c (next ∷ others) above h.1))

-- ---- a domain's labels, and a query

without_dot : (domain : List ℕ) → Spaceless domain → Spaceless (without_final_dot domain)
without_dot domain h =
    let cut : Spaceless (take (length domain - 1) domain) = record { all = All-take IsAbove (length domain - 1) domain h.all } in
    cond_both _ (take (length domain - 1) domain) domain Spaceless (λ _. cut) (λ _. h)

pub spaceless-labels : (domain : List ℕ) → Spaceless domain → Spaceless (join_with_byte comma (reversed_labels domain))
spaceless-labels domain h =
    let labels = slice_split (λ b. b == dot) (without_final_dot domain) in
    let each : Each labels = each-split (λ b. b == dot) (without_final_dot domain) (without_dot domain h) in
    let kept = cond_both (begins_with_www labels) (drop 1 labels) labels Each (λ _. each-without_first labels each) (λ _. each) in
    spaceless-join comma (reversed_labels domain) (lit< tt) (each-reverse (without_www labels) kept)

spaceless-sorted_query : (query : List ℕ) → Spaceless query → Spaceless (sorted_query query)
spaceless-sorted_query query h =
    let parts = slice_split (λ b. b == ampersand) (lowered query) in
    spaceless-join ampersand (sorted parts) (lit< tt) (each-sorted parts (each-split (λ b. b == ampersand) (lowered query) (spaceless-lowered query h)))

-- a part that may be missing
abbrev pub IfThere : Option (List ℕ) → Type 0
IfThere None = Unit {0}
IfThere (Some text) = Spaceless text

pub spaceless-query_text : (query : Option (List ℕ)) → IfThere query → Spaceless (query_text query)
spaceless-query_text None h = nothing
spaceless-query_text (Some query) h =
    cond_both (length query == 0) [] (codes "?" ++ sorted_query query) Spaceless (λ _. nothing) (λ _. before (lit< tt) (spaceless-sorted_query query h))
