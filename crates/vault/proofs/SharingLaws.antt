-- How the passes share out the last history.
use Rattle.std.proofs.Common.{◌≡◌, ◌≢◌, ℕ, zero, suc, ◌+◌, ◌<◌, ◌≤◌, Bool, true, false, IsTrue, if◌then◌else◌, nat_eq, List, [], ◌∷◌, ◌++◌, length, get_or, slice_get, Option, Some, None, IfSome, sum_by, flat_map, IsPermutation, refl, sym, ap, subst, ◌∙◌, append_assoc, length-append, zero-add, eq-eqb, ne_eqb, eqb-true, eq-or-lt_of_le, ⊎_elim, arith}
use borrow.Author.Tests.{eqb-false}
use Rattle.std.specs.List.{range_with_len}
use Rattle.std.specs.List.Sorted.{IsStrictlyIncreasing}
use Rattle.std.proofs.lemmas.List.{append-nil}
use Rattle.std.proofs.lemmas.List.Concat.{length-flat_map}
use Rattle.std.proofs.lemmas.List.Sorted.{IsPermutation-append, IsPermutation-cons, IsPermutation-middle, IsPermutation-refl, IsPermutation-trans, length_permutation}
use Rattle.std.proofs.lemmas.List.Sums.{sum_by-cons}
use Rattle.capture.specs.Captures.{captures, captures_in}
use Rattle.capture.specs.Growth.{Grows}
use Rattle.capture.specs.declared.book.Book.{Book}
use Rattle.capture.specs.declared.book.Volume.{Volume}
use Rattle.capture.specs.declared.captured.Stored as stored
use Rattle.capture.proofs.GrowthLaws.{grows_from_itself, growth_goes_on}
use Rattle.archive_shelf.specs.Storing.{add_to_last, as_stored}
use Rattle.archive_shelf.proofs.StoringLaws.{captures_more, captures_stay}
use Rattle.history_lock.specs.Known.{Known}
use Rattle.history_lock.specs.Seen.{All, Apart, IsOther, Shows}
use Rattle.vault_turns.specs.History.{IsBegun, after_kind, book_after, by_of, opened_book, told_book}
use Rattle.vault.specs.Orderly.{ArePlaced, HavePlaces, IsOrderly, IsPlaced, NamePasses, NamesPass, given_book}
use Rattle.vault_turns.specs.Own.{count_faults, fault_by, faults_since, is_among, number_by, own_behind, own_captures, own_entries, own_faults}
use Rattle.vault.specs.Sharing.{HasItsOwn, HasPart, IsSharedOut, PartsAreShown, ShowingGoesOn, all_stored}
use Rattle.vault_turns.specs.declared.noted.Kind.{Kind}
use Rattle.vault_turns.specs.declared.noted.Kind.TheVariants.{Opened, Began, Stored, Failed}
use Rattle.vault_turns.specs.declared.noted.Noted.{Noted}
use Rattle.vault_turns.proofs.HistoryLaws.{told_grows}
use Rattle.vault.proofs.OrderlyLaws.{Keeps, all_append, keeps_shown, named_begun}
use Rattle.vault.proofs.OwnLaws.{not_among, own_stay}

-- ---- one after the other

pub goes_on : ShowingGoesOn
goes_on passes numbers seen later last first second = record {
  more = first.more ++ second.more;
  is_seen_and_more =
      second.is_seen_and_more ∙ (ap (λ (l : List Noted). l ++ second.more) first.is_seen_and_more ∙ append_assoc seen first.more second.more);
  of_others = all_append (IsOther by_of passes numbers) first.more second.more first.of_others second.of_others;
}

apart_front : (n : ℕ) (xs ys : List ℕ) → Apart n (xs ++ ys) → Apart n xs
apart_front n [] ys apart = tt
apart_front n (x ∷ xs) ys apart = (apart.0, apart_front n xs ys apart.1)

apart_back : (n : ℕ) (xs ys : List ℕ) → Apart n (xs ++ ys) → Apart n ys
apart_back n [] ys apart = apart
apart_back n (x ∷ xs) ys apart = apart_back n xs ys apart.1

front_others : (passes : ℕ) (xs ys : List ℕ) (more : List Noted) → All (IsOther by_of passes (xs ++ ys)) more → All (IsOther by_of passes xs) more
front_others passes xs ys [] others = tt
front_others passes xs ys (noted ∷ more) others =
    ((apart_front noted.by xs ys others.0.0, others.0.1, others.0.2), front_others passes xs ys more others.1)

back_others : (passes : ℕ) (xs ys : List ℕ) (more : List Noted) → All (IsOther by_of passes (xs ++ ys)) more → All (IsOther by_of passes ys) more
back_others passes xs ys [] others = tt
back_others passes xs ys (noted ∷ more) others =
    ((apart_back noted.by xs ys others.0.0, others.0.1, others.0.2), back_others passes xs ys more others.1)

pub parts_shown : PartsAreShown
parts_shown passes numbers others seen history shows = (
  record {
    more = shows.more;
    is_seen_and_more = shows.is_seen_and_more;
    of_others = front_others passes numbers others shows.more shows.of_others;
  },
  record {
    more = shows.more;
    is_seen_and_more = shows.is_seen_and_more;
    of_others = back_others passes numbers others shows.more shows.of_others;
  },
)

-- ---- a pass's captures stay

pub behind_append : (numbers : List ℕ) (book : Book) (xs ys : List Noted)
    → own_behind numbers book (xs ++ ys) ≡ own_behind numbers book xs ++ own_behind numbers (book_after book xs) ys
behind_append numbers book [] ys = refl
behind_append numbers book (x ∷ xs) ys =
    let own = if is_among numbers x.by then number_by (length (captures book)) x.kind else [] in
    ap (λ (l : List ℕ). own ++ l) (behind_append numbers (after_kind book x.kind) xs ys)
    ∙ sym (append_assoc own (own_behind numbers (after_kind book x.kind) xs) (own_behind numbers (book_after (after_kind book x.kind) xs) ys))

pub none_behind : (passes : ℕ) (numbers : List ℕ) (book : Book) (more : List Noted) → All (IsOther by_of passes numbers) more → own_behind numbers book more ≡ []
none_behind passes numbers book [] others = refl
none_behind passes numbers book (noted ∷ more) others =
    ap (λ (b : Bool). (if b then number_by (length (captures book)) noted.kind else []) ++ own_behind numbers (after_kind book noted.kind) more)
    (not_among numbers noted.by others.0.0)
    ∙ none_behind passes numbers (after_kind book noted.kind) more others.1

captures_before : (passes : ℕ) (numbers : List ℕ) (seen more : List Noted) → IsBegun seen → All (IsOther by_of passes numbers) more
    → own_captures numbers (seen ++ more) ≡ own_captures numbers seen
captures_before passes numbers [] more begun others = absurd begun
captures_before passes numbers (first ∷ seen) more begun others =
    behind_append numbers (opened_book first.kind) seen more
    ∙ (ap (λ (l : List ℕ). own_behind numbers (opened_book first.kind) seen ++ l)
    (none_behind passes numbers (book_after (opened_book first.kind) seen) more others)
    ∙ append-nil (own_behind numbers (opened_book first.kind) seen))

captures_last : (passes : ℕ) (numbers : List ℕ) (seen history : List Noted) → IsBegun seen → Shows by_of passes numbers seen history
    → own_captures numbers history ≡ own_captures numbers seen
captures_last passes numbers seen history begun shows =
    ap (λ (l : List Noted). own_captures numbers l) shows.is_seen_and_more
    ∙ captures_before passes numbers seen shows.more begun shows.of_others

-- ---- they rise

abbrev Rises : ℕ → List ℕ → Type 0
Rises low [] = Unit {0}
Rises low (x ∷ xs) = (low ≤ x) × Rises (suc x) xs

increasing : (low : ℕ) (xs : List ℕ) → Rises low xs → IsStrictlyIncreasing xs
increasing low [] rises = λ k within. absurd (omega arith)
increasing low (x ∷ []) rises = λ k within. absurd (omega arith)
increasing low (x ∷ y ∷ xs) rises = rising low x y xs rises (increasing (suc x) (y ∷ xs) rises.1) where
  rising : (low x y : ℕ) (xs : List ℕ) → Rises low (x ∷ y ∷ xs) → IsStrictlyIncreasing (y ∷ xs) → IsStrictlyIncreasing (x ∷ y ∷ xs)
  rising low x y xs rises rest zero within = rises.1.0
  rising low x y xs rises rest (suc k) within =
      let e : suc (k + 1) ≡ suc k + 1 = omega arith in
      subst (λ (n : ℕ). get_or (y ∷ xs) k 0 < get_or (x ∷ y ∷ xs) n 0) e (rest k (omega arith))

some_more : (volumes : List Volume) (x : stored.Stored) → volumes ≢ [] → length (captures_in (add_to_last volumes x)) ≡ suc (length (captures_in volumes))
some_more volumes x some =
    let long = length-append (captures_in volumes) (x ∷ []) in
    ap (λ (l : List stored.Stored). length l) (captures_more volumes x some) ∙ omega (arith, long)

no_fewer : (volumes : List Volume) (x : stored.Stored) → length (captures_in volumes) ≤ length (captures_in (add_to_last volumes x))
no_fewer [] x = omega arith
no_fewer (v ∷ vs) x = let more = some_more (v ∷ vs) x (λ e. cc) in omega (arith, more)

-- no entry takes captures away
count_grows : (book : Book) (kind : Kind) → length (captures book) ≤ length (captures (after_kind book kind))
count_grows book (Opened held limits told list faults sure) = omega arith
count_grows book (Began at) = let same = ap (λ (l : List stored.Stored). length l) (captures_stay book.volumes at) in omega (arith, same)
count_grows book (Stored taken same) = no_fewer book.volumes (as_stored taken.value same)
count_grows book Failed = omega arith

step_rises : (book : Book) (kind : Kind) (others : List ℕ) (own : Bool) (low : ℕ) → low ≤ length (captures book) → (IsTrue own → IsPlaced book kind)
    → ((next : ℕ) → next ≤ length (captures (after_kind book kind)) → Rises next others)
    → Rises low ((if own then number_by (length (captures book)) kind else []) ++ others)
step_rises book (Stored taken same) others true low below placed rest =
    let more = some_more book.volumes (as_stored taken.value same) (placed refl) in (below, rest (suc (length (captures book))) (omega (arith, more)))
step_rises book (Opened held limits told list faults sure) others true low below placed rest = rest low below
step_rises book (Began at) others true low below placed rest = let more = count_grows book (Began at) in rest low (omega (arith, below, more))
step_rises book Failed others true low below placed rest = rest low below
step_rises book kind others false low below placed rest = let more = count_grows book kind in rest low (omega (arith, below, more))

own_rise : (numbers : List ℕ) (book : Book) (xs : List Noted) → ArePlaced numbers book xs → (low : ℕ) → low ≤ length (captures book)
    → Rises low (own_behind numbers book xs)
own_rise numbers book [] placed low below = tt
own_rise numbers book (x ∷ xs) placed low below =
    step_rises book x.kind (own_behind numbers (after_kind book x.kind) xs) (is_among numbers x.by) low below placed.0
    (own_rise numbers (after_kind book x.kind) xs placed.1)

captures_rise : (numbers : List ℕ) (seen : List Noted) → HavePlaces numbers seen → IsStrictlyIncreasing (own_captures numbers seen)
captures_rise numbers [] placed = λ k within. absurd (omega arith)
captures_rise numbers (first ∷ others) placed =
    increasing 0 (own_behind numbers (opened_book first.kind) others) (own_rise numbers (opened_book first.kind) others placed 0 (omega arith))

-- ---- one of a range of numbers

pub among_one : (n j : ℕ) (b : Bool) → nat_eq j n ≡ b → is_among (n ∷ []) j ≡ b
among_one n j true is = ap (λ (b : Bool). if b then true else false) is
among_one n j false is = ap (λ (b : Bool). if b then true else false) is

above : (j a : ℕ) → nat_eq j a ≡ false → a ≤ j → a + 1 ≤ j
above j a other low = ⊎_elim (λ same. absurd (eqb-false j a other (sym same))) (λ less. omega (arith, less)) (eq-or-lt_of_le low)

-- what is put before one number of a range is put before no other one
put_nowhere : {A : Type 0} (j : ℕ) (own : List A) (rest : ℕ → List A) (a len : ℕ) → j < a
    → flat_map (λ n. (if is_among (n ∷ []) j then own else []) ++ rest n) (range_with_len a len) ≡ flat_map rest (range_with_len a len)
put_nowhere j own rest a zero below = refl
put_nowhere {A} j own rest a (suc len) below =
    let behind = flat_map (λ n. (if is_among (n ∷ []) j then own else []) ++ rest n) (range_with_len (a + 1) len) in
    ap (λ (b : Bool). ((if b then own else []) ++ rest a) ++ behind) (among_one a j false (ne_eqb j a (λ e. absurd (omega (arith, e, below)))))
    ∙ ap (λ (l : List A). rest a ++ l) (put_nowhere j own rest (a + 1) len (omega (arith, below)))

put_by : {A : Type 0} (j : ℕ) (x : A) (rest : ℕ → List A) (a len : ℕ) (b : Bool) → nat_eq j a ≡ b
    → (nat_eq j a ≡ false → IsPermutation (flat_map (λ n. (if is_among (n ∷ []) j then x ∷ [] else []) ++ rest n) (range_with_len (a + 1) len))
    (x ∷ flat_map rest (range_with_len (a + 1) len)))
    → IsPermutation (flat_map (λ n. (if is_among (n ∷ []) j then x ∷ [] else []) ++ rest n) (range_with_len a (suc len)))
    (x ∷ flat_map rest (range_with_len a (suc len)))
put_by {A} j x rest a len true is later =
    let f = λ (n : ℕ). (if is_among (n ∷ []) j then x ∷ [] else []) ++ rest n in
    let here : flat_map f (range_with_len a (suc len)) ≡ x ∷ flat_map rest (range_with_len a (suc len))
    = ap (λ (b : Bool). ((if b then x ∷ [] else []) ++ rest a) ++ flat_map f (range_with_len (a + 1) len)) (among_one a j true is)
    ∙ ap (λ (l : List A). x ∷ (rest a ++ l))
    (put_nowhere j (x ∷ []) rest (a + 1) len (let e = eqb-true j a is in omega (arith, e))) in
    subst (λ (l : List A). IsPermutation l (x ∷ flat_map rest (range_with_len a (suc len)))) (sym here)
    (IsPermutation-refl (x ∷ flat_map rest (range_with_len a (suc len))))
put_by {A} j x rest a len false is later =
    let f = λ (n : ℕ). (if is_among (n ∷ []) j then x ∷ [] else []) ++ rest n in
    let behind = flat_map f (range_with_len (a + 1) len) in
    let others = flat_map rest (range_with_len (a + 1) len) in
    let here : flat_map f (range_with_len a (suc len)) ≡ rest a ++ behind
    = ap (λ (b : Bool). ((if b then x ∷ [] else []) ++ rest a) ++ behind) (among_one a j false is) in
    subst (λ (l : List A). IsPermutation l (x ∷ (rest a ++ others))) (sym here)
    (IsPermutation-trans (rest a ++ behind) (rest a ++ x ∷ others) (x ∷ (rest a ++ others))
    (IsPermutation-append (rest a) (rest a) behind (x ∷ others) (IsPermutation-refl (rest a)) (later is))
    (IsPermutation-middle (rest a) x others))

-- an element that is put before one number of a range is in the whole once
put_once : {A : Type 0} (j : ℕ) (x : A) (rest : ℕ → List A) (a len : ℕ) → a ≤ j → j < a + len
    → IsPermutation (flat_map (λ n. (if is_among (n ∷ []) j then x ∷ [] else []) ++ rest n) (range_with_len a len))
    (x ∷ flat_map rest (range_with_len a len))
put_once j x rest a zero low high = absurd (omega (arith, low, high))
put_once j x rest a (suc len) low high = put_by j x rest a len (nat_eq j a) refl
    (λ other. put_once j x rest (a + 1) len (above j a other low) (omega (arith, high)))

-- and so with numbers that are added up
add_nowhere : (j more : ℕ) (rest : ℕ → ℕ) (a len : ℕ) → j < a
    → sum_by (λ n. (if is_among (n ∷ []) j then more else 0) + rest n) (range_with_len a len) ≡ sum_by rest (range_with_len a len)
add_nowhere j more rest a zero below = refl
add_nowhere j more rest a (suc len) below =
    let f = λ (n : ℕ). (if is_among (n ∷ []) j then more else 0) + rest n in
    let none : f a ≡ 0 + rest a
    = ap (λ (b : Bool). (if b then more else 0) + rest a) (among_one a j false (ne_eqb j a (λ e. absurd (omega (arith, e, below))))) in
    let first = sum_by-cons f a (range_with_len (a + 1) len) in
    let second = sum_by-cons rest a (range_with_len (a + 1) len) in
    let later = add_nowhere j more rest (a + 1) len (omega (arith, below)) in
    omega (arith, none, first, second, later)

add_by : (j more : ℕ) (rest : ℕ → ℕ) (a len : ℕ) (b : Bool) → nat_eq j a ≡ b
    → (nat_eq j a ≡ false → sum_by (λ n. (if is_among (n ∷ []) j then more else 0) + rest n) (range_with_len (a + 1) len)
    ≡ more + sum_by rest (range_with_len (a + 1) len))
    → sum_by (λ n. (if is_among (n ∷ []) j then more else 0) + rest n) (range_with_len a (suc len))
    ≡ more + sum_by rest (range_with_len a (suc len))
add_by j more rest a len true is later =
    let f = λ (n : ℕ). (if is_among (n ∷ []) j then more else 0) + rest n in
    let here : f a ≡ more + rest a = ap (λ (b : Bool). (if b then more else 0) + rest a) (among_one a j true is) in
    let first = sum_by-cons f a (range_with_len (a + 1) len) in
    let second = sum_by-cons rest a (range_with_len (a + 1) len) in
    let e = eqb-true j a is in
    let none = add_nowhere j more rest (a + 1) len (omega (arith, e)) in
    omega (arith, here, first, second, none)
add_by j more rest a len false is later =
    let f = λ (n : ℕ). (if is_among (n ∷ []) j then more else 0) + rest n in
    let none : f a ≡ 0 + rest a = ap (λ (b : Bool). (if b then more else 0) + rest a) (among_one a j false is) in
    let first = sum_by-cons f a (range_with_len (a + 1) len) in
    let second = sum_by-cons rest a (range_with_len (a + 1) len) in
    let there = later is in
    omega (arith, none, first, second, there)

add_once : (j more : ℕ) (rest : ℕ → ℕ) (a len : ℕ) → a ≤ j → j < a + len
    → sum_by (λ n. (if is_among (n ∷ []) j then more else 0) + rest n) (range_with_len a len) ≡ more + sum_by rest (range_with_len a len)
add_once j more rest a zero low high = absurd (omega (arith, low, high))
add_once j more rest a (suc len) low high = add_by j more rest a len (nat_eq j a) refl
    (λ other. add_once j more rest (a + 1) len (above j a other low) (omega (arith, high)))

-- ---- the captures of all passes

abbrev counted : Kind → ℕ → ℕ
counted (Stored taken same) n = suc n
counted (Opened held limits told list faults sure) n = n
counted (Began at) n = n
counted Failed n = n

abbrev stored_in : List Noted → ℕ
stored_in [] = 0
stored_in (noted ∷ others) = counted noted.kind (stored_in others)

-- the captures of each pass have a volume
abbrev EachPlaced : ℕ → Book → List Noted → Type 0
EachPlaced total book xs = (n : ℕ) → 1 ≤ n → n ≤ total → ArePlaced (n ∷ []) book xs

head_placed : (total : ℕ) (book : Book) (noted : Noted) (others : List Noted) → NamesPass total noted → EachPlaced total book (noted ∷ others)
    → IsPlaced book noted.kind
head_placed total book noted others named each =
    (each noted.by named.0 named.1).0 (among_one noted.by noted.by true (eq-eqb noted.by noted.by refl))

kind_count : (book : Book) (kind : Kind) (n : ℕ) → IsPlaced book kind
    → length (captures (after_kind book kind)) + n ≡ length (captures book) + counted kind n
kind_count book (Stored taken same) n placed =
    let more = some_more book.volumes (as_stored taken.value same) placed in omega (arith, more)
kind_count book (Opened held limits told list faults sure) n placed = refl
kind_count book (Began at) n placed =
    let same = ap (λ (l : List stored.Stored). length l) (captures_stay book.volumes at) in omega (arith, same)
kind_count book Failed n placed = refl

told_count : (total : ℕ) (book : Book) (xs : List Noted) → All (NamesPass total) xs → EachPlaced total book xs
    → length (captures (book_after book xs)) ≡ length (captures book) + stored_in xs
told_count total book [] named each = omega arith
told_count total book (x ∷ xs) named each =
    told_count total (after_kind book x.kind) xs named.1 (λ n low high. (each n low high).1)
    ∙ kind_count book x.kind (stored_in xs) (head_placed total book x xs named.0 each)

put_nothing : {A : Type 0} (b : Bool) (rest : List A) → (if b then [] else []) ++ rest ≡ rest
put_nothing true rest = refl
put_nothing false rest = refl

share_step : (total j : ℕ) (book : Book) (kind : Kind) (n : ℕ) (rest : ℕ → List ℕ) → 1 ≤ j → j ≤ total → IsPlaced book kind
    → IsPermutation (flat_map rest (range_with_len 1 total)) (range_with_len (length (captures (after_kind book kind))) n)
    → IsPermutation (flat_map (λ k. (if is_among (k ∷ []) j then number_by (length (captures book)) kind else []) ++ rest k) (range_with_len 1 total))
    (range_with_len (length (captures book)) (counted kind n))
share_step total j book (Stored taken same) n rest low high placed shared =
    let c = length (captures book) in
    let next : length (captures (after_kind book (Stored taken same))) ≡ c + 1
    = let more = some_more book.volumes (as_stored taken.value same) placed in omega (arith, more) in
    let behind = flat_map rest (range_with_len 1 total) in
    IsPermutation-trans _ (c ∷ behind) (c ∷ range_with_len (c + 1) n)
    (put_once j c rest 1 total low (omega (arith, high)))
    (IsPermutation-cons c behind (range_with_len (c + 1) n) (subst (λ (m : ℕ). IsPermutation behind (range_with_len m n)) next shared))
share_step total j book (Opened held limits told list faults sure) n rest low high placed shared =
    subst (λ (l : List ℕ). IsPermutation l (range_with_len (length (captures book)) n))
    (λ i. flat_map (λ k. sym (put_nothing (is_among (k ∷ []) j) (rest k)) i) (range_with_len 1 total)) shared
share_step total j book (Began at) n rest low high placed shared =
    subst (λ (l : List ℕ). IsPermutation l (range_with_len (length (captures book)) n))
    (λ i. flat_map (λ k. sym (put_nothing (is_among (k ∷ []) j) (rest k)) i) (range_with_len 1 total))
    (subst (λ (l : List stored.Stored). IsPermutation (flat_map rest (range_with_len 1 total)) (range_with_len (length l) n)) (captures_stay book.volumes at) shared)
share_step total j book Failed n rest low high placed shared =
    subst (λ (l : List ℕ). IsPermutation l (range_with_len (length (captures book)) n))
    (λ i. flat_map (λ k. sym (put_nothing (is_among (k ∷ []) j) (rest k)) i) (range_with_len 1 total)) shared

abbrev none_at : ℕ → List ℕ
none_at k = []

flat_none : (ks : List ℕ) → flat_map none_at ks ≡ []
flat_none [] = refl
flat_none (k ∷ ks) = flat_none ks

shares : (total : ℕ) (book : Book) (xs : List Noted) → All (NamesPass total) xs → EachPlaced total book xs
    → IsPermutation (flat_map (λ k. own_behind (k ∷ []) book xs) (range_with_len 1 total)) (range_with_len (length (captures book)) (stored_in xs))
shares total book [] named each =
    subst (λ (l : List ℕ). IsPermutation l []) (sym (flat_none (range_with_len 1 total))) (IsPermutation-refl [])
shares total book (x ∷ xs) named each =
    share_step total x.by book x.kind (stored_in xs) (λ k. own_behind (k ∷ []) (after_kind book x.kind) xs) named.0.0 named.0.1
    (head_placed total book x xs named.0 each)
    (shares total (after_kind book x.kind) xs named.1 (λ n low high. (each n low high).1))

-- ---- the faults of all passes

sum_none : (ks : List ℕ) → sum_by (λ k. 0) ks ≡ 0
sum_none [] = refl
sum_none (k ∷ ks) = sum_by-cons (λ k. 0) k ks ∙ (let none = sum_none ks in omega (arith, none))

own_count : (b : Bool) (noted : Noted) (others : List Noted)
    → count_faults (if b then noted ∷ others else others) ≡ (if b then fault_by noted.kind else 0) + count_faults others
own_count true noted others = refl
own_count false noted others = omega arith

faults_shared : (total : ℕ) (xs : List Noted) → All (NamesPass total) xs
    → sum_by (λ k. own_faults (k ∷ []) xs) (range_with_len 1 total) ≡ count_faults xs
faults_shared total [] named = sum_none (range_with_len 1 total)
faults_shared total (x ∷ xs) named =
    (λ i. sum_by (λ k. own_count (is_among (k ∷ []) x.by) x (own_entries (k ∷ []) xs) i) (range_with_len 1 total))
    ∙ (add_once x.by (fault_by x.kind) (λ k. own_faults (k ∷ []) xs) 1 total named.0.0 (let high = named.0.1 in omega (arith, high))
    ∙ ap (λ (n : ℕ). fault_by x.kind + n) (faults_shared total xs named.1))

faults_from : (total : ℕ) (history : List Noted) → NamePasses total history
    → sum_by (λ k. own_faults (k ∷ []) history) (range_with_len 1 total) ≡ faults_since history
faults_from total [] named = absurd named
faults_from total (first ∷ others) named =
    (λ i. sum_by (λ k. own_count (is_among (k ∷ []) first.by) first (own_entries (k ∷ []) others) i) (range_with_len 1 total))
    ∙ (add_nowhere first.by (fault_by first.kind) (λ k. own_faults (k ∷ []) others) 1 total (let none = named.0 in omega (arith, none))
    ∙ faults_shared total others named.1)

-- ---- the passes by their numbers

abbrev Parts : Book → ℕ → List Noted → ℕ → List (Known Noted) → Type 0
Parts book total history n [] = Unit {0}
Parts book total history n (p ∷ ps) = HasPart book total n history p × Parts book total history (n + 1) ps

parts_of : (book : Book) (total : ℕ) (history : List Noted) (n : ℕ) (ps : List (Known Noted))
    → ((k : ℕ) → IfSome (slice_get ps k) (HasPart book total (k + n) history)) → Parts book total history n ps
parts_of book total history n [] each = tt
parts_of book total history n (p ∷ ps) each = (
  subst (λ (m : ℕ). HasPart book total m history p) (zero-add n) (each zero),
  parts_of book total history (n + 1) ps
      (λ k. let same : suc k + n ≡ k + (n + 1) = omega arith in
      subst (λ (m : ℕ). IfSome (slice_get ps k) (HasPart book total m history)) same (each (suc k))),
)

pick : (Q : ℕ → Known Noted → Type 0) (ps : List (Known Noted)) (k : ℕ) → k < length ps → ((k : ℕ) → IfSome (slice_get ps k) (Q k))
    → (p : Known Noted) × Q k p
pick Q [] k within each = absurd (omega (arith, within))
pick Q (p ∷ ps) zero within each = (p, each zero)
pick Q (p ∷ ps) (suc k) within each = pick (λ k. Q (suc k)) ps k (omega (arith, within)) (λ k. each (suc k))

begun_of : (book : Book) (p : Known Noted) → IsOrderly book p → IsBegun p.seen
begun_of book p orderly = named_begun p.passes p.seen orderly.named

keeps_part : (book : Book) (total number : ℕ) (history : List Noted) (p : Known Noted) → HasPart book total number history p
    → Keeps total (number ∷ []) book history
keeps_part book total number history p part =
    subst (λ (m : ℕ). Keeps m (number ∷ []) book history) part.count
    (subst (λ (ns : List ℕ). Keeps p.passes ns book history) part.numbers
    (keeps_shown p.passes p.numbers book p.seen history (part.orderly.given, part.orderly.named, part.orderly.placed) part.shows))

own_of : (book : Book) (total number : ℕ) (history : List Noted) (p : Known Noted) → HasPart book total number history p → HasItsOwn history p
own_of book total number history p part = record {
  entries = own_stay p.passes p.numbers p.seen history part.shows;
  captures = captures_last p.passes p.numbers p.seen history (begun_of book p part.orderly) part.shows;
  rise = captures_rise p.numbers p.seen part.orderly.placed;
  grown = subst (λ (l : List Noted). Grows (told_book p.seen) (told_book l)) (sym part.shows.is_seen_and_more)
      (told_grows grows_from_itself growth_goes_on p.seen part.shows.more (begun_of book p part.orderly));
}

own_if : (book : Book) (total number : ℕ) (history : List Noted) (pass : Option (Known Noted)) → IfSome pass (HasPart book total number history)
    → IfSome pass (HasItsOwn history)
own_if book total number history None part = tt
own_if book total number history (Some p) part = own_of book total number history p part

captures_by_number : (book : Book) (total : ℕ) (history : List Noted) (n : ℕ) (ps : List (Known Noted)) → Parts book total history n ps
    → flat_map (λ (p : Known Noted). own_captures p.numbers p.seen) ps ≡ flat_map (λ k. own_captures (k ∷ []) history) (range_with_len n (length ps))
captures_by_number book total history n [] parts = refl
captures_by_number book total history n (p ∷ ps) parts =
    let own : own_captures p.numbers p.seen ≡ own_captures (n ∷ []) history
    = sym (captures_last p.passes p.numbers p.seen history (begun_of book p parts.0.orderly) parts.0.shows)
    ∙ ap (λ (ns : List ℕ). own_captures ns history) parts.0.numbers in
    λ i. own i ++ captures_by_number book total history (n + 1) ps parts.1 i

faults_by_number : (book : Book) (total : ℕ) (history : List Noted) (n : ℕ) (ps : List (Known Noted)) → Parts book total history n ps
    → sum_by (λ (p : Known Noted). own_faults p.numbers p.seen) ps ≡ sum_by (λ k. own_faults (k ∷ []) history) (range_with_len n (length ps))
faults_by_number book total history n [] parts = refl
faults_by_number book total history n (p ∷ ps) parts =
    let own : own_faults p.numbers p.seen ≡ own_faults (n ∷ []) history
    = ap (λ (l : List Noted). count_faults l) (sym (own_stay p.passes p.numbers p.seen history parts.0.shows))
    ∙ ap (λ (ns : List ℕ). own_faults ns history) parts.0.numbers in
    let later = faults_by_number book total history (n + 1) ps parts.1 in
    sum_by-cons (λ (p : Known Noted). own_faults p.numbers p.seen) p ps
    ∙ ((λ i. own i + later i) ∙ sym (sum_by-cons (λ k. own_faults (k ∷ []) history) n (range_with_len (n + 1) (length ps))))

-- ---- all together

range_length : (a n : ℕ) → length (range_with_len a n) ≡ n
range_length a zero = refl
range_length a (suc n) = ap (λ (m : ℕ). suc m) (range_length (a + 1) n)

module _ (book : Book) (passes : List (Known Noted)) where
  abbrev Each : List Noted → Type 0
  Each history = (k : ℕ) → IfSome (slice_get passes k) (HasPart book (length passes) (k + 1) history)

  each_keeps : (history : List Noted) → Each history → (n : ℕ) → 1 ≤ n → n ≤ length passes → Keeps (length passes) (n ∷ []) book history
  each_keeps history each zero low high = absurd (omega (arith, low))
  each_keeps history each (suc k) low high =
      let same : k + 1 ≡ suc k = omega arith in
      let one = pick (λ k. HasPart book (length passes) (k + 1) history) passes k (omega (arith, high)) each in
      subst (λ (m : ℕ). Keeps (length passes) (m ∷ []) book history) same (keeps_part book (length passes) (k + 1) history one.0 one.1)

  shared_by : (history : List Noted) → 1 ≤ length passes → Each history → NamePasses (length passes) history → given_book history ≡ book
      → IsSharedOut book passes history
  shared_by [] some each named given = absurd named
  shared_by (first ∷ others) some each named given =
      let history = first ∷ others in
      let total = length passes in
      let was = opened_book first.kind in
      let parts = parts_of book total history 1 passes each in
      let placed : EachPlaced total was others = λ n low high. (each_keeps history each n low high).2 in
      let all = flat_map (λ (p : Known Noted). own_captures p.numbers p.seen) passes in
      let permuted : IsPermutation all (range_with_len (length (captures was)) (stored_in others))
      = subst (λ (l : List ℕ). IsPermutation l (range_with_len (length (captures was)) (stored_in others)))
      (sym (captures_by_number book total history 1 passes parts)) (shares total was others named.1 placed) in
      let counted : stored_in others ≡ all_stored passes
      = sym (range_length (length (captures was)) (stored_in others))
      ∙ (length_permutation all (range_with_len (length (captures was)) (stored_in others)) permuted
      ∙ length-flat_map (λ (p : Known Noted). own_captures p.numbers p.seen) passes) in
      record {
        named = named;
        own = λ k. own_if book total (k + 1) history (slice_get passes k) (each k);
        grown = subst (λ (b : Book). Grows b (told_book history)) given (told_grows grows_from_itself growth_goes_on (first ∷ []) others tt);
        count = told_count total was others named.1 placed ∙ (λ i. length (captures (given i)) + counted i);
        once = subst (λ (r : List ℕ). IsPermutation all r) (λ i. range_with_len (length (captures (given i))) (counted i)) permuted;
        faults = sym (faults_from total history named) ∙ sym (faults_by_number book total history 1 passes parts);
      }

  pub shared : (history : List Noted) → 1 ≤ length passes → Each history → IsSharedOut book passes history
  shared history some each =
      let first = each_keeps history each 1 (omega arith) some in shared_by history some each first.1 first.0
