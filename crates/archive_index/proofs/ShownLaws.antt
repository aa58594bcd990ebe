-- The entries that are shown, as the index changes.
use Rattle.std.proofs.Common.{true≢false, ◌≡◌, ◌≢◌, ◌⊎◌, ℕ, ◌<◌, ◌≤◌, Bool, true, false, not, ◌==◌, cond, List, [], ◌∷◌, ◌++◌, refl, sym, ap, subst, ◌∙◌, inl, inr, ⊎_elim, arith}
use Rattle.std.specs.Prelude.{Contains, nat_lt, ⊤}
use Rattle.std.specs.List.Sorted.{IsStrictlySortedBy}
use Rattle.std.specs.Cmp.{nat_cmp_is}
use Rattle.std.specs.declared.cmp.Ordering.TheVariants.{Less}
use Rattle.std.proofs.lemmas.Bool.{cases_lt, le-ltb, lt-ltb, ltb-true}
use Rattle.index_entry.proofs.Entries.{without-absent}
use Rattle.index_entry.proofs.Orders.{order_total}
use Rattle.index_entry.proofs.Members.{not_below_itself, Among, all_from_among, all_among, among_from_contains, contains_from_among}
use Rattle.index_entry.specs.Facts.{Facts}
use Rattle.index_entry.specs.OfBook.{by_number}
use Rattle.index_entry.specs.Order.{comes_before, order, with_entry, without}
use Rattle.index_entry.specs.Queries.{IsIndex}
use Rattle.archive_index.specs.Shown.{numbered, put}

-- ---- an entry behind all others

-- all have lower numbers
abbrev pub AreBelow : List Facts → ℕ → Type 0
AreBelow entries n = (f : Facts) → Among entries f → f.number < n

put_last_by : (b : Bool) (entry first : Facts) (others behind : List Facts) → b ≡ false → behind ≡ others ++ entry ∷ []
    → cond b (entry ∷ first ∷ others) (first ∷ behind) ≡ first ∷ (others ++ entry ∷ [])
put_last_by true entry first others behind e is = cc
put_last_by false entry first others behind e is = ap (λ (l : List Facts). first ∷ l) is

put_last : (entry : Facts) (entries : List Facts) → AreBelow entries entry.number → put entry entries ≡ entries ++ entry ∷ []
put_last entry [] below = refl
put_last entry (first ∷ others) below =
    let less : first.number < entry.number = below first (inl refl) in
    put_last_by (nat_lt entry.number first.number) entry first others (put entry others) (le-ltb entry.number first.number (omega (arith, less)))
    (put_last entry others (λ f among. below f (inr among)))

put_before_by : (b : Bool) (f first entry : Facts) (others more : List Facts) → more ≡ put f others ++ entry ∷ []
    → cond b (f ∷ first ∷ (others ++ entry ∷ [])) (first ∷ more) ≡ cond b (f ∷ first ∷ others) (first ∷ put f others) ++ entry ∷ []
put_before_by true f first entry others more is = refl
put_before_by false f first entry others more is = ap (λ (l : List Facts). first ∷ l) is

put_alone_by : (b : Bool) (f entry : Facts) → b ≡ true → cond b (f ∷ entry ∷ []) (entry ∷ f ∷ []) ≡ f ∷ entry ∷ []
put_alone_by true f entry e = refl
put_alone_by false f entry e = cc

put_before : (f entry : Facts) (entries : List Facts) → f.number < entry.number → put f (entries ++ entry ∷ []) ≡ put f entries ++ entry ∷ []
put_before f entry [] less = put_alone_by (nat_lt f.number entry.number) f entry (lt-ltb f.number entry.number less)
put_before f entry (first ∷ others) less =
    put_before_by (nat_lt f.number first.number) f first entry others (put f (others ++ entry ∷ [])) (put_before f entry others less)

-- ---- what is among them

among_put_by : (b : Bool) (entry first : Facts) (others behind : List Facts) (f : Facts) → (Among behind f → (entry ≡ f) ⊎ Among others f)
    → Among (cond b (entry ∷ first ∷ others) (first ∷ behind)) f → (entry ≡ f) ⊎ ((first ≡ f) ⊎ Among others f)
among_put_by true entry first others behind f rest (inl is) = inl is
among_put_by true entry first others behind f rest (inr among) = inr among
among_put_by false entry first others behind f rest (inl is) = inr (inl is)
among_put_by false entry first others behind f rest (inr among) = elim (rest among) [ inl is ↦ inl is | inr h ↦ inr (inr h) ]

among_put : (entry : Facts) (entries : List Facts) (f : Facts) → Among (put entry entries) f → (entry ≡ f) ⊎ Among entries f
among_put entry [] f among = among
among_put entry (first ∷ others) f among =
    among_put_by (nat_lt entry.number first.number) entry first others (put entry others) f (among_put entry others f) among

put_among_by : (b : Bool) (entry first : Facts) (others behind : List Facts) (f : Facts) → ((entry ≡ f) ⊎ Among others f → Among behind f)
    → (entry ≡ f) ⊎ ((first ≡ f) ⊎ Among others f) → Among (cond b (entry ∷ first ∷ others) (first ∷ behind)) f
put_among_by true entry first others behind f rest h = h
put_among_by false entry first others behind f rest (inl is) = inr (rest (inl is))
put_among_by false entry first others behind f rest (inr (inl is)) = inl is
put_among_by false entry first others behind f rest (inr (inr h)) = inr (rest (inr h))

put_among : (entry : Facts) (entries : List Facts) (f : Facts) → (entry ≡ f) ⊎ Among entries f → Among (put entry entries) f
put_among entry [] f h = h
put_among entry (first ∷ others) f h =
    put_among_by (nat_lt entry.number first.number) entry first others (put entry others) f (put_among entry others f) h

among_numbered : (entries : List Facts) (f : Facts) → Among (numbered entries) f → Among entries f
among_numbered [] f among = among
among_numbered (first ∷ others) f among =
    elim (among_put first (numbered others) f among) [ inl is ↦ inl is | inr h ↦ inr (among_numbered others f h) ]

numbered_among : (entries : List Facts) (f : Facts) → Among entries f → Among (numbered entries) f
numbered_among [] f among = among
numbered_among (first ∷ others) f (inl is) = put_among first (numbered others) f (inl is)
numbered_among (first ∷ others) f (inr among) = put_among first (numbered others) f (inr (numbered_among others f among))

-- the same entries are shown as stand in the index
pub shown_from : (entries : List Facts) (f : Facts) → Contains (numbered entries) f → Contains entries f
shown_from entries f has = contains_from_among entries f (among_numbered entries f (among_from_contains (numbered entries) f has))

pub shown_all : (entries : List Facts) (f : Facts) → Contains entries f → Contains (numbered entries) f
shown_all entries f has = contains_from_among (numbered entries) f (numbered_among entries f (among_from_contains entries f has))

-- ---- one entry more

numbered_by : (b : Bool) (entry first : Facts) (others with_it : List Facts) → AreBelow (first ∷ others) entry.number
    → numbered with_it ≡ numbered others ++ entry ∷ []
    → numbered (cond b (first ∷ with_it) (entry ∷ first ∷ others)) ≡ numbered (first ∷ others) ++ entry ∷ []
numbered_by true entry first others with_it below is =
    ap (put first) is ∙ put_before first entry (numbered others) (below first (inl refl))
numbered_by false entry first others with_it below is =
    put_last entry (numbered (first ∷ others)) (λ f among. below f (among_numbered (first ∷ others) f among))

pub numbered_with : (entry : Facts) (entries : List Facts) → AreBelow entries entry.number
    → numbered (with_entry entry entries) ≡ numbered entries ++ entry ∷ []
numbered_with entry [] below = refl
numbered_with entry (first ∷ others) below =
    numbered_by (comes_before first entry) entry first others (with_entry entry others) below
    (numbered_with entry others (λ f among. below f (inr among)))

-- and taken back
taken_by : (b : Bool) (n : ℕ) (entry first : Facts) (others with_it : List Facts) → entry.number ≡ n → AreBelow (first ∷ others) n
    → without n with_it ≡ others → without n (cond b (first ∷ with_it) (entry ∷ first ∷ others)) ≡ first ∷ others
taken_by true n entry first others with_it is below rest =
    kept (not (first.number == n)) (differs first.number n (below first (inl refl))) ∙ ap (λ (l : List Facts). first ∷ l) rest
  where
    kept : (b : Bool) → b ≡ true → cond b (first ∷ without n with_it) (without n with_it) ≡ first ∷ without n with_it
    kept true e = refl
    kept false e = cc

    differs : (a m : ℕ) → a < m → not (a == m) ≡ true
    differs a m less = grind arith
taken_by false n entry first others with_it is below rest =
    gone (not (entry.number == n)) (same entry.number n is)
    ∙ without-absent n (first ∷ others) (λ f among e. apart f.number n (below f among) e)
  where
    gone : (b : Bool) → b ≡ false → cond b (entry ∷ without n (first ∷ others)) (without n (first ∷ others)) ≡ without n (first ∷ others)
    gone true e = cc
    gone false e = refl

    same : (a m : ℕ) → a ≡ m → not (a == m) ≡ false
    same a m e = grind arith

    apart : (a m : ℕ) → a < m → a ≡ m → ⊥
    apart a m less e = omega (arith, less, e)

pub taken_out : (n : ℕ) (entry : Facts) (entries : List Facts) → entry.number ≡ n → AreBelow entries n → without n (with_entry entry entries) ≡ entries
taken_out n entry [] is below = gone (not (entry.number == n)) (same entry.number n is)
  where
    gone : (b : Bool) → b ≡ false → cond b (entry ∷ []) [] ≡ []
    gone true e = cc
    gone false e = refl

    same : (a m : ℕ) → a ≡ m → not (a == m) ≡ false
    same a m e = grind arith
taken_out n entry (first ∷ others) is below =
    taken_by (comes_before first entry) n entry first others (with_entry entry others) is below
    (taken_out n entry others is (λ f among. below f (inr among)))

-- ---- in order

-- the numbers rise
abbrev pub AreRising : List Facts → Type 0
AreRising [] = ⊤
AreRising (first ∷ others) = ((f : Facts) → Among others f → first.number < f.number) × AreRising others

rising_put_by : (b : Bool) (entry first : Facts) (others behind : List Facts) → nat_lt entry.number first.number ≡ b → entry.number ≢ first.number
    → AreRising (first ∷ others) → AreRising behind → ((f : Facts) → Among behind f → (entry ≡ f) ⊎ Among others f)
    → AreRising (cond b (entry ∷ first ∷ others) (first ∷ behind))
rising_put_by true entry first others behind is apart rising rest from =
    let less : entry.number < first.number = ltb-true entry.number first.number is in (
      (λ f among. elim among [
        | inl same ↦ omega (arith, less, ap (λ (g : Facts). g.number) same)
        | inr h ↦ omega (arith, less, rising.0 f h)
      ]),
      rising,
    )
rising_put_by false entry first others behind is apart rising rest from =
    let more : first.number < entry.number = above entry.number first.number is apart in (
      (λ f among. elim (from f among) [
        | inl same ↦ omega (arith, more, ap (λ (g : Facts). g.number) same)
        | inr h ↦ rising.0 f h
      ]),
      rest,
    )
  where
    above : (m n : ℕ) → nat_lt m n ≡ false → m ≢ n → n < m
    above m n is apart = ⊎_elim
        (λ (less : m < n). absurd (true≢false (sym (lt-ltb m n less) ∙ is)))
        (λ (le : n ≤ m). ⊎_elim
        (λ (strict : n < m). strict)
        (λ (ge : m ≤ n). absurd (apart (omega (arith, le, ge))))
        (cases_lt n m))
        (cases_lt m n)

rising_put : (entry : Facts) (entries : List Facts) → ((f : Facts) → Among entries f → entry.number ≢ f.number) → AreRising entries → AreRising (put entry entries)
rising_put entry [] apart rising = ((λ f none. absurd none), tt)
rising_put entry (first ∷ others) apart rising =
    rising_put_by (nat_lt entry.number first.number) entry first others (put entry others) refl (apart first (inl refl)) rising
    (rising_put entry others (λ f among. apart f (inr among)) rising.1) (λ f among. among_put entry others f among)

-- no two have one number
abbrev pub AreApart : List Facts → Type 0
AreApart [] = ⊤
AreApart (first ∷ others) = ((f : Facts) → Among others f → first.number ≢ f.number) × AreApart others

rising_numbered : (entries : List Facts) → AreApart entries → AreRising (numbered entries)
rising_numbered [] apart = tt
rising_numbered (first ∷ others) apart =
    rising_put first (numbered others) (λ f among. apart.0 f (among_numbered others f among)) (rising_numbered others apart.1)

sorted_from : (entries : List Facts) → AreRising entries → IsStrictlySortedBy by_number entries
unfolding IsStrictlySortedBy
sorted_from [] rising = tt
sorted_from (first ∷ others) rising = (
  all_from_among (λ (f : Facts). by_number first f ≡ Less) others (λ f among. sym (nat_cmp_is first.number f.number Less (rising.0 f among))),
  sorted_from others rising.1,
)

apart_in : (entries : List Facts) → IsStrictlySortedBy order entries → ((a b : Facts) → Among entries a → Among entries b → a.number ≡ b.number → a ≡ b) → AreApart entries
unfolding IsStrictlySortedBy
apart_in [] sorted alone = tt
apart_in (first ∷ others) sorted alone = (
  (λ f among same.
      let is : first ≡ f = alone first f (inl refl) (inr among) same in
      let less : order first f ≡ Less = all_among (λ (g : Facts). order first g ≡ Less) others sorted.0 f among in
      itself first (subst (λ (g : Facts). order first g ≡ Less) (sym is) less)),
  apart_in others sorted.1 (λ a b h h₂ same. alone a b (inr h) (inr h₂) same),
)
  where
    itself : (e : Facts) → order e e ≡ Less → ⊥
    itself e less = not_below_itself order order_total e less

-- what is shown of an index is in order of numbers
pub numbered_sorted : (entries : List Facts) → IsIndex entries → IsStrictlySortedBy by_number (numbered entries)
numbered_sorted entries is =
    sorted_from (numbered entries) (rising_numbered entries (apart_in entries is.in_order
    (λ a b h h₂ same. is.alone a b (contains_from_among entries a h) (contains_from_among entries b h₂) same)))
