-- The nearest of the captures of a key, by the last up to the time and the first after it.
use Rattle.std.proofs.Common.{◌≡◌, ℕ, ◌^◌, ◌<◌, ◌≤◌, ◌-◌, ◌⊎◌, inl, inr, List, None, Some, refl, sym, ap, ◌∙◌, subst, arith, false}
use Rattle.std.specs.Prelude.{Contains, IsSome, option_and_then}
use Rattle.std.specs.declared.cmp.Ordering.{Ordering}
use Rattle.std.specs.declared.cmp.Ordering.TheVariants.{Less, Equal, Greater}
use Rattle.std.specs.BTreeMap.{get}
use Rattle.std.specs.Cmp.Lexicographic.{slice_cmp}
use Rattle.std.specs.Ordering.{nat_cmp, is_lt, ordering_then}
use Rattle.std.proofs.lemmas.Cmp.{ranked, nat_list_cmp_total, tied_itself}
use Rattle.index_entry.specs.Facts.{Facts}
use Rattle.cdxj_index.specs.Maps.{AreKeys, AreOfKey, Captures, HasNoneAfter, HasNoneUntil, IsFirstAfter, IsFirstFrom, IsLastUntil, Keys, entries_of, held, held_at}
use Rattle.index_entry.specs.Order.{Moment, moment_of, moment_cmp, order, comes_before}
use Rattle.index_entry.specs.Queries.{HasNone, IsNearest}
use Rattle.index_entry.proofs.Members.{among_from_contains, contains_from_among}
use Rattle.cdxj_index.proofs.Held.{captures_at, entries_from_held_at, held_at_from_entries}

-- the entries of a key are those of its captures
record HasCaptures (keys : Keys) (key : List ℕ) (captures : Captures) : Type 0 where
  are : AreKeys keys
  found : get (slice_cmp nat_cmp) keys key ≡ Some captures

of_captures : (keys : Keys) (key : List ℕ) (captures : Captures) → HasCaptures keys key captures → AreOfKey key captures
of_captures keys key captures has = has.are.each key captures has.found

-- an entry of the key is held among its captures
held_here : (keys : Keys) (key : List ℕ) (captures : Captures) → HasCaptures keys key captures → (f : Facts) → Contains (entries_of keys) f → f.key ≡ key → held captures (moment_of f) ≡ Some f
held_here keys key captures has f h keyed =
    let there = held_at_from_entries keys has.are f (among_from_contains (entries_of keys) f h) in
    let at = captures_at keys f.key (moment_of f) f there in
    let same : Some at.0 ≡ Some captures = sym at.1 ∙ ap (get (slice_cmp nat_cmp) keys) keyed ∙ has.found in
    let is : at.0 ≡ captures = cc in
    subst (λ c. held c (moment_of f) ≡ Some f) is at.2

-- what is held among the captures is an entry of the key
listed_here : (keys : Keys) (key : List ℕ) (captures : Captures) → HasCaptures keys key captures → (place : Moment) (f : Facts) → held captures place ≡ Some f → Contains (entries_of keys) f × (f.key ≡ key) × (moment_of f ≡ place) × (f.number < 2 ^ 32)
listed_here keys key captures has place f there =
    let is = (of_captures keys key captures has).each place f there in
    let at : held_at keys key place ≡ Some f = ap (λ o. option_and_then (λ c. held c place) o) has.found ∙ there in
    (contains_from_among (entries_of keys) f (entries_from_held_at keys key place f at), is.keyed, is.placed, is.fits)

some_held : (captures : Captures) (place : Moment) (f : Facts) → held captures place ≡ Some f → IsSome (held captures place)
some_held captures place f there = subst IsSome (sym there) refl

-- of two entries of one key, the moments decide
comes_before-moments : (f g : Facts) (key : List ℕ) → f.key ≡ key → g.key ≡ key → (moment_cmp (moment_of f) (moment_of g) ≡ Less → ⊥) → comes_before f g ≡ false
comes_before-moments f g key keyed keyed₂ apart =
    let same : order f g ≡ moment_cmp (moment_of f) (moment_of g) =
    ap (λ k. ordering_then (slice_cmp nat_cmp k g.key) (moment_cmp (moment_of f) (moment_of g))) (keyed ∙ sym keyed₂)
    ∙ ap (λ o. ordering_then o (moment_cmp (moment_of f) (moment_of g))) (tied_itself nat_list_cmp_total g.key) in
    ap is_lt same ∙ not_less (moment_cmp (moment_of f) (moment_of g)) apart
  where
    not_less : (o : Ordering) → (o ≡ Less → ⊥) → is_lt o ≡ false
    not_less Less apart = absurd (apart refl)
    not_less Equal apart = refl
    not_less Greater apart = refl

-- an earlier date is an earlier moment
earlier : (m n : Moment) → m.0 < n.0 → moment_cmp m n ≡ Less
earlier m n below = ap (λ o. ordering_then o (nat_cmp m.1 n.1)) (which (nat_cmp m.0 n.0) refl)
  where
    which : (o : Ordering) → nat_cmp m.0 n.0 ≡ o → nat_cmp m.0 n.0 ≡ Less
    which Less e = e
    which Equal e = let same : m.0 ≡ n.0 = ranked m.0 n.0 Equal (sym e) in absurd (omega arith)
    which Greater e = let above : n.0 < m.0 = ranked m.0 n.0 Greater (sym e) in absurd (omega arith)

-- a moment that isn't earlier has no earlier date
pub not_earlier : (m n : Moment) → (moment_cmp m n ≡ Less → ⊥) → n.0 ≤ m.0
not_earlier m n apart = which (nat_cmp n.0 m.0) refl
  where
    which : (o : Ordering) → nat_cmp n.0 m.0 ≡ o → n.0 ≤ m.0
    which Less e = let below : n.0 < m.0 = ranked n.0 m.0 Less (sym e) in omega arith
    which Equal e = let same : n.0 ≡ m.0 = ranked n.0 m.0 Equal (sym e) in omega arith
    which Greater e = let above : m.0 < n.0 = ranked n.0 m.0 Greater (sym e) in absurd (apart (earlier m n above))

-- no captures up to the time, and none after it
pub nearest-nothing : (keys : Keys) (key : List ℕ) (captures : Captures) (time : ℕ) → AreKeys keys → get (slice_cmp nat_cmp) keys key ≡ Some captures → HasNoneUntil captures time → HasNoneAfter captures time → HasNone (entries_of keys) key
nearest-nothing keys key captures time are found until after f h keyed =
    let has : HasCaptures keys key captures = record { are = are; found = found } in
    let here = held_here keys key captures has f h keyed in
    let fits = (listed_here keys key captures has (moment_of f) f here).3 in
    which f here fits (nat_cmp f.date time) refl
  where
    which : (g : Facts) → held captures (moment_of g) ≡ Some g → g.number < 2 ^ 32 → (o : Ordering) → nat_cmp g.date time ≡ o → ⊥
    which g here fits Less e = let below : g.date < time = ranked g.date time Less (sym e) in let none = until (moment_of g) fits (omega arith) in cc
    which g here fits Equal e = let same : g.date ≡ time = ranked g.date time Equal (sym e) in let none = until (moment_of g) fits (omega arith) in cc
    which g here fits Greater e = let above : time < g.date = ranked g.date time Greater (sym e) in let none = after (moment_of g) above in cc

-- no captures of the key
pub nearest-no_key : (keys : Keys) (key : List ℕ) → AreKeys keys → get (slice_cmp nat_cmp) keys key ≡ None → HasNone (entries_of keys) key
nearest-no_key keys key are absent f h keyed =
    let there = held_at_from_entries keys are f (among_from_contains (entries_of keys) f h) in
    let at = captures_at keys f.key (moment_of f) f there in
    let none : get (slice_cmp nat_cmp) keys f.key ≡ None = ap (get (slice_cmp nat_cmp) keys) keyed ∙ absent in
    cc (at.1, none)

-- a date is up to the time or after it
side : (date time : ℕ) → (date ≤ time) ⊎ (time < date)
side date time = which (nat_cmp date time) refl
  where
    which : (o : Ordering) → nat_cmp date time ≡ o → (date ≤ time) ⊎ (time < date)
    which Less e = let below : date < time = ranked date time Less (sym e) in inl (omega arith)
    which Equal e = let same : date ≡ time = ranked date time Equal (sym e) in inl (omega arith)
    which Greater e = inr (ranked date time Greater (sym e))

-- the first after the time, where none up to it is as near
pub nearest-after : (keys : Keys) (key : List ℕ) (captures : Captures) (time : ℕ) (a : Facts) → AreKeys keys → get (slice_cmp nat_cmp) keys key ≡ Some captures → IsFirstAfter captures time a
    → ((other : Moment) → other.1 < 2 ^ 32 → other.0 ≤ time → IsSome (held captures other) → a.date - time < time - other.0) → IsNearest (entries_of keys) key time a
nearest-after keys key captures time a are found is farther =
    let has : HasCaptures keys key captures = record { are = are; found = found } in
    let self = listed_here keys key captures has is.place a is.there in
    let date : a.date ≡ is.place.0 = ap (λ (m : Moment). m.0) self.2 in
    let after : time < is.place.0 = is.within (omega (arith, self.3, ap (λ (m : Moment). m.1) self.2)) in
    record {
      member = self.0;
      keyed = self.1;
      least = λ f h keyed.
          let here = held_here keys key captures has f h keyed in
          let fits = (listed_here keys key captures has (moment_of f) f here).3 in
          let some = some_held captures (moment_of f) f here in
          elim (side f.date time) [
            | inl before ↦ omega (arith, farther (moment_of f) fits before some, date, after, before)
            | inr later ↦ omega (arith, not_earlier (moment_of f) is.place (is.first (moment_of f) later some), date, after, later)
          ];
      first = λ f h keyed near.
          let here = held_here keys key captures has f h keyed in
          let fits = (listed_here keys key captures has (moment_of f) f here).3 in
          let some = some_held captures (moment_of f) f here in
          elim (side f.date time) [
            | inl before ↦ absurd (omega (arith, farther (moment_of f) fits before some, date, after, before, near))
            | inr later ↦ comes_before-moments f a key keyed self.1 (λ less. is.first (moment_of f) later some (subst (λ m. moment_cmp (moment_of f) m ≡ Less) self.2 less))
          ];
    }

-- the first of the date of the last up to the time, where none after it is nearer
pub nearest-before : (keys : Keys) (key : List ℕ) (captures : Captures) (time : ℕ) (b a : Facts) → AreKeys keys → get (slice_cmp nat_cmp) keys key ≡ Some captures → IsLastUntil captures time b → IsFirstFrom captures b.date a
    → ((other : Moment) → time < other.0 → IsSome (held captures other) → time - b.date ≤ other.0 - time) → IsNearest (entries_of keys) key time a
nearest-before keys key captures time b a are found last is farther =
    let has : HasCaptures keys key captures = record { are = are; found = found } in
    let self = listed_here keys key captures has is.place a is.there in
    let other = listed_here keys key captures has last.place b last.there in
    let until : b.date ≡ last.place.0 = ap (λ (m : Moment). m.0) other.2 in
    let date : a.date ≡ is.place.0 = ap (λ (m : Moment). m.0) self.2 in
    -- the last up to the time is of the date itself, and so no later than it
    let reached : is.place.0 ≤ last.place.0 = not_earlier last.place is.place (is.first last.place (omega (arith, until)) (some_held captures last.place b last.there)) in
    record {
      member = self.0;
      keyed = self.1;
      least = λ f h keyed.
          let here = held_here keys key captures has f h keyed in
          let fits = (listed_here keys key captures has (moment_of f) f here).3 in
          let some = some_held captures (moment_of f) f here in
          elim (side f.date time) [
            | inl before ↦ omega (arith, not_earlier last.place (moment_of f) (last.last (moment_of f) fits before some), until, date, is.within, reached, last.within, before)
            | inr later ↦ omega (arith, farther (moment_of f) later some, until, date, is.within, reached, last.within, later)
          ];
      first = λ f h keyed near.
          let here = held_here keys key captures has f h keyed in
          let fits = (listed_here keys key captures has (moment_of f) f here).3 in
          let some = some_held captures (moment_of f) f here in
          elim (side f.date b.date) [
            | inl before ↦ elim (side b.date f.date) [
              | inl at ↦ comes_before-moments f a key keyed self.1 (λ less. is.first (moment_of f) at some (subst (λ m. moment_cmp (moment_of f) m ≡ Less) self.2 less))
              | inr earlier ↦ absurd (omega (arith, near, until, date, is.within, reached, last.within, earlier))
            ]
            | inr later ↦ comes_before-moments f a key keyed self.1 (λ less. is.first (moment_of f) (omega arith) some (subst (λ m. moment_cmp (moment_of f) m ≡ Less) self.2 less))
          ];
    }
