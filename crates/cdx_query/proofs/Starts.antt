-- What meets a query has a key that begins as the query says.
use Rattle.std.proofs.Common.{◌≡◌, ℕ, Bool, true, false, ◌&&◌, eqb, List, [], ◌∷◌, ◌++◌, length, drop, bytes_eq, codes, refl, sym, ap, ◌∙◌, subst, inl, inr}
use Rattle.std.specs.Prelude.{filter}
use Rattle.std.proofs.lemmas.Bool.{and_parts, false≢true, or_cases}
use Rattle.index_entry.specs.Facts.{Facts}
use Rattle.index_entry.specs.Order.{order}
use Rattle.index_entry.proofs.Members.{Among-filter, Among-filter_back, Sorted-filter, among_from_contains, contains_from_among}
use Rattle.index_entry.proofs.Orders.{order_total}
use Rattle.cdx_query.specs.Answers.{AreMet, AreStarting}
use Rattle.cdx_query.specs.Picking.{begins, host_of, is_from, is_match, is_to, meets, start_of}
use Rattle.cdx_query.specs.declared.query.MatchKind.{MatchKind}
use Rattle.cdx_query.specs.declared.query.MatchKind.TheVariants.{Exact, Prefix, Host, Domain}
use Rattle.cdx_query.specs.declared.query.Query.{Query}

pub both_true : (a b : Bool) → a ≡ true → b ≡ true → (a && b) ≡ true
both_true true true p q = refl
both_true true false p q = absurd (false≢true q)
both_true false b p q = absurd (false≢true p)

not_both : (a b c : Bool) → (a && b) ≡ false → (b ≡ false → false ≡ c) → false ≡ (a && c)
not_both true b c e rest = rest e
not_both false b c e rest = refl

-- a text begins with the front of what it begins with
begins_front : (a b text : List ℕ) → begins (a ++ b) text ≡ true → begins a text ≡ true
begins_front [] b text e = refl
begins_front (x ∷ a) b [] e = absurd (false≢true e)
begins_front (x ∷ a) b (y ∷ text) e =
    let parts = and_parts (eqb x y) (begins (a ++ b) text) e in
    both_true (eqb x y) (begins a text) parts.0 (begins_front a b text parts.1)

-- to begin with one text and another behind it is to begin with the first, and to go on with the second
pub begins_behind : (a b text : List ℕ) → begins a text ≡ true → begins b (drop (length a) text) ≡ begins (a ++ b) text
begins_behind [] b text e = refl
begins_behind (x ∷ a) b [] e = absurd (false≢true e)
begins_behind (x ∷ a) b (y ∷ text) e =
    let parts = and_parts (eqb x y) (begins a text) e in
    begins_behind a b text parts.1 ∙ sym (ap (λ t. t && begins (a ++ b) text) parts.0)

pub begins_not : (a b text : List ℕ) → begins a text ≡ false → false ≡ begins (a ++ b) text
begins_not [] b text e = absurd (false≢true (sym e))
begins_not (x ∷ a) b [] e = refl
begins_not (x ∷ a) b (y ∷ text) e = not_both (eqb x y) (begins a text) (begins (a ++ b) text) e (begins_not a b text)

begins_same : (a text : List ℕ) → bytes_eq a text ≡ true → begins a text ≡ true
begins_same [] [] e = refl
begins_same [] (y ∷ text) e = refl
begins_same (x ∷ a) [] e = absurd (false≢true e)
begins_same (x ∷ a) (y ∷ text) e =
    let parts = and_parts (eqb x y) (bytes_eq a text) e in
    both_true (eqb x y) (begins a text) parts.0 (begins_same a text parts.1)

match_starts : (kind : MatchKind) (key other : List ℕ) → is_match kind key other ≡ true → begins (start_of kind key) other ≡ true
match_starts Exact key other e = begins_same key other e
match_starts Prefix key other e = e
match_starts Host key other e = begins_front (host_of key) (codes ")") other e
match_starts Domain key other e =
    elim (or_cases (begins (host_of key ++ codes ")") other) (begins (host_of key ++ codes ",") other) e) [
      | inl here ↦ begins_front (host_of key) (codes ")") other here
      | inr below ↦ begins_front (host_of key) (codes ",") other below
    ]

met_starts : (query : Query) (entry : Facts) → query.start ≡ start_of query.kind query.key → meets query entry ≡ true → begins query.start entry.key ≡ true
met_starts query entry start e =
    let all = and_parts (is_match query.kind query.key entry.key && is_from query.from entry.date) (is_to query.to entry.date) e in
    let keyed = and_parts (is_match query.kind query.key entry.key) (is_from query.from entry.date) all.0 in
    subst (λ (s : List ℕ). begins s entry.key ≡ true) (sym start) (match_starts query.kind query.key entry.key keyed.0)

-- of the entries whose key begins so, those that meet the query are all that do
pub are_met : (query : Query) (shown entries : List Facts) → query.start ≡ start_of query.kind query.key → AreStarting query.start shown entries → AreMet query shown (filter (meets query) entries)
are_met query shown entries start are = record {
  in_order = Sorted-filter order order_total (meets query) entries are.in_order;
  each = λ entry has. (Among-filter (meets query) entries entry (among_from_contains (filter (meets query) entries) entry has)).1;
  from = λ entry has. are.from entry
      (contains_from_among entries entry (Among-filter (meets query) entries entry (among_from_contains (filter (meets query) entries) entry has)).0);
  all = λ entry has passes. contains_from_among (filter (meets query) entries) entry
      (Among-filter_back (meets query) entries entry (among_from_contains entries entry (are.all entry has (met_starts query entry start passes))) passes);
}
