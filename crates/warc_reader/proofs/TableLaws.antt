-- The places of request records, as the tables have them.
use Rattle.std.proofs.Common.{◌≡◌, ℕ, ◌≤◌, Bool, true, false, ◌&&◌, ◌||◌, cond, List, [], ◌∷◌, ◌++◌, Option, Some, None, refl, sym, ap, subst, ◌∙◌, arith, BTreeMap, true≢false}
use Rattle.std.specs.Prelude.{All, Vec, filter, is_some, map}
use Rattle.std.specs.BTreeMap.{UpdatesBy}
use Rattle.std.proofs.lemmas.Cmp.{eq_by_cmp_equiv}
use Rattle.std.specs.Map.{AreApart, IsKeyTest, KeepsOthers, lookup}
use Rattle.std.specs.Cmp.Lexicographic.{nat_list_cmp_total, slice_cmp}
use Rattle.std.specs.List.{list_any}
use Rattle.std.specs.Ordering.{nat_cmp, is_eq}
use Rattle.std.specs.Str.{bytes_eq}
use Rattle.std.proofs.lemmas.List.Elements.{All-head, All-tail}
use Rattle.std.proofs.lemmas.Map.Text.{is_eq-slice_cmp}
use Rattle.std.proofs.lemmas.Slice.Eq.{bytes_eq-Decides}
use Rattle.capture.specs.Fields.{NamedValue, is_named, named_values, values_of}
use Rattle.warc_reader.specs.Fields.{concurrent_to, first_of, has_id, kind_of, names_id, record_id}
use Rattle.warc_reader.specs.Records.{WarcRecord}
use Rattle.warc_reader.specs.Requests.{Placed, fields_of, first_where, found_request, is_request, is_request_beside, is_request_with, stands_with}
use Rattle.warc_reader.specs.Tables.{HoldsRequests, Rises, earlier, first_at, first_by, noted, place_at, place_of}
use Rattle.warc_reader.specs.declared.requests.Requests.{Requests}

-- ---- one place more

pub noted_false : (o : Option ℕ) (at : ℕ) → noted o false at ≡ o
noted_false None at = refl
noted_false (Some p) at = refl

noted_some : (o : Option ℕ) (here : Bool) (at : ℕ) → is_some o ≡ true → noted o here at ≡ o
noted_some None here at e = cc
noted_some (Some p) here at e = refl

noted_none : (o : Option ℕ) (at : ℕ) → is_some o ≡ false → noted o true at ≡ Some at
noted_none None at e = refl
noted_none (Some p) at e = cc

pub noted_twice : (o : Option ℕ) (a b : Bool) (at : ℕ) → noted (noted o a at) b at ≡ noted o (a || b) at
noted_twice None true b at = refl
noted_twice None false b at = refl
noted_twice (Some p) a b at = refl

-- a place that is there stays
pub kept_place : {A : Type 0} (m : BTreeMap (Vec ℕ A) ℕ) (id other : List ℕ) (at : ℕ) → is_some (place_at m id) ≡ true
    → place_at m other ≡ noted (place_at m other) (bytes_eq id other) at
kept_place m id other at some = by (bytes_eq id other) refl
  where
    by : (b : Bool) → bytes_eq id other ≡ b → place_at m other ≡ noted (place_at m other) b at
    by true told =
        sym (noted_some (place_at m other) true at (subst (λ k. is_some (place_at m k) ≡ true) ((bytes_eq-Decides id other).0 told) some))
    by false apart = sym (noted_false (place_at m other) at)

eq_both_ways : (a b : List ℕ) → bytes_eq a b ≡ bytes_eq b a
eq_both_ways a b = by (bytes_eq a b) (bytes_eq b a) refl refl
  where
    by : (x y : Bool) → bytes_eq a b ≡ x → bytes_eq b a ≡ y → x ≡ y
    by true true e f = refl
    by false false e f = refl
    by true false e f = absurd (true≢false (sym ((bytes_eq-Decides b a).1 (sym ((bytes_eq-Decides a b).0 e))) ∙ f))
    by false true e f = absurd (true≢false (sym ((bytes_eq-Decides a b).1 (sym ((bytes_eq-Decides b a).0 f))) ∙ e))

-- a key that is one id's is no other's
apart_in_order : (id other key : List ℕ) → bytes_eq id other ≡ false → is_eq (slice_cmp nat_cmp id key) ≡ true → is_eq (slice_cmp nat_cmp other key) ≡ false
apart_in_order id other key apart is =
    is_eq-slice_cmp other key
    ∙ ap (λ k. bytes_eq other k) (sym ((bytes_eq-Decides id key).0 (sym (is_eq-slice_cmp id key) ∙ is)))
    ∙ eq_both_ways other id ∙ apart

other_entries : {K X : Type 0} (eq : K → K → Bool) (test : K → Bool) (old new : List (K × X)) → KeepsOthers eq test old new → (other : K → Bool)
    → IsKeyTest eq other → AreApart test other → lookup other new ≡ lookup other old
unfolding KeepsOthers
other_entries eq test old new h = h

-- what a change at one id leaves at another
other_place : {A : Type 0} (m n : BTreeMap (Vec ℕ A) ℕ) (id other : List ℕ) (w : Option ℕ)
    → UpdatesBy (λ a b. slice_cmp nat_cmp a.items b.items) (λ k. slice_cmp nat_cmp id k.items) m n w → bytes_eq id other ≡ false
    → place_at n other ≡ place_at m other
other_place m n id other w h apart =
    other_entries _ _ _ _ h.3 _ (λ x y. (eq_by_cmp_equiv nat_list_cmp_total).congr other x.items y.items)
    (λ k. apart_in_order id other k.items apart)

-- a place that is new is noted
pub noted_place : {A : Type 0} (m n : BTreeMap (Vec ℕ A) ℕ) (id other : List ℕ) (at : ℕ) → is_some (place_at m id) ≡ false
    → UpdatesBy (λ a b. slice_cmp nat_cmp a.items b.items) (λ k. slice_cmp nat_cmp id k.items) m n (Some at)
    → place_at n other ≡ noted (place_at m other) (bytes_eq id other) at
noted_place m n id other at none updates = by (bytes_eq id other) refl
  where
    by : (b : Bool) → bytes_eq id other ≡ b → place_at n other ≡ noted (place_at m other) b at
    by true told =
        let same = (bytes_eq-Decides id other).0 told in
        ap (place_at n) (sym same) ∙ updates.1
        ∙ sym (noted_none (place_at m other) at (subst (λ k. is_some (place_at m k) ≡ false) same none))
    by false apart = other_place m n id other (Some at) updates apart ∙ sym (noted_false (place_at m other) at)

-- by a key that has the id's bytes
pub noted_key : {A : Type 0} (m n : BTreeMap (Vec ℕ A) ℕ) (id key other : List ℕ) (at : ℕ) → key ≡ id → is_some (place_at m id) ≡ false
    → UpdatesBy (λ a b. slice_cmp nat_cmp a.items b.items) (λ k. slice_cmp nat_cmp key k.items) m n (Some at)
    → place_at n other ≡ noted (place_at m other) (bytes_eq id other) at
noted_key m n id key other at same none updates =
    subst (λ i. place_at n other ≡ noted (place_at m other) (bytes_eq i other) at) same
    (noted_place m n key other at (subst (λ i. is_some (place_at m i) ≡ false) (sym same) none) updates)

-- ---- the first record

first_more : (test : Placed → Bool) (done : List Placed) (x : Placed)
    → place_of (first_where test (done ++ x ∷ [])) ≡ noted (place_of (first_where test done)) (test x) x.at
first_more test [] x = by (test x)
  where
    by : (b : Bool) → place_of (cond b (Some x) None) ≡ noted None b x.at
    by true = refl
    by false = refl
first_more test (p ∷ done) x = by (test p) (first_more test done x)
  where
    by : (b : Bool) → place_of (first_where test (done ++ x ∷ [])) ≡ noted (place_of (first_where test done)) (test x) x.at
        → place_of (cond b (Some p) (first_where test (done ++ x ∷ []))) ≡ noted (place_of (cond b (Some p) (first_where test done))) (test x) x.at
    by true h = refl
    by false h = h

-- one record more in a table
pub one_more : {A : Type 0} (m n : BTreeMap (Vec ℕ A) ℕ) (test : List ℕ → Placed → Bool) (here : List ℕ → Bool) (done : List Placed) (x : Placed)
    → ((id : List ℕ) → place_at m id ≡ place_of (first_where (test id) done)) → ((id : List ℕ) → test id x ≡ here id)
    → ((id : List ℕ) → place_at n id ≡ noted (place_at m id) (here id) x.at)
    → (id : List ℕ) → place_at n id ≡ place_of (first_where (test id) (done ++ x ∷ []))
one_more m n test here done x before is after id =
    after id ∙ ap (λ b. noted (place_at m id) b x.at) (sym (is id)) ∙ ap (λ o. noted o (test id x) x.at) (before id)
    ∙ sym (first_more (test id) done x)

-- and one that the tables don't count
pub not_counted : {A : Type 0} (m : BTreeMap (Vec ℕ A) ℕ) (test : List ℕ → Placed → Bool) (done : List Placed) (x : Placed)
    → ((id : List ℕ) → place_at m id ≡ place_of (first_where (test id) done)) → ((id : List ℕ) → test id x ≡ false)
    → (id : List ℕ) → place_at m id ≡ place_of (first_where (test id) (done ++ x ∷ []))
not_counted m test done x before is =
    one_more m m test (λ id. false) done x before is (λ id. sym (noted_false (place_at m id) x.at))

pub passed_over : (requests : Requests) (done : List Placed) (x : Placed) → HoldsRequests requests done → is_request (kind_of (fields_of x)) ≡ false
    → HoldsRequests requests (done ++ x ∷ [])
passed_over requests done x holds none = record {
  by_id = not_counted requests.by_id is_request_with done x holds.by_id (λ id. ap (λ b. b && has_id id (first_of record_id (fields_of x))) none);
  by_concurrent = not_counted requests.by_concurrent is_request_beside done x holds.by_concurrent
      (λ id. ap (λ b. b && names_id (Some id) (values_of concurrent_to (fields_of x))) none);
}

pub request_added : (old new : Requests) (done : List Placed) (x : Placed) → HoldsRequests old done → is_request (kind_of (fields_of x)) ≡ true
    → ((id : List ℕ) → place_at new.by_id id ≡ noted (place_at old.by_id id) (has_id id (first_of record_id (fields_of x))) x.at)
    → ((id : List ℕ) → place_at new.by_concurrent id
    ≡ noted (place_at old.by_concurrent id) (list_any (λ other. bytes_eq other id) (values_of concurrent_to (fields_of x))) x.at)
    → HoldsRequests new (done ++ x ∷ [])
request_added old new done x holds is own beside = record {
  by_id = one_more old.by_id new.by_id is_request_with (λ id. has_id id (first_of record_id (fields_of x))) done x holds.by_id
      (λ id. ap (λ b. b && has_id id (first_of record_id (fields_of x))) is) own;
  by_concurrent = one_more old.by_concurrent new.by_concurrent is_request_beside
      (λ id. list_any (λ other. bytes_eq other id) (values_of concurrent_to (fields_of x))) done x holds.by_concurrent
      (λ id. ap (λ b. b && names_id (Some id) (values_of concurrent_to (fields_of x))) is) beside;
}

-- one field more that was looked at
pub first_at_more : (places : List ℕ → Option ℕ) (field : NamedValue) (fields : List NamedValue) (first : Option ℕ)
    → first_at places (values_of concurrent_to (field ∷ fields)) first ≡ first_at places (values_of concurrent_to fields) (first_by places field first)
first_at_more places field fields first = by (is_named concurrent_to field)
  where
    by : (b : Bool) → first_at places (map (λ f. f.1) (cond b (field ∷ filter (is_named concurrent_to) fields) (filter (is_named concurrent_to) fields))) first
        ≡ first_at places (values_of concurrent_to fields) (cond b (earlier first (places field.1)) first)
    by true = refl
    by false = refl

-- by the fields as they were read
pub request_noted : (old new : Requests) (fields : List NamedValue) (at : ℕ) → is_request (kind_of fields) ≡ true
    → ((id : List ℕ) → place_at new.by_id id ≡ noted (place_at old.by_id id) (has_id id (first_of record_id fields)) at)
    → ((id : List ℕ) → place_at new.by_concurrent id
    ≡ noted (place_at old.by_concurrent id) (list_any (λ other. bytes_eq other id) (values_of concurrent_to fields)) at)
    → (done : List Placed) (form : WarcRecord) → HoldsRequests old done → fields ≡ named_values form.fields
    → HoldsRequests new (done ++ record { at = at; form = form } ∷ [])
request_noted old new fields at is own beside done form holds same =
    request_added old new done (record { at = at; form = form }) holds (subst (λ fs. is_request (kind_of fs) ≡ true) same is)
    (subst (λ fs. (id : List ℕ) → place_at new.by_id id ≡ noted (place_at old.by_id id) (has_id id (first_of record_id fs)) at) same own)
    (subst (λ fs. (id : List ℕ) → place_at new.by_concurrent id
    ≡ noted (place_at old.by_concurrent id) (list_any (λ other. bytes_eq other id) (values_of concurrent_to fs)) at) same beside)

pub none_noted : (requests : Requests) (fields : List NamedValue) (at : ℕ) → is_request (kind_of fields) ≡ false → (done : List Placed) (form : WarcRecord)
    → HoldsRequests requests done → fields ≡ named_values form.fields → HoldsRequests requests (done ++ record { at = at; form = form } ∷ [])
none_noted requests fields at is done form holds same =
    passed_over requests done (record { at = at; form = form }) holds (subst (λ fs. is_request (kind_of fs) ≡ false) same is)

-- ---- the first of two

first_same : (test other : Placed → Bool) (done : List Placed) → ((p : Placed) → test p ≡ other p) → first_where test done ≡ first_where other done
first_same test other [] same = refl
first_same test other (p ∷ done) same =
    ap (λ b. cond b (Some p) (first_where test done)) (same p) ∙ ap (cond (other p) (Some p)) (first_same test other done same)

-- a record that was found stands behind one before all
pub record IsBehind (at : ℕ) (found : Option ℕ) : Type 0 where
  pub first : earlier (Some at) found ≡ Some at
  pub second : earlier found (Some at) ≡ Some at

none_behind : (at : ℕ) → IsBehind at None
none_behind at = record { first = refl; second = refl }

some_behind : (at place : ℕ) → at ≤ place → IsBehind at (Some place)
some_behind at place le = record {
  first = ap (λ n. Some n) (omega (arith, le));
  second = ap (λ n. Some n) (omega (arith, le));
}

found_behind : (test : Placed → Bool) (at : ℕ) (done : List Placed) → All (λ q. at ≤ q.at) done → IsBehind at (place_of (first_where test done))
found_behind test at [] all = none_behind at
found_behind test at (p ∷ done) all =
    by (test p) (some_behind at p.at (All-head (λ (q : Placed). at ≤ q.at) p done all))
    (found_behind test at done (All-tail (λ (q : Placed). at ≤ q.at) p done all))
  where
    by : (b : Bool) → IsBehind at (Some p.at) → IsBehind at (place_of (first_where test done)) → IsBehind at (place_of (cond b (Some p) (first_where test done)))
    by true here others = here
    by false here others = others

both_here : (at : ℕ) → Some at ≡ earlier (Some at) (Some at)
both_here at = ap (λ n. Some n) (omega arith)

first_or : (test other : Placed → Bool) (done : List Placed) → Rises done
    → place_of (first_where (λ p. test p || other p) done) ≡ earlier (place_of (first_where test done)) (place_of (first_where other done))
first_or test other [] rises = refl
first_or test other (p ∷ done) rises = by (test p) (other p) (first_or test other done rises.1)
  where
    by : (a b : Bool)
        → place_of (first_where (λ q. test q || other q) done) ≡ earlier (place_of (first_where test done)) (place_of (first_where other done))
        → place_of (cond (a || b) (Some p) (first_where (λ q. test q || other q) done))
        ≡ earlier (place_of (cond a (Some p) (first_where test done))) (place_of (cond b (Some p) (first_where other done)))
    by true true others = both_here p.at
    by true false others = sym (found_behind other p.at done rises.0).first
    by false true others = sym (found_behind test p.at done rises.0).second
    by false false others = others

-- ---- all ids of a response

no_ids : (a r : Bool) (own : Option (List ℕ)) → (a || (r && names_id own [])) ≡ a
no_ids true r own = refl
no_ids false false own = refl
no_ids false true None = refl
no_ids false true (Some id) = refl

by_parts : (a r x y : Bool) → (a || (r && (x || y))) ≡ ((a || (r && x)) || (r && y))
by_parts true r x y = refl
by_parts false true x y = refl
by_parts false false x y = refl

one_id_more : (a r : Bool) (own : Option (List ℕ)) (id : List ℕ) (ids : List (List ℕ))
    → (a || (r && names_id own (id ∷ ids))) ≡ ((a || (r && has_id id own)) || (r && names_id own ids))
one_id_more a r None id ids = by_parts a r false false
one_id_more a r (Some own) id ids =
    ap (λ b. a || (r && (b || list_any (λ other. bytes_eq other own) ids))) (eq_both_ways id own)
    ∙ by_parts a r (bytes_eq own id) (list_any (λ other. bytes_eq other own) ids)

abbrev with_ids : (Placed → Bool) → List (List ℕ) → Placed → Bool
with_ids test ids p = test p || (is_request (kind_of (fields_of p)) && names_id (first_of record_id (fields_of p)) ids)

all_ids : (requests : Requests) (done : List Placed) → Rises done → HoldsRequests requests done → (test : Placed → Bool) (ids : List (List ℕ))
    → place_of (first_where (with_ids test ids) done) ≡ first_at (place_at requests.by_id) ids (place_of (first_where test done))
all_ids requests done rises holds test [] =
    ap place_of (first_same (with_ids test []) test done
    (λ p. no_ids (test p) (is_request (kind_of (fields_of p))) (first_of record_id (fields_of p))))
all_ids requests done rises holds test (id ∷ ids) =
    let more : Placed → Bool = λ p. test p || is_request_with id p in
    ap place_of (first_same (with_ids test (id ∷ ids)) (with_ids more ids) done
    (λ p. one_id_more (test p) (is_request (kind_of (fields_of p))) (first_of record_id (fields_of p)) id ids))
    ∙ all_ids requests done rises holds more ids
    ∙ ap (first_at (place_at requests.by_id) ids)
    (first_or test (is_request_with id) done rises ∙ ap (earlier (place_of (first_where test done))) (sym (holds.by_id id)))

-- ---- the request of a response

never : (done : List Placed) → first_where (λ p. false) done ≡ None
never [] = refl
never (p ∷ done) = never done

with_nothing : (r : Bool) → (r && false) ≡ false
with_nothing true = refl
with_nothing false = refl

in_two : (r x y : Bool) → (r && (x || y)) ≡ ((r && x) || (r && y))
in_two true x y = refl
in_two false x y = refl

abbrev beside : Option (List ℕ) → Placed → Bool
beside own p = is_request (kind_of (fields_of p)) && names_id own (values_of concurrent_to (fields_of p))

-- the place beside the response's own id
abbrev pub beside_at : {A : Type 0} → BTreeMap (Vec ℕ A) ℕ → Option (List ℕ) → Option ℕ
beside_at places None = None
beside_at places (Some id) = place_at places id

beside_found : (requests : Requests) (done : List Placed) → HoldsRequests requests done → (own : Option (List ℕ))
    → place_of (first_where (beside own) done) ≡ beside_at requests.by_concurrent own
beside_found requests done holds None =
    ap place_of (first_same (beside None) (λ p. false) done (λ p. with_nothing (is_request (kind_of (fields_of p)))) ∙ never done)
beside_found requests done holds (Some id) = sym (holds.by_concurrent id)

pub request_found : (requests : Requests) (done : List Placed) (fields : List NamedValue) → Rises done → HoldsRequests requests done
    → place_of (found_request done fields)
    ≡ first_at (place_at requests.by_id) (values_of concurrent_to fields) (beside_at requests.by_concurrent (first_of record_id fields))
request_found requests done fields rises holds =
    let own = first_of record_id fields in
    let ids = values_of concurrent_to fields in
    ap place_of (first_same (stands_with fields) (with_ids (beside own) ids) done
    (λ p. in_two (is_request (kind_of (fields_of p))) (names_id own (values_of concurrent_to (fields_of p))) (names_id (first_of record_id (fields_of p)) ids)))
    ∙ all_ids requests done rises holds (beside own) ids
    ∙ ap (first_at (place_at requests.by_id) ids) (beside_found requests done holds own)
