-- The places of request records by ids.
use Rattle.std.specs.Prelude.{◌≡◌, ℕ, ◌≤◌, min, Vec, Bool, List, [], ◌∷◌, All, ⊤, Option, Some, None, option_map, if◌then◌else◌}
use Rattle.std.specs.BTreeMap.{BTreeMap, get_by}
use Rattle.std.specs.Cmp.Lexicographic.{slice_cmp}
use Rattle.std.specs.Ordering.{nat_cmp}
use Rattle.capture.specs.Fields.{NamedValue, is_named}
use Rattle.warc_reader.specs.Fields.{concurrent_to}
use Rattle.warc_reader.specs.Requests.{Placed, first_where, is_request_beside, is_request_with}
use Rattle.warc_reader.specs.declared.requests.Requests.{Requests}

-- the place at an id
abbrev pub place_at : {A : Type 0} → BTreeMap (Vec ℕ A) ℕ → List ℕ → Option ℕ
place_at places id = get_by (λ k. slice_cmp nat_cmp id k.items) places

-- the place of a record that was found
abbrev pub place_of : Option Placed → Option ℕ
place_of found = option_map (λ p. p.at) found

-- what was there, or else the place, where the test holds
abbrev pub noted : Option ℕ → Bool → ℕ → Option ℕ
noted (Some place) here at = Some place
noted None here at = if here then Some at else None

-- the least of two places
abbrev pub earlier : Option ℕ → Option ℕ → Option ℕ
earlier None other = other
earlier (Some place) None = Some place
earlier (Some place) (Some other) = Some (min place other)

-- each record stands behind those before it, or at their place
abbrev pub Rises : List Placed → Type 0
Rises [] = ⊤
Rises (p ∷ others) = All (λ q. p.at ≤ q.at) others × Rises others

-- the tables have the first request record with each id, and the first beside each id
pub record HoldsRequests (requests : Requests) (done : List Placed) : Type 0 where
  pub by_id : (id : List ℕ) → place_at requests.by_id id ≡ place_of (first_where (is_request_with id) done)
  pub by_concurrent : (id : List ℕ) → place_at requests.by_concurrent id ≡ place_of (first_where (is_request_beside id) done)

-- the least of a place and those at these ids
abbrev pub first_at : (List ℕ → Option ℕ) → List (List ℕ) → Option ℕ → Option ℕ
first_at places [] first = first
first_at places (id ∷ ids) first = first_at places ids (earlier first (places id))

-- the same, with the id at this field
abbrev pub first_by : (List ℕ → Option ℕ) → NamedValue → Option ℕ → Option ℕ
first_by places field first = if is_named concurrent_to field then earlier first (places field.1) else first
