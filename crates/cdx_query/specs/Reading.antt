-- Which texts are queries, and what they ask for.
use Rattle.std.specs.Prelude.{◌≡◌, ℕ, ◌≤◌, Bool, true, false, IsTrue, List, [], ◌∷◌, codes, decimal, Option, Some, None}
use Rattle.surt_key.specs.Addresses.{url_of}
use Rattle.surt_key.specs.Key.{key_of}
use Rattle.time_text.specs.Reading.{Names}
use Rattle.cdx_query.specs.Picking.{start_of}
use Rattle.cdx_query.specs.Values.{are_known, from_name, limit_name, match_type_name, output_name, parts_of, to_name, url_name, values_of}
use Rattle.cdx_query.specs.declared.query.MatchKind.{MatchKind}
use Rattle.cdx_query.specs.declared.query.MatchKind.TheVariants.{Exact, Prefix, Host, Domain}
use Rattle.cdx_query.specs.declared.query.Query.{Query}

-- the key of the one URL that is given, which may leave its scheme out
abbrev pub IsKeyOf : List (List ℕ) → List ℕ → Type 0
IsKeyOf [] key = ⊥
IsKeyOf (value ∷ []) key = key_of (url_of value) ≡ Some key
IsKeyOf (value ∷ other ∷ values) key = ⊥

abbrev pub kind_name : MatchKind → List ℕ
kind_name Exact = codes "exact"
kind_name Prefix = codes "prefix"
kind_name Host = codes "host"
kind_name Domain = codes "domain"

-- the match type that is given once, or else `exact`
abbrev pub IsKind : List (List ℕ) → MatchKind → Type 0
IsKind [] kind = kind ≡ Exact
IsKind (value ∷ []) kind = value ≡ kind_name kind
IsKind (value ∷ other ∷ values) kind = ⊥

-- the digits name a time: a year, or a later unit of one
abbrev pub NamesTime : List ℕ → Type 0
NamesTime digits = (date : ℕ) × Names digits date

-- the digits of the time that is given once, if any
abbrev pub IsTime : List (List ℕ) → Option (List ℕ) → Type 0
IsTime [] time = time ≡ None
IsTime (value ∷ []) time = (time ≡ Some value) × NamesTime value
IsTime (value ∷ other ∷ values) time = ⊥

-- a number of entries in decimal, without leading zeros
pub record IsCount (value : List ℕ) (count : ℕ) : Type 0 where
  pub digits : value ≡ decimal count
  pub from : 1 ≤ count
  pub to : count ≤ 1_000_000

-- the limit that is given once, if any
abbrev pub IsLimit : List (List ℕ) → Option ℕ → Type 0
IsLimit [] limit = limit ≡ None
IsLimit (value ∷ []) (Some limit) = IsCount value limit
IsLimit (value ∷ []) None = ⊥
IsLimit (value ∷ other ∷ values) limit = ⊥

abbrev pub output_text : Bool → List ℕ
output_text true = codes "json"
output_text false = codes "cdxj"

-- whether the output that is given once is `json`; without one it is `cdxj`
abbrev pub IsOutput : List (List ℕ) → Bool → Type 0
IsOutput [] json = json ≡ false
IsOutput (value ∷ []) json = value ≡ output_text json
IsOutput (value ∷ other ∷ values) json = ⊥

-- the parts are those of this query
pub record IsQueryOf (parts : List (List ℕ)) (query : Query) : Type 0 where
  pub known : IsTrue (are_known parts)
  pub key : IsKeyOf (values_of url_name parts) query.key
  pub kind : IsKind (values_of match_type_name parts) query.kind
  pub from : IsTime (values_of from_name parts) query.from
  pub to : IsTime (values_of to_name parts) query.to
  pub limit : IsLimit (values_of limit_name parts) query.limit
  pub output : IsOutput (values_of output_name parts) query.json
  pub start : query.start ≡ start_of query.kind query.key

-- the text is this query
abbrev pub IsQuery : List ℕ → Query → Type 0
IsQuery text query = IsQueryOf (parts_of text) query
