-- What is answered to a query.
use Rattle.std.specs.Prelude.{◌≡◌, ℕ, Bool, true, false, IsTrue, List, ◌++◌, codes, Contains}
use Rattle.std.specs.List.{flat_map}
use Rattle.std.specs.List.Sorted.{IsStrictlySortedBy}
use Rattle.index_entry.specs.Facts.{Facts}
use Rattle.index_entry.specs.OfLine.{line_at}
use Rattle.index_entry.specs.Order.{order}
use Rattle.cdxj_line.specs.Lines.{line_text, object_text}
use Rattle.cdx_query.specs.Picking.{begins, limited, meets}
use Rattle.cdx_query.specs.declared.query.Query.{Query}

-- the text of one entry: its CDXJ line, or the JSON object alone with two more members, on a line of its own
unfoldable pub item_text : Bool → Facts → List ℕ
item_text false entry = line_text (line_at entry (codes "GET"))
item_text true entry = object_text true (line_at entry (codes "GET")) ++ codes "\n"

-- the text of the answer, by the entries that meet the query, in order
abbrev pub answer_text : Query → List Facts → List ℕ
answer_text query met = flat_map (item_text query.json) (limited query.limit met)

-- the entries are all those whose key begins so, in order of key, date and number
pub record AreStarting (start : List ℕ) (shown entries : List Facts) : Type 0 where
  pub in_order : IsStrictlySortedBy order entries
  pub from : (entry : Facts) → Contains entries entry → Contains shown entry
  pub all : (entry : Facts) → Contains shown entry → IsTrue (begins start entry.key) → Contains entries entry

-- the entries are all those that meet the query, in order of key, date and number
pub record AreMet (query : Query) (shown met : List Facts) : Type 0 where
  pub in_order : IsStrictlySortedBy order met
  pub each : (entry : Facts) → Contains met entry → IsTrue (meets query entry)
  pub from : (entry : Facts) → Contains met entry → Contains shown entry
  pub all : (entry : Facts) → Contains shown entry → IsTrue (meets query entry) → Contains met entry

-- the text answers the query from the entries that are shown
abbrev pub IsAnswer : Query → List Facts → List ℕ → Type 0
IsAnswer query shown text = (met : List Facts) × AreMet query shown met × (text ≡ answer_text query met)

-- the media type of the answer
abbrev pub media_type_of : Bool → List ℕ
media_type_of true = codes "application/x-ndjson"
media_type_of false = codes "text/x-cdxj"
