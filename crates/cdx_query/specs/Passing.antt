-- How an answer is composed in one pass over the entries.
use Rattle.std.specs.Prelude.{◌≡◌, ℕ, ◌+◌, Bool, ◌||◌, ◌==◌, List, [], ◌∷◌, filter, length, take, if◌then◌else◌}
use Rattle.std.specs.List.{flat_map}
use Rattle.index_entry.specs.Facts.{Facts}
use Rattle.cdxj_line.specs.Lengths.{capped}
use Rattle.cdx_query.specs.Answers.{item_text}
use Rattle.cdx_query.specs.Picking.{meets}
use Rattle.cdx_query.specs.declared.query.Query.{Query}

-- the text of the entries that are left, of which so many are answered at most
abbrev pub rest_text : Query → ℕ → List Facts → List ℕ
rest_text query left entries = flat_map (item_text query.json) (take left (filter (meets query) entries))

-- the length is that of the text so far, which with the rest is the whole
pub record IsPartOf (query : Query) (len left : ℕ) (entries : List Facts) (whole : ℕ) : Type 0 where
  pub done : ℕ
  pub told : len ≡ capped done
  pub sum : done + length (rest_text query left entries) ≡ whole

-- `"` or `\`
abbrev pub is_mark : ℕ → Bool
is_mark byte = byte == 34 || byte == 92

-- how many bytes of a text are so
abbrev pub marks : List ℕ → ℕ
marks [] = 0
marks (byte ∷ text) = (if is_mark byte then 1 else 0) + marks text
