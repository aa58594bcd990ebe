-- How a page is split into pieces: from left to right, at each place by what opens there (a part of the syntax of the
-- HTML Standard, section 13.1).
use Rattle.std.specs.Prelude.{◌≡◌, ℕ, ◌+◌, Bool, ◌&&◌, ◌||◌, List, [], ◌∷◌, ◌++◌, length, take, drop, codes, Some, None, MatchBool, if◌then◌else◌}
use Rattle.std.specs.List.{flat_map}
use Rattle.std.specs.Char.{is_ascii_alphabetic}
use Rattle.std.specs.Str.{str_eq_ignore_ascii_case}
use Rattle.html_rewrite.specs.declared.opening.Opening.{Opening}
use Rattle.html_rewrite.specs.declared.opening.Opening.TheVariants.{Comment, Declaration, EndTag, StartTag, Other}
use Rattle.html_rewrite.specs.Bytes.{less, greater, equals, is_name_end, begins, begins_with, IsUpTo}
use Rattle.html_rewrite.specs.Names.{is_link, is_raw_text}
use Rattle.html_rewrite.specs.Pieces.{Piece, Plain, Value, joined}
use Rattle.html_rewrite.specs.Tags.{Assignment, Attribute, Tag, IsTag, quote_text, tag_text}

-- what opens at a place: the first of these that fits
unfoldable pub opening_at : List ℕ → Opening
opening_at text =
    if begins_with (codes "<!--") text then Comment
    else (if begins_with (codes "<!") text || begins_with (codes "<?") text then Declaration
    else (if begins_with (codes "</") text && begins is_ascii_alphabetic (drop 2 text) then EndTag
    else (if begins_with (codes "<") text && begins is_ascii_alphabetic (drop 1 text) then StartTag
    else Other)))

-- how long what opens is at least
abbrev pub opening_len : Opening → ℕ
opening_len Comment = 4
opening_len Declaration = 2
opening_len EndTag = 2
opening_len StartTag = 1
opening_len Other = 0

-- a part of a page: a text that stays as it is, or a start tag with the text behind it that no tag begins in
pub data Part : Type 0 where
  Untouched : List ℕ → Part
  Element : Tag → List ℕ → Part

-- the part, and what stands behind it
abbrev pub part_text : Part → List ℕ → List ℕ
part_text (Untouched text) rest = text ++ rest
part_text (Element tag raw) rest = tag_text tag (raw ++ rest)

-- a value, which is looked at where the element's attribute holds a link
abbrev pub value_piece : Bool → List ℕ → Piece
value_piece linked text = if linked then Value text else Plain text

abbrev pub assigned_pieces : List ℕ → Attribute → Assignment → List Piece
assigned_pieces element a s =
    Plain (a.gap ++ (a.first ∷ (a.others ++ (s.before ++ (equals ∷ (s.after ++ quote_text s.quote))))))
    ∷ value_piece (is_link element (a.first ∷ a.others)) s.value
    ∷ Plain (quote_text s.quote)
    ∷ []

-- the pieces of an attribute of this element
abbrev pub attribute_pieces : List ℕ → Attribute → List Piece
attribute_pieces element a =
    elim a.assigned [ None ↦ Plain (a.gap ++ (a.first ∷ a.others)) ∷ [] | Some s ↦ assigned_pieces element a s ]

abbrev pub part_pieces : Part → List Piece
part_pieces (Untouched text) = Plain text ∷ []
part_pieces (Element tag raw) =
    Plain (less ∷ tag.name)
    ∷ flat_map (attribute_pieces tag.name) tag.attributes
    ++ Plain (tag.gap ++ (greater ∷ raw)) ∷ []

-- the text goes through the closer that comes first behind what opens it, or to the end where there is none
pub record IsThrough (opening : ℕ) (closer text rest : List ℕ) : Type 0 where
  pub inner : List ℕ
  pub behind : List ℕ
  pub inside : drop opening (text ++ rest) ≡ inner ++ behind
  pub first : IsUpTo (begins_with closer) inner behind
  pub ends : rest ≡ drop (length closer) behind

-- no start tag stands at the front
abbrev pub BeginsNoTag : List ℕ → Type 0
BeginsNoTag text = (tag : Tag) (rest : List ℕ) → IsTag tag rest → text ≡ tag_text tag rest → ⊥

-- the end tag of this element
abbrev pub ends_raw_text : List ℕ → List ℕ → Bool
ends_raw_text element text =
    begins_with (codes "</") text
    && str_eq_ignore_ascii_case (take (length element) (drop 2 text)) element
    && begins is_name_end (drop (2 + length element) text)

-- the text behind a start tag that is passed over: none, or all up to the element's end tag
abbrev pub IsRawText : List ℕ → List ℕ → List ℕ → Type 0
IsRawText element raw rest =
    MatchBool (is_raw_text element) (IsUpTo (ends_raw_text element) raw rest) (raw ≡ [])

-- what is taken at a place, by what opens there
abbrev pub Takes : Opening → Part → List ℕ → Type 0
Takes Comment (Untouched text) rest = IsThrough (opening_len Comment) (codes "-->") text rest
Takes Declaration (Untouched text) rest = IsThrough (opening_len Declaration) (codes ">") text rest
Takes EndTag (Untouched text) rest = IsThrough (opening_len EndTag) (codes ">") text rest
Takes StartTag (Element tag raw) rest = IsTag tag (raw ++ rest) × IsRawText tag.name raw rest
Takes StartTag (Untouched text) rest = BeginsNoTag text × (rest ≡ [])
Takes Other (Untouched text) rest = length text ≡ 1
Takes Comment (Element tag raw) rest = ⊥
Takes Declaration (Element tag raw) rest = ⊥
Takes EndTag (Element tag raw) rest = ⊥
Takes Other (Element tag raw) rest = ⊥

-- one part of a page after the other
abbrev pub IsRead : List Part → List ℕ → Type 0
IsRead [] page = page ≡ []
IsRead (part ∷ parts) page =
    (rest : List ℕ) × (page ≡ part_text part rest) × Takes (opening_at page) part rest × IsRead parts rest

-- the pieces of the page
pub record IsSplit (pieces : List Piece) (page : List ℕ) : Type 0 where
  pub parts : List Part
  pub read : IsRead parts page
  pub of_parts : pieces ≡ flat_map part_pieces parts
  pub joins : joined pieces ≡ page

-- two splits of a page are the same
abbrev pub OneSplit : Type 0
OneSplit = (page : List ℕ) (some others : List Piece) → IsSplit some page → IsSplit others page → some ≡ others

-- the page has a split
pub record HasSplit (page : List ℕ) : Type 0 where
  pub pieces : List Piece
  pub split : IsSplit pieces page

-- every page has one
abbrev pub SomeSplit : Type 0
SomeSplit = (page : List ℕ) → HasSplit page
