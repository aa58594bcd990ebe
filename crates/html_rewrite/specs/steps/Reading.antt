-- What the steps of reading a page tell of it.
use Rattle.std.specs.Prelude.{◌≡◌, ◌⊎◌, ℕ, ◌+◌, ◌<◌, not, ◌==◌, List, [], ◌∷◌, ◌++◌, length, take, drop, Option, None, Some, true, false, if◌then◌else◌}
use Rattle.std.specs.List.{flat_map, prefix_len}
use Rattle.html_rewrite.specs.declared.attribute.Found.{Found}
use Rattle.html_rewrite.specs.declared.attribute.Found.TheVariants.{Missing, Unclosed, Value}
use Rattle.html_rewrite.specs.declared.attribute.Next.{Next}
use Rattle.html_rewrite.specs.declared.attribute.Next.TheVariants.{AnAttribute, Close, PageEnd}
use Rattle.html_rewrite.specs.declared.link.Links.{Links}
use Rattle.html_rewrite.specs.declared.rewriter.Rewriter.{Rewriter}
use Rattle.html_rewrite.specs.declared.rewriter.Written.{Written}
use Rattle.html_rewrite.specs.Bytes.{greater, equals, is_blank, is_gap, begins, IsRun}
use Rattle.html_rewrite.specs.Names.{is_link}
use Rattle.html_rewrite.specs.Links.{link}
use Rattle.html_rewrite.specs.Pieces.{piece_with, replaced}
use Rattle.html_rewrite.specs.Rewritten.{within}
use Rattle.html_rewrite.specs.Tags.{Assignment, Attribute, IsAssigned, IsInside, assigns, assigned_text, quote_text, inside_text}
use Rattle.html_rewrite.specs.Split.{Part, IsRead, attribute_pieces, part_pieces, value_piece}

-- how long blanks, `=` and blanks are, or nothing where no `=` follows
abbrev pub sign_len : List ℕ → ℕ
sign_len text =
    let rest = drop (prefix_len is_blank text) text in
    if begins (λ b. b == equals) rest then prefix_len is_blank text + 1 + prefix_len is_blank (drop 1 rest) else 0

-- the value that stands here, with the lengths of its parts
pub record IsValueAt (text : List ℕ) (lead len closing : ℕ) : Type 0 where
  pub assignment : Assignment
  pub rest : List ℕ
  pub assigned : IsAssigned assignment rest
  pub parts : text ≡ assigned_text (Some assignment) rest
  pub leads : length assignment.before + 1 + length assignment.after + length (quote_text assignment.quote) ≡ lead
  pub lasts : length assignment.value ≡ len
  pub closes : length (quote_text assignment.quote) ≡ closing

-- no value that has its end stands here
pub record IsUnclosed (text : List ℕ) : Type 0 where
  pub signed : assigns text ≡ true
  pub none : (a : Assignment) (rest : List ℕ) → IsAssigned a rest → text ≡ assigned_text (Some a) rest → ⊥

abbrev pub IsFound : List ℕ → Found → Type 0
IsFound text Missing = assigns text ≡ false
IsFound text Unclosed = IsUnclosed text
IsFound text (Value lead len closing) = IsValueAt text lead len closing

-- behind so many blanks and slashes something stands that isn't `>`
pub record BeginsAttribute (text : List ℕ) (len : ℕ) : Type 0 where
  pub run : len ≡ prefix_len is_gap text
  pub first : begins (λ b. not (b == greater)) (drop len text) ≡ true

-- behind blanks and slashes `>` stands; so many bytes are read with it
pub record Closes (text : List ℕ) (len : ℕ) : Type 0 where
  pub gap : List ℕ
  pub rest : List ℕ
  pub run : IsRun is_gap gap (greater ∷ rest)
  pub parts : text ≡ gap ++ (greater ∷ rest)
  pub lasts : length gap + 1 ≡ len

abbrev pub IsNext : List ℕ → Next → Type 0
IsNext text (AnAttribute len) = BeginsAttribute text len
IsNext text (Close len) = Closes text len
IsNext text PageEnd = prefix_len is_gap text ≡ length text

-- the text so far, if it is within the limit, and a piece behind it
abbrev pub grown : ℕ → Option (List ℕ) → List ℕ → Option (List ℕ)
grown limit None piece = None
grown limit (Some text) piece = within limit (text ++ piece)

-- what is written, if it is within the limit
abbrev pub text_of : Written → Option (List ℕ)
text_of written = if written.fits then Some written.text.items else None

-- what was read, with each link replaced, if that is within the limit
abbrev pub done : ℕ → Rewriter → Option (List ℕ)
done limit rewriter = grown limit (text_of rewriter.written) (take rewriter.read rewriter.run.now)

-- what is still to be read
abbrev pub ahead : Rewriter → List ℕ
ahead rewriter = drop rewriter.read rewriter.run.now

-- what a value is replaced by
abbrev pub link_by : Links → List ℕ → List ℕ
link_by links = link links.prefix.items links.base

-- the page was read, or is longer than the limit
abbrev pub IsDone : Rewriter → Type 0
IsDone rewriter = (rewriter.written.fits ≡ false) ⊎ (ahead rewriter ≡ [])

-- the next so many bytes were read as they are
pub record Passes (n : ℕ) (old new : Rewriter) : Type 0 where
  pub written : (limit : ℕ) → done limit new ≡ grown limit (done limit old) (take n (ahead old))
  pub rest : ahead new ≡ drop n (ahead old)

-- the next so many bytes were read as a link
pub record ReadsLink (limit : ℕ) (link : List ℕ → List ℕ) (n : ℕ) (old new : Rewriter) : Type 0 where
  pub written : done limit new ≡ grown limit (done limit old) (link (take n (ahead old)))
  pub rest : ahead new ≡ drop n (ahead old)

-- nothing of the page was read
pub record IsUnread (page : List ℕ) (rewriter : Rewriter) : Type 0 where
  pub written : (limit : ℕ) → done limit rewriter ≡ Some []
  pub rest : ahead rewriter ≡ page

-- the next so many bytes were read as the value of this element's attribute
pub record Reads (limit : ℕ) (link : List ℕ → List ℕ) (element attribute : List ℕ) (n : ℕ) (old new : Rewriter) : Type 0 where
  pub written : done limit new ≡ grown limit (done limit old) (piece_with link (value_piece (is_link element attribute) (take n (ahead old))))
  pub rest : ahead new ≡ drop n (ahead old)

-- the inside of a tag stands here, up to its `>`
pub record HasInside (text : List ℕ) : Type 0 where
  pub attributes : List Attribute
  pub gap : List ℕ
  pub rest : List ℕ
  pub inside : IsInside attributes gap rest
  pub parts : text ≡ inside_text attributes gap rest

-- no inside of a tag stands here
abbrev pub LacksInside : List ℕ → Type 0
LacksInside text = (attributes : List Attribute) (gap rest : List ℕ) → IsInside attributes gap rest → text ≡ inside_text attributes gap rest → ⊥

-- the inside of a tag, read from an earlier place
pub record Earlier (limit : ℕ) (link : List ℕ → List ℕ) (element : List ℕ) (old new : Rewriter) (attributes : List Attribute) (gap rest : List ℕ) : Type 0 where
  pub whole : List Attribute
  pub inside : IsInside whole gap rest
  pub parts : ahead old ≡ inside_text whole gap rest
  pub written : grown limit (done limit old) (replaced link (flat_map (attribute_pieces element) whole)) ≡ grown limit (done limit new) (replaced link (flat_map (attribute_pieces element) attributes))

-- the inside of a tag, read from a later place
pub record Later (new : Rewriter) (gap rest : List ℕ) : Type 0 where
  pub attributes : List Attribute
  pub inside : IsInside attributes gap rest
  pub parts : ahead new ≡ inside_text attributes gap rest

-- from here the inside of a tag goes on as it does from there, and what was read between are attributes
pub record LeadsOn (limit : ℕ) (link : List ℕ → List ℕ) (element : List ℕ) (old new : Rewriter) : Type 0 where
  pub onward : (attributes : List Attribute) (gap rest : List ℕ) → IsInside attributes gap rest → ahead new ≡ inside_text attributes gap rest → Earlier limit link element old new attributes gap rest
  pub back : (attributes : List Attribute) (gap rest : List ℕ) → IsInside attributes gap rest → ahead old ≡ inside_text attributes gap rest → Later new gap rest
  pub shorter : length (ahead new) < length (ahead old)

-- the inside of a tag and its `>` were read
pub record ReadsInside (limit : ℕ) (link : List ℕ → List ℕ) (element : List ℕ) (old new : Rewriter) : Type 0 where
  pub attributes : List Attribute
  pub gap : List ℕ
  pub inside : IsInside attributes gap (ahead new)
  pub parts : ahead old ≡ inside_text attributes gap (ahead new)
  pub written : done limit new ≡ grown limit (done limit old) (replaced link (flat_map (attribute_pieces element) attributes) ++ (gap ++ (greater ∷ [])))

-- the page, read from an earlier place
pub record EarlierParts (limit : ℕ) (link : List ℕ → List ℕ) (old new : Rewriter) (parts : List Part) : Type 0 where
  pub whole : List Part
  pub read : IsRead whole (ahead old)
  pub written : grown limit (done limit old) (replaced link (flat_map part_pieces whole)) ≡ grown limit (done limit new) (replaced link (flat_map part_pieces parts))

-- from here the page goes on as it does from there, and what was read between are parts
pub record ReadsParts (limit : ℕ) (link : List ℕ → List ℕ) (old new : Rewriter) : Type 0 where
  pub onward : (parts : List Part) → IsRead parts (ahead new) → EarlierParts limit link old new parts
  pub shorter : length (ahead new) < length (ahead old)
