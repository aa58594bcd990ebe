-- The elements and attributes whose values are links, and the elements whose contents are text (HTML Standard, sections
-- 4 and 13.1.2).
use Rattle.std.specs.Prelude.{ℕ, Bool, List, [], ◌∷◌, ◌++◌, codes}
use Rattle.name_table.specs.NameTable.{is_named}

-- an element, a space, and its attribute that holds a link
unfoldable pub link_attributes : List (List ℕ)
link_attributes =
    codes "a href"
    ∷ codes "area href"
    ∷ codes "audio src"
    ∷ codes "body background"
    ∷ codes "embed src"
    ∷ codes "form action"
    ∷ codes "frame src"
    ∷ codes "iframe src"
    ∷ codes "img src"
    ∷ codes "input src"
    ∷ codes "link href"
    ∷ codes "object data"
    ∷ codes "script src"
    ∷ codes "source src"
    ∷ codes "track src"
    ∷ codes "video poster"
    ∷ codes "video src"
    ∷ []

-- this element's attribute holds a link
abbrev pub is_link : List ℕ → List ℕ → Bool
is_link element attribute = is_named link_attributes (element ++ codes " " ++ attribute)

-- the elements whose contents are text up to their end tag
unfoldable pub raw_text_elements : List (List ℕ)
raw_text_elements =
    codes "iframe"
    ∷ codes "noembed"
    ∷ codes "noframes"
    ∷ codes "script"
    ∷ codes "style"
    ∷ codes "textarea"
    ∷ codes "title"
    ∷ codes "xmp"
    ∷ []

-- this element's contents are text
abbrev pub is_raw_text : List ℕ → Bool
is_raw_text element = is_named raw_text_elements element
