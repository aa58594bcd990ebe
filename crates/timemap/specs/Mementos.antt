-- The mementos of a URL (RFC 7089, section 2.1.1), and what each is among them.
use Rattle.std.specs.Prelude.{ℕ, Bool, true, false, not, ◌==◌, List, [], ◌∷◌, ◌++◌, codes, filter}
use Rattle.index_entry.specs.Facts.{Facts}
use Rattle.time_text.specs.Texts.{time_digits, http_date}
use Rattle.replay_url.specs.Forms.{memento_address}
use Rattle.replay_url.specs.Links.{link_target, link_relation, link_parameter}

-- the entry has another date
abbrev pub has_other_date : ℕ → Facts → Bool
has_other_date date entry = not (entry.date == date)

-- the entries but those that have an earlier one of their date
abbrev pub each_date_once : List Facts → List Facts
each_date_once [] = []
each_date_once (entry ∷ entries) = entry ∷ filter (has_other_date entry.date) (each_date_once entries)

-- what a memento is among those of its URL (RFC 7089, section 2.2.4): the first of them, the last of them
unfoldable pub relation : Bool → Bool → List ℕ
relation true true = codes "first last memento"
relation true false = codes "first memento"
relation false true = codes "last memento"
relation false false = codes "memento"

-- the link to a memento, which names its date
unfoldable pub memento_link : List ℕ → Bool → Bool → Facts → List ℕ
memento_link base first last entry =
    link_target (memento_address base (time_digits entry.date) false entry.uri)
    ++ link_relation (relation first last)
    ++ link_parameter (codes "datetime") (http_date entry.date)

-- nothing follows
abbrev pub is_last : List Facts → Bool
is_last [] = true
is_last (entry ∷ entries) = false

-- the links to mementos, of which the first is the first of its URL or not
abbrev pub memento_links : List ℕ → Bool → List Facts → List (List ℕ)
memento_links base first [] = []
memento_links base first (entry ∷ entries) =
    memento_link base first (is_last entries) entry ∷ memento_links base false entries
