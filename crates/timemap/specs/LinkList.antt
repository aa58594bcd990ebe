-- The list of a URL's captures (RFC 7089, section 5), a list of links (RFC 6690, section 2).
use Rattle.std.specs.Prelude.{ℕ, true, List, [], ◌∷◌, ◌++◌, codes}
use Rattle.std.specs.List.{flat_map}
use Rattle.index_entry.specs.Facts.{Facts}
use Rattle.time_text.specs.Texts.{http_date}
use Rattle.replay_url.specs.Links.{original_link, gate_link, map_link, link_parameter}
use Rattle.timemap.specs.Mementos.{each_date_once, memento_links}

-- the date of the first entry
abbrev pub first_date : List Facts → ℕ
first_date [] = 0
first_date (entry ∷ entries) = entry.date

-- the date of the last of some entries behind one of this date
abbrev pub last_date_behind : ℕ → List Facts → ℕ
last_date_behind date [] = date
last_date_behind date (entry ∷ entries) = last_date_behind entry.date entries

-- the date of the last entry
abbrev pub last_date : List Facts → ℕ
last_date entries = last_date_behind 0 entries

-- the list itself, from the first date until the last
unfoldable pub self_link : List ℕ → List ℕ → ℕ → ℕ → List ℕ
self_link base url from until =
    map_link (codes "self") base url
    ++ link_parameter (codes "from") (http_date from)
    ++ link_parameter (codes "until") (http_date until)

-- behind a comma, on a line of its own
abbrev pub on_next_line : List ℕ → List ℕ
on_next_line link = codes ",\n" ++ link

-- the links behind the first one
abbrev pub other_links : List ℕ → List ℕ → List Facts → List (List ℕ)
other_links base url entries =
    self_link base url (first_date entries) (last_date entries)
    ∷ gate_link base url
    ∷ memento_links base true (each_date_once entries)

-- the list of the captures of a URL, by the base of the site, the URL that was asked for and the entries of its key
unfoldable pub timemap_text : List ℕ → List ℕ → List Facts → List ℕ
timemap_text base url entries =
    original_link url ++ flat_map on_next_line (other_links base url entries) ++ codes "\n"
