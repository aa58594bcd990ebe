-- Links to what the archive has of a URL (RFC 8288, section 3; RFC 7089, section 2.2).
use Rattle.std.specs.Prelude.{ℕ, List, ◌++◌, codes}
use Rattle.replay_url.specs.Forms.{gate_address, map_address}

-- a link's target (RFC 8288, section 3: the link-value's URI)
unfoldable pub link_target : List ℕ → List ℕ
link_target address = codes "<" ++ address ++ codes ">"

-- a parameter of a link, with its value in quotes
unfoldable pub link_parameter : List ℕ → List ℕ → List ℕ
link_parameter name value = codes "; " ++ name ++ codes "=\"" ++ value ++ codes "\""

-- what the target is to the one who asked
abbrev pub link_relation : List ℕ → List ℕ
link_relation relation = link_parameter (codes "rel") relation

-- the media type of a list of links (RFC 6690, section 7.3)
abbrev pub link_format : List ℕ
link_format = codes "application/link-format"

-- the URL itself (RFC 7089, section 2.2.1)
unfoldable pub original_link : List ℕ → List ℕ
original_link url = link_target url ++ link_relation (codes "original")

-- the URL's gate (section 2.2.2)
unfoldable pub gate_link : List ℕ → List ℕ → List ℕ
gate_link base url = link_target (gate_address base url) ++ link_relation (codes "timegate")

-- the list of the URL's captures, as a relation of it (section 2.2.3)
unfoldable pub map_link : List ℕ → List ℕ → List ℕ → List ℕ
map_link relation base url =
    link_target (map_address base url) ++ link_relation relation ++ link_parameter (codes "type") link_format
