-- The base of a site, to which the paths of its pages are put behind (RFC 3986, section 3).
use Rattle.std.specs.Prelude.{ℕ, List, [], ◌∷◌, ◌++◌, Bool, ◌&&◌, codes, Option, Some, None, is_none, Result, Ok, Err, if◌then◌else◌}
use Rattle.std.specs.Str.{bytes_eq}
use Rattle.capture.specs.Target.{host_of, port_of}
use Rattle.capture.specs.declared.site.Site.{Site}
use Rattle.url.specs.Input.{is_empty}
use Rattle.url.specs.Parts.{Parts, serialize}
use Rattle.url.specs.Parser.{parse_url}
use Rattle.url.specs.declared.error.ParseError.{ParseError}

-- a base with the slash of its path
abbrev pub with_slash : List ℕ → List ℕ
with_slash base = base ++ codes "/"

-- no user name, no password, no query and no fragment
abbrev pub is_bare : Parts → Bool
is_bare url = is_empty url.username && is_empty url.password && is_none url.query && is_none url.fragment

-- the URL is an `http` one that has nothing but a host, perhaps a port, and the path `/`, and is printed as this text
abbrev pub is_base : Parts → List ℕ → Bool
is_base url text =
    is_bare url && bytes_eq url.scheme (codes "http") && bytes_eq url.path (codes "/") && bytes_eq (serialize url) text

-- the site with this base, which is the URL
abbrev pub site_by : List ℕ → Parts → Site
site_by base url = record { base = base; host = host_of url; port = port_of url }

-- the site of what was parsed of a base with its slash, if the text is a base
abbrev pub site_in : List ℕ → Result Parts ParseError → Option Site
site_in base (Ok url) = if is_base url (with_slash base) then Some (site_by base url) else None
site_in base (Err error) = None

-- The site of a base: an `http` URL of a host and perhaps a port, printed as the base is written, with the slash of its path behind it. No other
-- text has one.
abbrev pub site_of : List ℕ → Option Site
site_of base = site_in base (parse_url None (with_slash base))

-- the site of the third word, if there is one and it is a base
abbrev pub site_among : List (List ℕ) → Option Site
site_among [] = None
site_among (name ∷ []) = None
site_among (name ∷ namespace ∷ []) = None
site_among (name ∷ namespace ∷ base ∷ words) = site_of base
