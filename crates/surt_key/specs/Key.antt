-- The look-up key of a URL, by its parts as the URL Standard gives them: a narrowed form of SURT (Sort-friendly URI
-- Reordering Transform).
use Rattle.std.specs.Prelude.{ℕ, Bool, ◌||◌, ◌==◌, List, [], ◌++◌, codes, bytes_eq, decimal, Option, Some, None, Result, Ok, Err, if◌then◌else◌}
use Rattle.std.specs.List.{list_all, slice_split, join_with_byte}
use Rattle.std.specs.Char.{is_ascii}
use Rattle.url.specs.declared.error.ParseError.{ParseError}
use Rattle.url.specs.declared.host.Host.{Host}
use Rattle.url.specs.declared.host.Host.TheVariants.{Domain, Ipv4, Ipv6}
use Rattle.url.specs.Host.{host_text}
use Rattle.url.specs.Input.{is_empty}
use Rattle.url.specs.Parser.{parse_url}
use Rattle.url.specs.Parts.{Parts, nonempty_host}
use Rattle.capture.specs.Fields.{lowered}
use Rattle.surt_key.specs.Labels.{reversed_labels}
use Rattle.surt_key.specs.Sorted.{sorted}

-- `,`
abbrev pub comma : ℕ
comma = 44

-- `&`
abbrev pub ampersand : ℕ
ampersand = 38

-- a domain in reverse, and an IP address as it is
abbrev pub reversed_host : Host (List ℕ) → List ℕ
reversed_host (Domain domain) = join_with_byte comma (reversed_labels domain)
reversed_host (Ipv4 address) = host_text (Ipv4 address)
reversed_host (Ipv6 address) = host_text (Ipv6 address)

-- the host in a key
abbrev pub host_text_of : Option (Host (List ℕ)) → List ℕ
host_text_of (Some host) = reversed_host host
host_text_of None = []

-- the port in a key; the scheme's default port is no part of a URL
abbrev pub port_text : Option ℕ → List ℕ
port_text (Some port) = codes ":" ++ decimal port
port_text None = []

-- the parts of a query between `&`, lowered and sorted
abbrev pub sorted_query : List ℕ → List ℕ
sorted_query query = join_with_byte ampersand (sorted (slice_split (λ b. b == ampersand) (lowered query)))

-- the query in a key, where an empty one is dropped
abbrev pub query_text : Option (List ℕ) → List ℕ
query_text (Some query) = if is_empty query then [] else codes "?" ++ sorted_query query
query_text None = []

-- the key of a URL
unfoldable pub surt_key : Parts → List ℕ
surt_key url =
    host_text_of (nonempty_host url) ++ port_text url.port ++ codes ")" ++ lowered url.path
    ++ query_text url.query

-- the scheme is http or https
abbrev pub is_http : Parts → Bool
is_http url = bytes_eq url.scheme (codes "http") || bytes_eq url.scheme (codes "https")

-- the key of what a text is parsed to
abbrev pub key_of_parsed : Result Parts ParseError → Option (List ℕ)
key_of_parsed (Ok url) = if is_http url then Some (surt_key url) else None
key_of_parsed (Err e) = None

-- the key of a text: there is one where it is of ASCII and a URL whose scheme is http or https
unfoldable pub key_of : List ℕ → Option (List ℕ)
key_of uri = if list_all is_ascii uri then key_of_parsed (parse_url None uri) else None
