-- Which entries of an index a query asks for.
use Rattle.std.specs.Prelude.{ℕ, Bool, true, not, ◌&&◌, ◌||◌, ◌==◌, nat_eq, List, ◌++◌, bytes_eq, codes, length, take, Option, Some, None}
use Rattle.std.specs.Cmp.Lexicographic.{slice_cmp}
use Rattle.std.specs.List.{take_while, starts_with}
use Rattle.std.specs.Ordering.{nat_cmp, is_le}
use Rattle.index_entry.specs.Facts.{Facts}
use Rattle.time_text.specs.Texts.{all_digits}
use Rattle.cdx_query.specs.declared.query.MatchKind.{MatchKind}
use Rattle.cdx_query.specs.declared.query.MatchKind.TheVariants.{Exact, Prefix, Host, Domain}
use Rattle.cdx_query.specs.declared.query.Query.{Query}

-- `)`, which ends the host in a key
abbrev pub closing : ℕ
closing = 41

-- the byte doesn't end the host
abbrev pub is_of_host : ℕ → Bool
is_of_host byte = not (byte == closing)

-- the host in a key, with its port: what stands before the first `)`
abbrev pub host_of : List ℕ → List ℕ
host_of key = take_while is_of_host key

-- the key begins so
abbrev pub begins : List ℕ → List ℕ → Bool
begins start key = starts_with nat_eq key start

-- Whether the key of an entry meets the match type of a query, whose key is the first: it is that key; it begins with it; it has its
-- host; or it has its host, or one of that host's subdomains.
abbrev pub is_match : MatchKind → List ℕ → List ℕ → Bool
is_match Exact key other = bytes_eq key other
is_match Prefix key other = begins key other
is_match Host key other = begins (host_of key ++ codes ")") other
is_match Domain key other = begins (host_of key ++ codes ")") other || begins (host_of key ++ codes ",") other

-- what the keys that meet the match type begin with
abbrev pub start_of : MatchKind → List ℕ → List ℕ
start_of Exact key = key
start_of Prefix key = key
start_of Host key = host_of key
start_of Domain key = host_of key

-- the first of the seventeen digits of a date
abbrev pub first_digits : ℕ → ℕ → List ℕ
first_digits count date = take count (all_digits date)

-- the first text isn't behind the second, in the order of their bytes
abbrev pub is_up_to : List ℕ → List ℕ → Bool
is_up_to a b = is_le (slice_cmp nat_cmp a b)

-- the date isn't before the time that these digits name, if any: as many of its own digits are compared
abbrev pub is_from : Option (List ℕ) → ℕ → Bool
is_from None date = true
is_from (Some from) date = is_up_to from (first_digits (length from) date)

-- the date isn't behind the time that these digits name, if any. No digit is added to them, so all that `2024` names is within `2024`.
abbrev pub is_to : Option (List ℕ) → ℕ → Bool
is_to None date = true
is_to (Some to) date = is_up_to (first_digits (length to) date) to

-- the entry meets all that the query says but the limit
abbrev pub meets : Query → Facts → Bool
meets query entry = is_match query.kind query.key entry.key && is_from query.from entry.date && is_to query.to entry.date

-- the first entries, as many as the limit says, if any
abbrev pub limited : Option ℕ → List Facts → List Facts
limited None entries = entries
limited (Some limit) entries = take limit entries
