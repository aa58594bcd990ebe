-- Tables of header fields, whose names are compared with ASCII case ignored (RFC 9110 section 5.1).
use Rattle.std.specs.Prelude.{ℕ, Bool, List, [], ◌∷◌, codes}
use Rattle.name_table.specs.NameTable.{is_named}

-- the fields that a proxy doesn't pass on (RFC 9110 sections 6.6.2, 7.6.1, 10.1.1 and 11.7)
unfoldable pub hop_by_hop : List (List ℕ)
hop_by_hop =
    codes "connection"
    ∷ codes "expect"
    ∷ codes "keep-alive"
    ∷ codes "proxy-authenticate"
    ∷ codes "proxy-authorization"
    ∷ codes "proxy-connection"
    ∷ codes "te"
    ∷ codes "trailer"
    ∷ codes "transfer-encoding"
    ∷ codes "upgrade"
    ∷ []

-- the name of a field that a proxy doesn't pass on
abbrev pub is_hop : List ℕ → Bool
is_hop name = is_named hop_by_hop name

-- the fields that keep their own name in a memento (RFC 7089)
unfoldable pub kept_in_memento : List (List ℕ)
kept_in_memento =
    codes "content-encoding" ∷ codes "content-language" ∷ codes "content-type" ∷ codes "location" ∷ []

-- the name of a field that keeps it in a memento
abbrev pub is_kept : List ℕ → Bool
is_kept name = is_named kept_in_memento name
