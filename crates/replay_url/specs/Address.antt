-- An address of the archive's site, by what it begins with (RFC 7089, section 4, leaves their form to the archive).
use Rattle.std.specs.Prelude.{ℕ, zero, suc, Bool, true, false, ◌&&◌, ◌==◌, List, nat_eq, nat_le, length, take, drop, slice_index, codes, if◌then◌else◌}
use Rattle.std.specs.Char.{is_ascii_digit, is_ascii_lowercase}
use Rattle.std.specs.List.{prefix_len, starts_with}
use Rattle.replay_url.specs.declared.address.Address.{Address}
use Rattle.replay_url.specs.declared.address.Address.TheVariants.{ANumber, AShip, AMap, AQuery, AMemento, AModified, AGate, AnotherPath}

-- an address by its parts: what stands behind `rec/`, or behind `ship/`; the URL behind `timemap/link/`; what stands behind
-- `cdx?`; digits, whether `id_` follows them, and the URL behind them; digits with another modifier; any other URL; or an address
-- outside `/web/`
pub data Parts : Type 0 where
  Numbered : List ℕ → Parts
  Shipped : List ℕ → Parts
  Mapped : List ℕ → Parts
  Queried : List ℕ → Parts
  Timed : List ℕ → Bool → List ℕ → Parts
  Modified : Parts
  Open : List ℕ → Parts
  Outside : Parts

-- the parts that an address shows
abbrev pub parts_of : Address → Parts
parts_of (ANumber text) = Numbered text.now
parts_of (AShip text) = Shipped text.now
parts_of (AMap url) = Mapped url.now
parts_of (AQuery text) = Queried text.now
parts_of (AMemento digits raw url) = Timed digits.now raw url.now
parts_of AModified = Modified
parts_of (AGate url) = Open url.now
parts_of AnotherPath = Outside

-- the text begins with this one
abbrev pub begins_with : List ℕ → List ℕ → Bool
begins_with front text = starts_with nat_eq text front

-- `/`
abbrev pub slash : List ℕ
slash = codes "/"

-- `id_/`, behind the digits of a raw memento
abbrev pub raw_modifier : List ℕ
raw_modifier = codes "id_/"

-- it begins with a modifier: two letters a to z, `_` and `/`
abbrev pub has_modifier : List ℕ → Bool
has_modifier text =
    nat_le 4 (length text) && is_ascii_lowercase (slice_index text 0) && is_ascii_lowercase (slice_index text 1)
    && slice_index text 2 == 95 && slice_index text 3 == 47

-- behind digits
abbrev pub behind_digits : List ℕ → List ℕ → List ℕ → Parts
behind_digits digits rest whole =
    if begins_with slash rest then Timed digits false (drop 1 rest)
    else (if begins_with raw_modifier rest then Timed digits true (drop 4 rest)
    else (if has_modifier rest then Modified else Open whole))

-- an address that begins with so many digits
abbrev pub digits_first : ℕ → List ℕ → Parts
digits_first zero text = Open text
digits_first (suc n) text = behind_digits (take (suc n) text) (drop (suc n) text) text

-- behind `/web/`
abbrev pub behind_web : List ℕ → Parts
behind_web text =
    if begins_with (codes "rec/") text then Numbered (drop 4 text)
    else (if begins_with (codes "ship/") text then Shipped (drop 5 text)
    else (if begins_with (codes "timemap/link/") text then Mapped (drop 13 text)
    else (if begins_with (codes "cdx?") text then Queried (drop 4 text)
    else digits_first (prefix_len is_ascii_digit text) text)))

unfoldable pub parts_at : List ℕ → Parts
parts_at target = if begins_with (codes "/web/") target then behind_web (drop 5 target) else Outside
