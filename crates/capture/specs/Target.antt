-- Request targets in absolute form that are served (RFC 9112, section 3.2.2; RFC 3986), and what is dialed and
-- asked for them.
use Rattle.std.specs.Prelude.{◌≡◌, ℕ, Bool, not, ◌&&◌, ◌||◌, ◌==◌, nat_le, List, [], ◌∷◌, ◌++◌, codes, take, drop, length, None, unwrap_or, is_ok, Ok, IsTrue, if◌then◌else◌}
use Rattle.std.specs.List.{list_all, list_any, prefix_len}
use Rattle.std.specs.Str.{bytes_eq}
use Rattle.url.specs.Host.{host_text}
use Rattle.url.specs.Parts.{Parts, host_or_empty}
use Rattle.url.specs.Parser.{parse_url}
use Rattle.capture.specs.Fields.{lowered}

-- a visible byte of ASCII, but for those that would break the address of a memento
abbrev pub is_target_byte : ℕ → Bool
is_target_byte b = nat_le 33 b && nat_le b 126 && not (list_any (λ c. c == b) (codes "\"<>\\#"))

-- a byte that doesn't end an authority, as `/` and `?` do
abbrev pub is_authority_byte : ℕ → Bool
is_authority_byte b = not (b == 47 || b == 63)

-- how long the authority is, which goes up to the first `/` or `?`
abbrev pub authority_len : List ℕ → ℕ
authority_len bytes = prefix_len is_authority_byte bytes

abbrev pub http_prefix : List ℕ
http_prefix = codes "http://"

-- it begins with `http://`, in whatever case
abbrev pub begins_with_http : List ℕ → Bool
begins_with_http target = bytes_eq (lowered (take 7 target)) http_prefix

-- the authority of a target that begins with `http://`
abbrev pub authority_of : List ℕ → List ℕ
authority_of target = take (authority_len (drop 7 target)) (drop 7 target)

-- what follows the authority
abbrev pub after_authority : List ℕ → List ℕ
after_authority target = drop (authority_len (drop 7 target)) (drop 7 target)

-- the authority is there and has no user name or password
abbrev pub is_plain_authority : List ℕ → Bool
is_plain_authority authority = not (length authority == 0) && not (list_any (λ b. b == 64) authority)

-- each byte is one of a target
abbrev pub is_target_text : List ℕ → Bool
is_target_text target = list_all is_target_byte target

-- an absolute target by its bytes alone
abbrev pub is_http_target : List ℕ → Bool
is_http_target target =
    is_target_text target && begins_with_http target && is_plain_authority (authority_of target)

-- an accepted absolute target, which is this URL
pub record IsAcceptedAs (target : List ℕ) (url : Parts) : Type 0 where
  pub form : IsTrue (is_http_target target)
  pub parses : parse_url None target ≡ Ok url

-- an accepted absolute target
abbrev pub is_accepted_uri : List ℕ → Bool
is_accepted_uri target = is_http_target target && is_ok (parse_url None target)

-- the host that is dialed
abbrev pub host_of : Parts → List ℕ
host_of url = host_text (host_or_empty url)

-- the port that is dialed
abbrev pub port_of : Parts → ℕ
port_of url = unwrap_or url.port 80

-- the target that the origin gets (RFC 9112, sections 3.2.1 and 3.2.4), of what follows the authority
abbrev pub origin_form : List ℕ → List ℕ → List ℕ
origin_form method [] = if bytes_eq method (codes "OPTIONS") then codes "*" else codes "/"
origin_form method (b ∷ bytes) = if b == 63 then codes "/" ++ b ∷ bytes else b ∷ bytes
