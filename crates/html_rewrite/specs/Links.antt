-- What a link's value is replaced by.
use Rattle.std.specs.Prelude.{ℕ, zero, suc, Bool, ◌||◌, ◌&&◌, ◌==◌, List, [], ◌∷◌, ◌++◌, codes, bytes_eq, Option, Some, None, Result, Ok, Err, if◌then◌else◌}
use Rattle.std.specs.List.{flat_map}
use Rattle.std.specs.Str.{is_utf8}
use Rattle.std.specs.Result.{result_ok}
use Rattle.time_text.specs.Texts.{time_digits}
use Rattle.url.specs.declared.error.ParseError.{ParseError}
use Rattle.url.specs.Parser.{parse_url}
use Rattle.url.specs.Parts.{Parts, serialize}
use Rattle.html_rewrite.specs.Bytes.{apostrophe, is_empty, begins, begins_with}

-- `&`
abbrev pub ampersand : ℕ
ampersand = 38

-- `#`
abbrev pub number_sign : ℕ
number_sign = 35

-- how many bytes aren't read behind a byte: those of `amp;` behind `&`
abbrev pub skipped : ℕ → List ℕ → ℕ
skipped b text = if b == ampersand && begins_with (codes "amp;") text then 4 else 0

-- the text without so many bytes at its front, where each `&amp;` is read as `&`
abbrev pub decoded_behind : ℕ → List ℕ → List ℕ
decoded_behind n [] = []
decoded_behind zero (b ∷ text) =
    b ∷ decoded_behind (skipped b text) text
decoded_behind (suc n) (b ∷ text) = decoded_behind n text

-- the value as it is read: each `&amp;` as `&`
abbrev pub decoded : List ℕ → List ℕ
decoded value = decoded_behind 0 value

-- a byte of an address, written so that it neither begins a reference nor ends a value in quotes
abbrev pub escaped_byte : ℕ → List ℕ
escaped_byte b =
    if b == ampersand then codes "&amp;" else (if b == apostrophe then codes "&#39;" else b ∷ [])

abbrev pub escaped : List ℕ → List ℕ
escaped address = flat_map escaped_byte address

-- the scheme is http or https
abbrev pub is_http : Parts → Bool
is_http url = bytes_eq url.scheme (codes "http") || bytes_eq url.scheme (codes "https")

abbrev pub http_url : Result Parts ParseError → Option Parts
http_url (Ok url) = if is_http url then Some url else None
http_url (Err e) = None

-- where a reference leads to from the page's own address, if that is a URL and it leads to http or https
abbrev pub target_from : Option Parts → List ℕ → Option Parts
target_from None reference = None
target_from (Some base) reference = http_url (parse_url (Some base) reference)

-- an empty reference, or one to a place in the page itself
abbrev pub leads_nowhere : List ℕ → Bool
leads_nowhere reference = is_empty reference || begins (λ b. b == number_sign) reference

-- where a reference leads to, if it is a text
abbrev pub text_target : Option Parts → List ℕ → Option Parts
text_target base reference = if is_utf8 reference then target_from base reference else None

-- where a value that was read leads to, if it is to be replaced
abbrev pub target_read : Option Parts → List ℕ → Option Parts
target_read base reference = if leads_nowhere reference then None else text_target base reference

-- where a value leads to, if it is to be replaced
abbrev pub target_of : Option Parts → List ℕ → Option Parts
target_of base value = target_read base (decoded value)

-- the address of a target in the archive
abbrev pub address : List ℕ → Parts → List ℕ
address prefix url = prefix ++ escaped (serialize url)

-- what a value is replaced by: the address of its target, or itself
abbrev pub link_to : List ℕ → List ℕ → Option Parts → List ℕ
link_to prefix value None = value
link_to prefix value (Some url) = address prefix url

abbrev pub link : List ℕ → Option Parts → List ℕ → List ℕ
link prefix base value = link_to prefix value (target_of base value)

-- what stands before each target's address: `BASE/web/TIME/`
abbrev pub archive_prefix : List ℕ → ℕ → List ℕ
archive_prefix base time = base ++ codes "/web/" ++ time_digits time ++ codes "/"

-- the URL of the page
abbrev pub page_url : List ℕ → Option Parts
page_url base = if is_utf8 base then result_ok (parse_url None base) else None

-- where a reference leads to from an address, if that is http or https
abbrev pub web_target : List ℕ → List ℕ → Option Parts
web_target base reference = text_target (page_url base) reference
