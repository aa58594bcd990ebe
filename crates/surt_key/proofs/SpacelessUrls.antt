-- What the parser of URLs makes of an http URL holds no space: the host, the port, the path and the query.
use Rattle.std.proofs.Common.{◌≡◌, ℕ, zero, suc, ◌+◌, ◌-◌, ◌/◌, ◌%◌, ◌^◌, ◌<◌, Bool, true, false, cond, ◌&&◌, ◌==◌, nat_lt, List, [], ◌∷◌, ◌++◌, length, get_or, take, drop, flat_map, decimal, Option, Some, None, Ok, Err, option_map, refl, subst, arith, lit<, ltb-true}
use Rattle.std.specs.Char.{digit_char}
use Rattle.std.specs.Int.{w32, to_be_bytes}
use Rattle.std.specs.List.{list_any, list_all}
use Rattle.std.specs.Char.{is_ascii_digit}
use Rattle.std.specs.Str.Parse.{digits_value}
use Rattle.std.specs.Net.Text.{ipv4_text, hex, groups_text, longest_zero_run, hex_groups_text, compressed_text, leading_zero_digits}
use Rattle.std.proofs.lemmas.Bool.{cond_both, and_parts}
use Rattle.std.proofs.lemmas.Bool.Decides.{nat_tests}
use Rattle.std.proofs.lemmas.Fmt.{decimal_is_IsNumeral}
use Rattle.std.proofs.lemmas.Str.Parse.{digit_at}
use Rattle.std.proofs.lemmas.List.Elements.{All-drop, All-from_get_or}
use Rattle.std.proofs.NetLemmas.Alphabet.{IsDigitOrDot, All-ipv4_text}
use Rattle.percent_encoding.specs.declared.ascii_set.AsciiSet.{AsciiSet}
use Rattle.percent_encoding.specs.Percent.{IsKept, percent_encode, percent_decode}
use Rattle.percent_encoding.proofs.PercentLemmas.{All-percent_encode}
use Rattle.url.specs.declared.sets.TheConstants.{PATH, FORBIDDEN_DOMAIN}
use Rattle.url.specs.declared.error.ParseError.{ParseError}
use Rattle.url.specs.declared.host.Host.{Host}
use Rattle.url.specs.declared.host.Host.TheVariants.{Domain, Ipv4, Ipv6}
use Rattle.url.specs.declared.scheme.SchemeType.{SchemeType}
use Rattle.url.specs.declared.scheme.SchemeType.TheVariants.{SpecialNotFile}
use Rattle.url.specs.Host.{ipv4_host, ipv6_host, ascii_domain, host_of_ascii, is_forbidden_in_domain, parse_bracketed, parse_special_host}
use Rattle.url.specs.Input.{is_empty, when}
use Rattle.url.specs.Ipv4.{ends_in_a_number, parse_ipv4}
use Rattle.url.specs.Parts.{query_set}
use Rattle.url.specs.Path.{dot_count, shorten_path, segment_text, push_segment, parse_segments, parse_path_start, without_last_segment}
use Rattle.url.specs.Parser.{Parsed, and_then, parse_port, without_default_port}
use Rattle.url.specs.Scheme.{is_slash}
use Rattle.url.proofs.HostLemmas.{none_from_list_any}
use Rattle.url.proofs.InputLemmas.{rsplit_once_front}
use Rattle.url.proofs.SetLemmas.{passes_from_kept}
use Rattle.url.proofs.TextLemmas.{query_byte}
use Rattle.surt_key.specs.Key.{reversed_host, port_text}
use Rattle.surt_key.proofs.NoSpace.{IsAbove, Spaceless, nothing, joined, before, front_of, from_bytes, spaceless-labels, IfThere}

-- ---- steps that may be refused

pub ok_then : {A B P : Type 0} (r : Parsed A) (next : A → Parsed B) (y : B) → and_then r next ≡ Ok y → ((x : A) → r ≡ Ok x → next x ≡ Ok y → P) → P
ok_then (Ok x) next y e k = k x refl e
ok_then (Err d) next y e k = cc

pub past_error : {A : Type 0} (test : Bool) (d : ParseError) (r : Parsed A) (y : A) → cond test (Err d) r ≡ Ok y → (test ≡ false) × (r ≡ Ok y)
past_error true d r y e = cc
past_error false d r y e = (refl, e)

pub by_test : {A P : Type 0} (test : Bool) (r s : Parsed A) (y : A) → cond test r s ≡ Ok y → (test ≡ true → r ≡ Ok y → P) → (test ≡ false → s ≡ Ok y → P) → P
by_test true r s y e k l = k refl e
by_test false r s y e k l = l refl e

pub same_ok : {A : Type 0} (x y : A) → ◌≡◌ {A = Parsed A} (Ok x) (Ok y) → x ≡ y
same_ok x y e = cc

-- ---- numbers

spaceless-decimal : (n : ℕ) → n < 2 ^ 64 → Spaceless (decimal n)
spaceless-decimal n fits =
    record { all = All-from_get_or IsAbove (decimal n) 0 λ i h. let d = digit_at (decimal n) i (decimal_is_IsNumeral n fits).0.1 h in omega arith }

octet : (n k : ℕ) → get_or (to_be_bytes w32 n) k 0 < 2 ^ 8
octet n zero = omega arith
octet n (suc zero) = omega arith
octet n (suc (suc zero)) = omega arith
octet n (suc (suc (suc zero))) = omega arith
octet n (suc (suc (suc (suc k)))) = omega arith

digit_above : (d : ℕ) → 32 < digit_char d
digit_above d = grind (arith, nat_tests)

spaceless-hex : (n : ℕ) → Spaceless (hex n)
unfolding hex
spaceless-hex n =
    let digits : Spaceless (digit_char (n / 0x1000) ∷ digit_char (n / 0x100 % 16) ∷ digit_char (n / 0x10 % 16) ∷ digit_char (n % 16) ∷ []) =
    before (digit_above _) (before (digit_above _) (before (digit_above _) (before (digit_above _) nothing))) in
    record { all = All-drop IsAbove (leading_zero_digits n) _ digits.all }

more_groups : (xs : List ℕ) → Spaceless (flat_map (λ t. 58 ∷ hex t) xs)
more_groups [] = nothing
more_groups (x ∷ xs) = joined (before (lit< tt) (spaceless-hex x)) (more_groups xs)

groups : (xs : List ℕ) → Spaceless (groups_text xs)
groups [] = nothing
groups (x ∷ xs) = joined (spaceless-hex x) (more_groups xs)

compressed : (xs : List ℕ) (run : ℕ × ℕ) → Spaceless (compressed_text xs run)
compressed xs run =
    cond_both (nat_lt 1 run.1) _ (groups_text xs) Spaceless
    (λ _. joined (joined (groups (take run.0 xs)) (before (lit< tt) (before (lit< tt) nothing))) (groups (drop (run.0 + run.1) xs))) (λ _. groups xs)

spaceless-hex_groups : (xs : List ℕ) → Spaceless (hex_groups_text xs)
unfolding hex_groups_text
spaceless-hex_groups xs = compressed xs (longest_zero_run xs)

-- ---- hosts

abbrev HostHoldsNone : Host (List ℕ) → Type 0
HostHoldsNone host = Spaceless (reversed_host host)

from_ipv6 : (o : Option (List ℕ)) (host : Host (List ℕ)) → ipv6_host o ≡ Ok host → HostHoldsNone host
from_ipv6 None host e = cc
from_ipv6 (Some segments) host e =
    subst HostHoldsNone (same_ok (Ipv6 (record { segments = segments })) host e) (joined (before (lit< tt) (spaceless-hex_groups segments)) (before (lit< tt) nothing))

from_ipv4 : (o : Option ℕ) (host : Host (List ℕ)) → ipv4_host o ≡ Ok host → HostHoldsNone host
from_ipv4 None host e = cc
from_ipv4 (Some bits) host e =
    subst HostHoldsNone (same_ok (Ipv4 (record { octets = to_be_bytes w32 bits })) host e)
    (from_bytes IsDigitOrDot (ipv4_text (to_be_bytes w32 bits)) (λ b h. grind arith) (All-ipv4_text (to_be_bytes w32 bits) (octet bits)))

bracketed : (bytes : List ℕ) (host : Host (List ℕ)) → parse_bracketed bytes ≡ Ok host → HostHoldsNone host
unfolding parse_bracketed
bracketed bytes host e = by_test (get_or bytes (length bytes - 1) 0 == 93) _ _ host e (λ _ k. from_ipv6 _ host k) (λ _ k. cc)

allowed_byte : (b : ℕ) → is_forbidden_in_domain b ≡ false → 32 < b
allowed_byte b kept = ltb-true 32 b (passes_from_kept FORBIDDEN_DOMAIN (λ x. nat_lt 32 x) refl b kept)

from_domain : (o : Option (List ℕ)) (host : Host (List ℕ)) → host_of_ascii o ≡ Ok host → HostHoldsNone host
from_domain None host e = cc
from_domain (Some domain) host e =
    let filled = past_error (is_empty domain) _ _ host e in
    let allowed = past_error (list_any is_forbidden_in_domain domain) _ _ host filled.1 in
    by_test (ends_in_a_number domain) _ _ host allowed.1 (λ _ k. from_ipv4 (parse_ipv4 domain) host k)
    (λ _ k. subst HostHoldsNone (same_ok (Domain domain) host k) (spaceless-labels domain (from_bytes (λ b. is_forbidden_in_domain b ≡ false) domain allowed_byte (none_from_list_any is_forbidden_in_domain domain allowed.0))))

pub special_host : (bytes : List ℕ) (host : Host (List ℕ)) → parse_special_host bytes ≡ Ok host → HostHoldsNone host
unfolding parse_special_host
special_host bytes host e = by_test _ _ _ host e (λ _ k. bracketed bytes host k) (λ _ k. from_domain (ascii_domain (percent_decode bytes)) host k)

-- ---- ports

abbrev pub IsPort : Option ℕ → Type 0
IsPort None = Unit {0}
IsPort (Some n) = n < 2 ^ 16

pub parsed_port : (scheme digits : List ℕ) (port : Option ℕ) → parse_port scheme digits ≡ Ok port → IsPort port
unfolding parse_port
parsed_port scheme digits port e =
    by_test (is_empty digits) _ _ port e (λ _ k. subst IsPort (same_ok None port k) tt)
    λ _ k. by_test (list_all is_ascii_digit digits && nat_lt (digits_value 10 digits) (2 ^ 16)) _ _ port k
    (λ small l.
    let below = ltb-true _ _ (and_parts (list_all is_ascii_digit digits) _ small).1 in
    subst IsPort (same_ok (without_default_port scheme (Some (digits_value 10 digits))) port l)
    (cond_both _ None (Some (digits_value 10 digits)) IsPort (λ _. tt) (λ _. below)))
    (λ _ l. cc)

pub spaceless-port : (port : Option ℕ) → IsPort port → Spaceless (port_text port)
spaceless-port None h = nothing
spaceless-port (Some n) h = before (lit< tt) (spaceless-decimal n (omega (arith, h)))

-- ---- paths

encoded : (set : AsciiSet) (bytes : List ℕ) → ((b : ℕ) → IsKept set b → 32 < b) → Spaceless (percent_encode set bytes)
encoded set bytes above = record { all = All-percent_encode IsAbove set bytes above (λ b escape. grind arith) }

path_byte : (b : ℕ) → IsKept PATH b → 32 < b
path_byte b kept = ltb-true 32 b (passes_from_kept PATH (λ x. nat_lt 32 x) refl b kept)

slash_if : (is_last : Bool) → Spaceless (when is_last (47 ∷ []))
slash_if true = before (lit< tt) nothing
slash_if false = nothing

shortened : (path : List ℕ) → Spaceless path → Spaceless (shorten_path SpecialNotFile path)
unfolding shorten_path
shortened path h =
    let cut = rsplit_once_front 47 path in
    front_of (without_last_segment path) cut.0 (subst Spaceless cut.1 h)

pushed : (path segment : List ℕ) (is_last : Bool) → Spaceless path → Spaceless (push_segment SpecialNotFile path segment is_last)
unfolding push_segment
pushed path segment is_last h =
    cond_both (dot_count segment == 2) (shorten_path SpecialNotFile path ++ when is_last (47 ∷ [])) _ Spaceless (λ _. joined (shortened path h) (slash_if is_last))
    λ _. cond_both (dot_count segment == 1) (path ++ when is_last (47 ∷ [])) (path ++ 47 ∷ segment_text SpecialNotFile path segment) Spaceless (λ _. joined h (slash_if is_last))
    (λ _. joined h (before (lit< tt) (encoded PATH segment path_byte)))

segments : (bytes path segment : List ℕ) → Spaceless path → Spaceless (parse_segments SpecialNotFile path segment bytes)
unfolding parse_segments
segments [] path segment h = pushed path segment true h
segments (b ∷ bytes) path segment h =
    let next = segments bytes (push_segment SpecialNotFile path segment false) [] (pushed path segment false h) in
    let longer = segments bytes path (segment ++ b ∷ []) h in
    cond_both (is_slash SpecialNotFile b) (parse_segments SpecialNotFile (push_segment SpecialNotFile path segment false) [] bytes) (parse_segments SpecialNotFile path (segment ++ b ∷ []) bytes)
    Spaceless (λ _. next) (λ _. longer)

pub parsed_path : (bytes : List ℕ) → Spaceless (parse_path_start SpecialNotFile [] bytes)
unfolding parse_path_start
parsed_path bytes =
    cond_both (is_empty bytes && false) [] _ Spaceless (λ _. nothing)
    λ _. cond_both (is_slash SpecialNotFile (get_or bytes 0 0)) (parse_segments SpecialNotFile [] [] (drop 1 bytes)) (parse_segments SpecialNotFile [] [] bytes) Spaceless
    (λ _. segments (drop 1 bytes) [] [] nothing) (λ _. segments bytes [] [] nothing)

-- ---- queries

query_above : (kind : SchemeType) (b : ℕ) → IsKept (query_set kind) b → 32 < b
query_above kind b kept = let passes = query_byte kind b kept in grind (arith, nat_tests)

pub parsed_query : (kind : SchemeType) (query : Option (List ℕ)) → IfThere (option_map (percent_encode (query_set kind)) query)
parsed_query kind None = tt
parsed_query kind (Some query) = encoded (query_set kind) query (query_above kind)
