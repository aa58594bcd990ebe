-- What is known of the host and the port of a URL that was parsed: the host's bytes can stand in a field's value, and
-- the port has 16 bits.
use Rattle.std.proofs.Common.{◌≡◌, ℕ, zero, suc, ◌+◌, ◌*◌, ◌-◌, ◌^◌, ◌<◌, ◌≤◌, Bool, true, false, not, ◌&&◌, ◌||◌, ◌==◌, nat_lt, List, [], ◌∷◌, ◌++◌, length, get_or, slice_range, take, drop, replicate, Option, Some, None, Ok, Err, is_some, unwrap_or, IsTrue, All, inl, inr, refl, sym, subst, arith, lit≤, if◌then◌else◌}
use Rattle.std.specs.Prelude.{IfSome, codes}
use Rattle.std.specs.Char.{is_ascii_digit}
use Rattle.std.specs.Int.{w32, to_be_bytes}
use Rattle.std.specs.List.{list_any, list_all}
use Rattle.std.specs.Net.Addr.{segments_of}
use Rattle.std.specs.Net.Grammar.{IsDotted, IsGroup, IsGroupsAfter, IsColonHex}
use Rattle.std.specs.Net.Reader.{whole_value, read_ipv6}
use Rattle.std.specs.Net.Text.{ipv4_text, hex_groups_text}
use Rattle.std.specs.Result.{result_map_both}
use Rattle.std.specs.Str.{bytes_eq}
use Rattle.std.specs.Str.Parse.{digits_value}
use Rattle.std.proofs.Math.Nat.{pow-le-pow_right}
use Rattle.std.proofs.NetLemmas.Alphabet.{IsDigitOrDot, IsHexOrColon, All-ipv4_text, All-hex_groups_text}
use Rattle.std.proofs.NetLemmas.Ipv6.{read_ipv6_sound}
use Rattle.std.proofs.lemmas.Bool.{ltb-true}
use Rattle.std.proofs.lemmas.Bool.Decides.{nat_tests}
use Rattle.std.proofs.lemmas.Int.Digits.{digits_value-lt}
use Rattle.std.proofs.lemmas.List.Elements.{All-nil, All-cons, All-head, All-tail, All-append, All-weaker, All-replicate}
use Rattle.httparse.specs.Grammar.{is_value_byte, AllPass}
use Rattle.url.specs.declared.error.ParseError.{ParseError}
use Rattle.url.specs.declared.host.Host.{Host}
use Rattle.url.specs.declared.host.Host.TheVariants.{Domain, Ipv4, Ipv6}
use Rattle.url.specs.declared.scheme.SchemeType.{SchemeType}
use Rattle.url.specs.declared.scheme.SchemeType.TheVariants.{File, SpecialNotFile, NotSpecial}
use Rattle.url.specs.declared.sets.TheConstants.{FORBIDDEN_DOMAIN}
use Rattle.url.specs.Ascii.{at_sign, left_bracket, right_bracket}
use Rattle.url.specs.Head.{scheme_only}
use Rattle.url.specs.Host.{host_text, is_forbidden_in_domain, is_forbidden_in_host, ipv6_host, ipv4_host, ascii_domain, host_of_ascii, parse_bracketed, parse_special_host, parse_opaque_host, without_localhost, parse_file_host, parse_host, IsOpaqueHost}
use Rattle.url.specs.Input.{is_empty, rsplit_once}
use Rattle.url.specs.Ipv4.{ends_in_a_number, parse_ipv4}
use Rattle.url.specs.Parser.{Parsed, and_then, split_port, lacks_host, without_default_port, parse_port, parse_authority, with_path, skip_slashes, leading_slashes, after_double_slash, parse_non_special, file_with_host, after_file_double_slash, parse_file, parse_body, with_tail, before_tail, parse_parts, parse_by_scheme, parse_url}
use Rattle.url.specs.Parts.{Parts, kind_of}
use Rattle.url.specs.Path.{segment_len, is_windows_drive_letter, parse_path, parse_path_start, escape_end}
use Rattle.url.specs.Scheme.{scheme_type, is_special, is_file}
use Rattle.url.proofs.HostLemmas.{none_from_list_any, opaque_host_encoded}
use Rattle.url.proofs.SetLemmas.{passes_from_kept}
use Rattle.capture.specs.Target.{host_of, port_of}

-- ---- cases

-- the branch that gave it
by_test : {T Q : Type 0} (b : Bool) (x y : Parsed T) (v : T) → (if b then x else y) ≡ Ok v → (b ≡ true → x ≡ Ok v → Q) → (b ≡ false → y ≡ Ok v → Q) → Q
by_test true x y v e h k = h refl e
by_test false x y v e h k = k refl e

-- a refusal gives nothing
refused : {T Q : Type 0} (failure : ParseError) (v : T) → ◌≡◌ {A = Parsed T} (Err failure) (Ok v) → Q
refused failure v e = absurd cc

-- the step before it went well
ok_then : {T U Q : Type 0} (r : Parsed T) (next : T → Parsed U) (v : U) → and_then r next ≡ Ok v → ((x : T) → r ≡ Ok x → next x ≡ Ok v → Q) → Q
ok_then (Ok x) next v e h = h x refl e
ok_then (Err failure) next v e h = absurd cc

same_ok : {T : Type 0} (x y : T) → ◌≡◌ {A = Parsed T} (Ok x) (Ok y) → x ≡ y
same_ok x y e = cc

-- ---- the bytes of a host

abbrev IsGoodByte : ℕ → Type 0
IsGoodByte b = IsTrue (is_value_byte b)

abbrev IsGoodText : List ℕ → Type 0
IsGoodText text = AllPass is_value_byte text

abbrev IsGoodHost : Host (List ℕ) → Type 0
IsGoodHost host = IsGoodText (host_text host)

digit_is_good : (b : ℕ) → IsDigitOrDot b → IsGoodByte b
digit_is_good b h = grind (arith, nat_tests)

hex_is_good : (b : ℕ) → IsHexOrColon b → IsGoodByte b
hex_is_good b h = grind (arith, nat_tests)

domain_is_good : (domain : List ℕ) → All (λ b. is_forbidden_in_domain b ≡ false) domain → IsGoodText domain
domain_is_good domain allowed =
    All-weaker (λ b. is_forbidden_in_domain b ≡ false) IsGoodByte (passes_from_kept FORBIDDEN_DOMAIN is_value_byte refl) domain allowed

-- a byte that isn't escaped among controls is none
opaque_is_good : (text : List ℕ) → IsOpaqueHost text → IsGoodText text
opaque_is_good text opaque k d below = passes_from_kept _ is_value_byte refl (get_or text k d) (opaque.1 k d below)

-- ---- addresses

byte_of_four : (bits k : ℕ) → get_or (to_be_bytes w32 bits) k 0 < 2 ^ 8
byte_of_four bits zero = omega arith
byte_of_four bits (suc zero) = omega arith
byte_of_four bits (suc (suc zero)) = omega arith
byte_of_four bits (suc (suc (suc zero))) = omega arith
byte_of_four bits (suc (suc (suc (suc k)))) = omega arith

ipv4_is_good : (bits : Option ℕ) (host : Host (List ℕ)) → ipv4_host bits ≡ Ok host → IsGoodHost host
ipv4_is_good None host e = absurd cc
ipv4_is_good (Some bits) host e =
    subst IsGoodHost (same_ok (Ipv4 (record { octets = to_be_bytes w32 bits })) host e)
    (All-weaker IsDigitOrDot IsGoodByte digit_is_good (ipv4_text (to_be_bytes w32 bits)) (All-ipv4_text (to_be_bytes w32 bits) (byte_of_four bits)))

abbrev IsSegment : ℕ → Type 0
IsSegment s = s < 2 ^ 16

group_is_segment : (group : List ℕ) (s : ℕ) → IsGroup group s → IsSegment s
group_is_segment group s h =
    let below = digits_value-lt 16 group h.0.0.1 in
    let most : 16 ^ length group ≤ 16 ^ 4 = pow-le-pow_right (lit≤ tt) h.1 in
    omega (arith, h.0.1)

segments_of_four : (text octets : List ℕ) → IsDotted text octets → All IsSegment (segments_of octets)
segments_of_four text octets h =
    subst (λ (o : List ℕ). All IsSegment (segments_of o)) (sym h.value)
    (All-cons IsSegment (h.a * 256 + h.b) ((h.c * 256 + h.d) ∷ []) (omega (arith, h.fit.0, h.fit.1)) (All-cons IsSegment (h.c * 256 + h.d) [] (omega (arith, h.fit.2, h.fit.3)) (All-nil IsSegment)))

groups_are_segments : (ipv4 : Bool) (lead text segments : List ℕ) → IsGroupsAfter ipv4 lead text segments → All IsSegment segments
groups_are_segments ipv4 lead text [] h = All-nil IsSegment
groups_are_segments ipv4 lead text (s ∷ segments) (inl h) =
    All-cons IsSegment s segments (group_is_segment h.0 s h.3) (groups_are_segments ipv4 (codes ":") h.1 segments h.4)
groups_are_segments ipv4 lead text (s ∷ segments) (inr h) =
    subst (All IsSegment) (sym h.5) (segments_of_four h.0 h.1 h.4)

text_has_segments : (text segments : List ℕ) → IsColonHex text segments → All IsSegment segments
text_has_segments text segments (inl h) = groups_are_segments true [] text segments h.0
text_has_segments text segments (inr h) =
    let gap = 8 - length h.head - length h.tail in
    subst (All IsSegment) (sym h.value)
    (All-append IsSegment (h.head ++ replicate gap 0) h.tail
    (All-append IsSegment h.head (replicate gap 0) (groups_are_segments false [] h.head_text h.head h.head_groups) (All-replicate IsSegment gap 0 (omega arith)))
    (groups_are_segments true [] h.tail_text h.tail h.tail_groups))

at_each : (segments : List ℕ) → All IsSegment segments → (k : ℕ) → get_or segments k 0 < 2 ^ 16
at_each [] all k = omega arith
at_each (s ∷ segments) all zero = All-head IsSegment s segments all
at_each (s ∷ segments) all (suc k) = at_each segments (All-tail IsSegment s segments all) k

ipv6_text_is_good : (segments : List ℕ) → All IsSegment segments → IsGoodText (codes "[" ++ hex_groups_text segments ++ codes "]")
ipv6_text_is_good segments all =
    let text = hex_groups_text segments in
    All-append IsGoodByte (91 ∷ text) (93 ∷ []) (All-cons IsGoodByte 91 text refl (All-weaker IsHexOrColon IsGoodByte hex_is_good text (All-hex_groups_text segments (at_each segments all)))) (All-cons IsGoodByte 93 [] refl (All-nil IsGoodByte))

read_has_segments : (text : List ℕ) (read : Option (List ℕ × List ℕ)) (segments : List ℕ) → read_ipv6 text ≡ read → whole_value read ≡ Some segments → All IsSegment segments
read_has_segments text None segments e whole = absurd cc
read_has_segments text (Some p) segments e whole =
    let sound = read_ipv6_sound text p.0 p.1 e in
    let same : p.0 ≡ segments = whole_is p.0 segments (length p.1 == 0) whole in
    subst (All IsSegment) same (text_has_segments sound.0 p.0 sound.2)
  where
    whole_is : (found wanted : List ℕ) (b : Bool) → (if b then Some found else None) ≡ Some wanted → found ≡ wanted
    whole_is found wanted true e = cc
    whole_is found wanted false e = absurd cc

ipv6_is_good : (text : List ℕ) (read : Option (List ℕ)) (host : Host (List ℕ)) → whole_value (read_ipv6 text) ≡ read → ipv6_host read ≡ Ok host → IsGoodHost host
ipv6_is_good text None host whole e = absurd cc
ipv6_is_good text (Some segments) host whole e =
    subst IsGoodHost (same_ok (Ipv6 (record { segments = segments })) host e)
    (ipv6_text_is_good segments (read_has_segments text (read_ipv6 text) segments refl whole))

bracketed_is_good : (bytes : List ℕ) (host : Host (List ℕ)) → parse_bracketed bytes ≡ Ok host → IsGoodHost host
unfolding parse_bracketed
bracketed_is_good bytes host e =
    let text = slice_range bytes 1 (length bytes - 1) in
    by_test (get_or bytes (length bytes - 1) 0 == right_bracket) _ _ host e (λ _ k. ipv6_is_good text (whole_value (read_ipv6 text)) host refl k) (λ _ k. refused _ _ k)

-- ---- hosts

ascii_is_good : (domain : Option (List ℕ)) (host : Host (List ℕ)) → host_of_ascii domain ≡ Ok host → IsGoodHost host
ascii_is_good None host e = absurd cc
ascii_is_good (Some domain) host e =
    by_test (is_empty domain) _ _ host e (λ _ k. refused _ _ k) λ _ filled.
    by_test (list_any is_forbidden_in_domain domain) _ _ host filled (λ _ k. refused _ _ k) λ none allowed.
    by_test (ends_in_a_number domain) _ _ host allowed (λ _ k. ipv4_is_good (parse_ipv4 domain) host k)
    λ _ k. subst IsGoodHost (same_ok (Domain domain) host k) (domain_is_good domain (none_from_list_any is_forbidden_in_domain domain none))

special_is_good : (bytes : List ℕ) (host : Host (List ℕ)) → parse_special_host bytes ≡ Ok host → IsGoodHost host
unfolding parse_special_host
special_is_good bytes host e =
    by_test (get_or bytes 0 0 == left_bracket) _ _ host e (λ _ k. bracketed_is_good bytes host k) (λ _ k. ascii_is_good (ascii_domain _) host k)

opaque_host_is_good : (bytes : List ℕ) (host : Host (List ℕ)) → parse_opaque_host bytes ≡ Ok host → IsGoodHost host
unfolding parse_opaque_host
opaque_host_is_good bytes host e =
    by_test (get_or bytes 0 0 == left_bracket) _ _ host e (λ _ k. bracketed_is_good bytes host k) λ _ plain.
    by_test (list_any is_forbidden_in_host bytes) _ _ host plain (λ _ k. refused _ _ k) λ none k.
    subst IsGoodHost (same_ok (Domain _) host k) (opaque_is_good _ (opaque_host_encoded bytes none))

without_localhost_is_good : (host : Host (List ℕ)) → IsGoodHost host → IsGoodHost (without_localhost host)
without_localhost_is_good (Domain domain) h = either (bytes_eq domain (codes "localhost"))
  where
    either : (b : Bool) → IsGoodText (if b then [] else domain)
    either true = All-nil IsGoodByte
    either false = h
without_localhost_is_good (Ipv4 address) h = h
without_localhost_is_good (Ipv6 address) h = h

localhost_is_good : (parsed : Parsed (Host (List ℕ))) (host : Host (List ℕ)) → ((h : Host (List ℕ)) → parsed ≡ Ok h → IsGoodHost h) → result_map_both without_localhost (λ (e : ParseError). e) parsed ≡ Ok host → IsGoodHost host
localhost_is_good (Ok h) host good e = subst IsGoodHost (same_ok (without_localhost h) host e) (without_localhost_is_good h (good h refl))
localhost_is_good (Err failure) host good e = absurd cc

empty_is_good : IsGoodHost (Domain [])
empty_is_good = All-nil IsGoodByte

file_host_is_good : (bytes : List ℕ) (host : Host (List ℕ)) → parse_file_host bytes ≡ Ok host → IsGoodHost host
unfolding parse_file_host
file_host_is_good bytes host e =
    by_test (is_empty bytes) _ _ host e (λ _ k. subst IsGoodHost (same_ok (Domain []) host k) empty_is_good)
    (λ _ k. localhost_is_good (parse_special_host bytes) host (special_is_good bytes) k)

host_is_good : (kind : SchemeType) (bytes : List ℕ) (host : Host (List ℕ)) → parse_host kind bytes ≡ Ok host → IsGoodHost host
host_is_good File bytes host e = file_host_is_good bytes host e
host_is_good SpecialNotFile bytes host e = special_is_good bytes host e
host_is_good NotSpecial bytes host e = opaque_host_is_good bytes host e

-- ---- ports

abbrev IsGoodPort : Option ℕ → Type 0
IsGoodPort port = IfSome port (λ n. n < 2 ^ 16)

not_default : (b : Bool) (port : Option ℕ) → IsGoodPort port → IsGoodPort (if b then None else port)
not_default true port h = tt
not_default false port h = h

port_is_good : (scheme digits : List ℕ) (port : Option ℕ) → parse_port scheme digits ≡ Ok port → IsGoodPort port
unfolding parse_port
port_is_good scheme digits port e =
    by_test (is_empty digits) _ _ port e (λ _ k. subst IsGoodPort (same_ok None port k) tt) λ _ filled.
    by_test (list_all is_ascii_digit digits && nat_lt (digits_value 10 digits) (2 ^ 16)) _ _ port filled
    (λ test k. subst IsGoodPort (same_ok (without_default_port scheme (Some (digits_value 10 digits))) port k)
    (not_default _ (Some (digits_value 10 digits)) (ltb-true (digits_value 10 digits) (2 ^ 16) (second _ _ test))))
    (λ _ k. refused _ _ k)
  where
    second : (a b : Bool) → (a && b) ≡ true → b ≡ true
    second true b h = h
    second false b h = absurd cc

-- ---- URLs

record IsGood (url : Parts) : Type 0 where
  host : IfSome url.host IsGoodHost
  port : IsGoodPort url.port

no_host : (scheme path : List ℕ) → IsGood (with_path (scheme_only scheme) path)
no_host scheme path = record { host = tt; port = tt }

authority_is_good : (scheme bytes path : List ℕ) (head : Parts) → parse_authority scheme bytes ≡ Ok head → IsGood (with_path head path)
unfolding parse_authority
authority_is_good scheme bytes path head e =
    let at = rsplit_once at_sign bytes in
    let host_port = split_port at.1 in
    let digits = unwrap_or host_port.1 [] in
    by_test (lacks_host at.0 host_port.0 host_port.1) _ _ head e (λ _ k. refused _ _ k) λ _ has.
    ok_then (parse_host (scheme_type scheme) host_port.0) _ head has λ host host_is more.
    ok_then (parse_port scheme digits) _ head more λ port port_is made.
    subst (λ (p : Parts). IsGood (with_path p path)) (same_ok _ head made)
    (record { host = host_is_good (scheme_type scheme) host_port.0 host host_is; port = port_is_good scheme digits port port_is })

double_slash_is_good : (scheme bytes : List ℕ) (url : Parts) → after_double_slash scheme bytes ≡ Ok url → IsGood url
unfolding after_double_slash
double_slash_is_good scheme bytes url e =
    let kind = scheme_type scheme in
    let len = segment_len kind bytes in
    ok_then (parse_authority scheme (take len bytes)) _ url e λ head head_is made.
    subst IsGood (same_ok (with_path head (parse_path_start kind [] (drop len bytes))) url made) (authority_is_good scheme (take len bytes) (parse_path_start kind [] (drop len bytes)) head head_is)

non_special_is_good : (scheme body : List ℕ) (url : Parts) → parse_non_special scheme body ≡ Ok url → IsGood url
unfolding parse_non_special
non_special_is_good scheme body url e =
    let slashes = leading_slashes NotSpecial body in
    by_test (slashes == 2) _ _ url e (λ _ k. double_slash_is_good scheme (drop 2 body) url k) λ _ other.
    by_test (slashes == 1) _ _ url other (λ _ k. subst IsGood (same_ok (with_path (scheme_only scheme) _) url k) (no_host scheme _)) (λ _ k. subst IsGood (same_ok (with_path (scheme_only scheme) _) url k) (no_host scheme _))

file_is_good : (host : Host (List ℕ)) (path : List ℕ) → IsGoodHost host → IsGood (with_path (file_with_host host) path)
file_is_good host path h = record { host = h; port = tt }

file_double_slash_is_good : (bytes : List ℕ) (url : Parts) → after_file_double_slash bytes ≡ Ok url → IsGood url
unfolding after_file_double_slash
file_double_slash_is_good bytes url e =
    let len = segment_len File bytes in
    by_test (is_windows_drive_letter (take len bytes)) _ _ url e
    (λ _ k. subst IsGood (same_ok (with_path (file_with_host (Domain [])) (parse_path File [] bytes)) url k) (file_is_good (Domain []) (parse_path File [] bytes) empty_is_good)) λ _ other.
    ok_then (parse_file_host (take len bytes)) _ url other λ host host_is made.
    let path = parse_path_start File [] (drop len bytes) in
    subst IsGood (same_ok (with_path (file_with_host host) path) url made) (file_is_good host path (file_host_is_good (take len bytes) host host_is))

file_body_is_good : (body : List ℕ) (url : Parts) → parse_file None body ≡ Ok url → IsGood url
unfolding parse_file
file_body_is_good body url e =
    let slashes = leading_slashes File body in
    let rest = drop slashes body in
    by_test (slashes == 2) _ _ url e (λ _ k. file_double_slash_is_good rest url k)
    (λ _ k. subst IsGood (same_ok (with_path (file_with_host (Domain [])) (parse_path File [] rest)) url k) (file_is_good (Domain []) (parse_path File [] rest) empty_is_good))

body_is_good : (scheme body : List ℕ) (url : Parts) → parse_body scheme None body ≡ Ok url → IsGood url
unfolding parse_body
body_is_good scheme body url e =
    by_test (is_file (scheme_type scheme)) _ _ url e (λ _ k. file_body_is_good body url k) λ _ other.
    by_test (is_special (scheme_type scheme)) _ _ url other (λ _ k. double_slash_is_good scheme (skip_slashes body) url k) (λ _ k. non_special_is_good scheme body url k)

tail_is_good : (url : Parts) (query fragment : Option (List ℕ)) → IsGood url → IsGood (with_tail (before_tail url query fragment) query fragment)
tail_is_good url query fragment good = either (not (is_special (kind_of url)) && (is_some query || is_some fragment))
  where
    either : (b : Bool) → IsGood (with_tail (if b then with_path url (escape_end url.path) else url) query fragment)
    either true = record { host = good.host; port = good.port }
    either false = record { host = good.host; port = good.port }

parts_are_good : (scheme body : List ℕ) (query fragment : Option (List ℕ)) (url : Parts) → parse_parts scheme None body query fragment ≡ Ok url → IsGood url
unfolding parse_parts
parts_are_good scheme body query fragment url e =
    ok_then (parse_body scheme None body) _ url e λ head head_is made.
    subst IsGood (same_ok (with_tail (before_tail head query fragment) query fragment) url made) (tail_is_good head query fragment (body_is_good scheme body head head_is))

split_is_good : (split : Option (List ℕ × List ℕ)) (body : List ℕ) (query fragment : Option (List ℕ)) (url : Parts) → parse_by_scheme split None body query fragment ≡ Ok url → IsGood url
split_is_good None body query fragment url e = absurd cc
split_is_good (Some split) body query fragment url e = parts_are_good _ split.1 query fragment url e

url_is_good : (text : List ℕ) (url : Parts) → parse_url None text ≡ Ok url → IsGood url
unfolding parse_url
url_is_good text url e = split_is_good _ _ _ _ url e

or_empty : (host : Option (Host (List ℕ))) → IfSome host IsGoodHost → IsGoodHost (unwrap_or host (Domain []))
or_empty None h = empty_is_good
or_empty (Some host) h = h

or_default : (port : Option ℕ) → IsGoodPort port → unwrap_or port 80 < 2 ^ 16
or_default None h = omega arith
or_default (Some n) h = h

-- the host of a URL that was parsed can stand in a field's value
pub host_can_be_value : (text : List ℕ) (url : Parts) → parse_url None text ≡ Ok url → AllPass is_value_byte (host_of url)
host_can_be_value text url e = or_empty url.host (url_is_good text url e).host

-- its port has 16 bits
pub port_has_16_bits : (text : List ℕ) (url : Parts) → parse_url None text ≡ Ok url → port_of url < 2 ^ 16
port_has_16_bits text url e = or_default url.port (url_is_good text url e).port
