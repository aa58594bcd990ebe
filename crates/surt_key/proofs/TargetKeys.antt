-- An accepted target has a look-up key: it is a URL, and the scheme of that URL is `http`.
use Rattle.std.proofs.Common.{◌≡◌, ℕ, ◌-◌, ◌<◌, ◌≤◌, true, not, ◌&&◌, ◌||◌, nat_le, List, [], ◌∷◌, ◌++◌, length, get_or, take, drop, reverse, codes, bytes_eq, Option, Some, None, Ok, Err, is_ok, unwrap_or, All, refl, sym, ap, ◌∙◌, subst, arith, take_all, true≢false}
use Rattle.std.specs.Prelude.{IsTrue}
use Rattle.std.specs.Char.{is_ascii, is_ascii_alphabetic, to_ascii_lowercase}
use Rattle.std.specs.List.{list_all, prefix_len}
use Rattle.std.proofs.Math.Nat.{sub-zero}
use Rattle.std.proofs.lemmas.Bool.{and_parts, cond-true, cond-false, leb-true, lt-leb, lt-ltb, ne_eqb}
use Rattle.std.proofs.lemmas.Bool.Decides.{nat_tests}
use Rattle.std.proofs.lemmas.List.{get_or-reverse, length-reverse}
use Rattle.std.proofs.lemmas.List.Elements.{All-nil, All-cons, All-head, All-tail, All-weaker}
use Rattle.std.proofs.lemmas.Slice.Eq.{bytes_eq-Decides}
use Rattle.url.specs.Host.{parse_host}
use Rattle.url.specs.Input.{is_c0_control_or_space, is_tab_or_new_line, trim_c0_control_and_space, strip_tabs_and_new_lines, lowercase, split_once, rsplit_once}
use Rattle.url.specs.Parser.{Parsed, split_port, lacks_host, parse_port, parse_authority, with_path, skip_slashes, after_double_slash, parse_body, with_tail, before_tail, parse_parts, split_scheme, parse_by_scheme, parse_url}
use Rattle.url.specs.Parts.{Parts}
use Rattle.url.specs.Path.{segment_len, parse_path_start}
use Rattle.url.specs.Scheme.{default_port, scheme_type, scheme_len, is_scheme_byte}
use Rattle.url.proofs.InputLemmas.{IsNot, Passes, prefix_len_at, split_once_none, filter_all, list_all_from_All, All_from_list_all}
use Rattle.capture.specs.Fields.{lowered}
use Rattle.capture.specs.Target.{IsAcceptedAs, is_target_byte, is_target_text, begins_with_http, http_prefix, authority_of, is_plain_authority, is_http_target}
use Rattle.surt_key.specs.Key.{surt_key, is_http, key_of_parsed, key_of}
use Rattle.surt_key.specs.Targets.{TargetsHaveKeys}
use Rattle.surt_key.proofs.SpacelessUrls.{ok_then, past_error, same_ok}
use Rattle.surt_key.proofs.SpacelessKeys.{kept_scheme}

abbrev http : List ℕ
http = codes "http"

-- ---- the scheme of what is parsed

authority_scheme : (scheme bytes : List ℕ) (url : Parts) → parse_authority scheme bytes ≡ Ok url → url.scheme ≡ scheme
unfolding parse_authority
authority_scheme scheme bytes url e =
    let text = (split_port (rsplit_once 64 bytes).1).0 in
    let digits = unwrap_or (split_port (rsplit_once 64 bytes).1).1 [] in
    let lacks = lacks_host (rsplit_once 64 bytes).0 text (split_port (rsplit_once 64 bytes).1).1 in
    ok_then (parse_host (scheme_type scheme) text) _ url (past_error lacks _ _ url e).1 λ host read e₁.
    ok_then (parse_port scheme digits) _ url e₁ λ port got e₂.
    let same = same_ok _ url e₂ in
    sym (ap (λ u. u.scheme) same)

slashes_scheme : (scheme bytes : List ℕ) (url : Parts) → after_double_slash scheme bytes ≡ Ok url → url.scheme ≡ scheme
unfolding after_double_slash
slashes_scheme scheme bytes url e =
    let len = segment_len (scheme_type scheme) bytes in
    ok_then (parse_authority scheme (take len bytes)) _ url e λ head read e₁.
    let same = same_ok (with_path head (parse_path_start (scheme_type scheme) [] (drop len bytes))) url e₁ in
    sym (ap (λ u. u.scheme) same) ∙ authority_scheme scheme (take len bytes) head read

body_scheme : (body : List ℕ) (url : Parts) → parse_body http None body ≡ Ok url → url.scheme ≡ http
unfolding parse_body scheme_type default_port
body_scheme body url e = slashes_scheme http (skip_slashes body) url e

parts_scheme : (body : List ℕ) (query fragment : Option (List ℕ)) (url : Parts) → parse_parts http None body query fragment ≡ Ok url → url.scheme ≡ http
unfolding parse_parts
parts_scheme body query fragment url e =
    ok_then (parse_body http None body) _ url e λ head read k.
    let same = same_ok (with_tail (before_tail head query fragment) query fragment) url k in
    sym (ap (λ u. u.scheme) same) ∙ kept_scheme head query fragment ∙ body_scheme body head read

-- ---- nothing of a target is trimmed or stripped, and it has no fragment

-- the bytes are those of a target
abbrev AreOfTarget : List ℕ → Type 0
AreOfTarget text = All (Passes is_target_byte) text

abbrev IsVisible : ℕ → Type 0
IsVisible b = 32 < b

byte_bounds : (b : ℕ) → Passes is_target_byte b → (33 ≤ b) × (b ≤ 126)
byte_bounds b passes =
    let bounds = and_parts (nat_le 33 b) (nat_le b 126) (and_parts (nat_le 33 b && nat_le b 126) _ passes).0 in
    (leb-true 33 b bounds.0, leb-true b 126 bounds.1)

byte_visible : (b : ℕ) → Passes is_target_byte b → IsVisible b
byte_visible b passes = let bounds = byte_bounds b passes in omega (arith, bounds.0)

byte_ascii : (b : ℕ) → Passes is_target_byte b → is_ascii b ≡ true
byte_ascii b passes = let bounds = byte_bounds b passes in lt-ltb b 128 (omega (arith, bounds.1))

none_at_front : (text : List ℕ) → (0 < length text → IsVisible (get_or text 0 0)) → prefix_len is_c0_control_or_space text ≡ 0
none_at_front [] first = refl
none_at_front (b ∷ text) first = cond-false _ _ _ (lt-leb b 32 (first (omega arith)))

untrimmed : (text : List ℕ) → All IsVisible text → trim_c0_control_and_space text ≡ text
unfolding trim_c0_control_and_space
untrimmed text visible =
    let start = none_at_front text (λ inside. visible 0 0 inside) in
    let len = length-reverse text in
    let end = none_at_front (reverse text) (λ inside. rw (get_or-reverse text 0 0 (omega arith), sub-zero) (visible (length text - 1) 0 (omega arith))) in
    rw (start, end) (take_all _ text (omega arith))

unstripped : (text : List ℕ) → All IsVisible text → strip_tabs_and_new_lines text ≡ text
unfolding strip_tabs_and_new_lines
unstripped text visible =
    filter_all _ text (All-weaker IsVisible (Passes (λ b. not (is_tab_or_new_line b))) (λ b above. grind (arith, nat_tests)) text visible)

-- ---- the scheme of a target

-- what is split off behind a front without the separator
split_behind : (s : ℕ) (front rest : List ℕ) → All (IsNot s) front → split_once s (front ++ rest) ≡ (front ++ (split_once s rest).0, (split_once s rest).1)
unfolding split_once
split_behind s [] rest none = refl
split_behind s (b ∷ front) rest none =
    cond-false _ _ _ (ne_eqb b s (All-head (IsNot s) b front none)) ∙ ap (λ r. (b ∷ r.0, r.1)) (split_behind s front rest (All-tail (IsNot s) b front none))

raised_letter : (b : ℕ) → is_ascii_alphabetic (to_ascii_lowercase b) ≡ true → is_ascii_alphabetic b ≡ true
raised_letter b letter = grind (arith, nat_tests)

letter_in_scheme : (b : ℕ) → is_ascii_alphabetic b ≡ true → is_scheme_byte b ≡ true
letter_in_scheme b letter = grind (arith, nat_tests)

raised_colon : (b : ℕ) → to_ascii_lowercase b ≡ 58 → b ≡ 58
raised_colon b lower = grind (arith, nat_tests)

no_hash : (b : ℕ) → Passes is_target_byte b → IsNot 35 b
no_hash b passes = λ same. true≢false (sym passes ∙ ap is_target_byte same)

no_question : (b : ℕ) → is_scheme_byte b ≡ true → IsNot 63 b
no_question b passes = λ same. true≢false (sym passes ∙ ap is_scheme_byte same)

-- four letters that spell `http` in whatever case, before a colon and the rest
module _ (a b c d : ℕ) (spelled : lowercase (a ∷ b ∷ c ∷ d ∷ []) ≡ http) where
  letter : (k byte : ℕ) → to_ascii_lowercase byte ≡ get_or (lowercase (a ∷ b ∷ c ∷ d ∷ [])) k 0 → is_ascii_alphabetic (get_or http k 0) ≡ true → is_ascii_alphabetic byte ≡ true
  letter k byte at is =
      raised_letter byte (ap is_ascii_alphabetic at ∙ ap (λ (bytes : List ℕ). is_ascii_alphabetic (get_or bytes k 0)) spelled ∙ is)

  scheme_bytes : All (Passes is_scheme_byte) (a ∷ b ∷ c ∷ d ∷ [])
  scheme_bytes =
      All-cons (Passes is_scheme_byte) a (b ∷ c ∷ d ∷ []) (letter_in_scheme a (letter 0 a refl refl))
      (All-cons (Passes is_scheme_byte) b (c ∷ d ∷ []) (letter_in_scheme b (letter 1 b refl refl))
      (All-cons (Passes is_scheme_byte) c (d ∷ []) (letter_in_scheme c (letter 2 c refl refl))
      (All-cons (Passes is_scheme_byte) d [] (letter_in_scheme d (letter 3 d refl refl)) (All-nil (Passes is_scheme_byte)))))

  no_question_before : All (IsNot 63) (a ∷ b ∷ c ∷ d ∷ 58 ∷ [])
  no_question_before =
      All-cons (IsNot 63) a (b ∷ c ∷ d ∷ 58 ∷ []) (no_question a (letter_in_scheme a (letter 0 a refl refl)))
      (All-cons (IsNot 63) b (c ∷ d ∷ 58 ∷ []) (no_question b (letter_in_scheme b (letter 1 b refl refl)))
      (All-cons (IsNot 63) c (d ∷ 58 ∷ []) (no_question c (letter_in_scheme c (letter 2 c refl refl)))
      (All-cons (IsNot 63) d (58 ∷ []) (no_question d (letter_in_scheme d (letter 3 d refl refl)))
      (All-cons (IsNot 63) 58 [] (λ e. omega arith) (All-nil (IsNot 63))))))

  scheme_len_is : (rest : List ℕ) → scheme_len (a ∷ b ∷ c ∷ d ∷ 58 ∷ rest) ≡ 4
  unfolding scheme_len
  scheme_len_is rest =
      cond-true _ _ _ (letter 0 a refl refl) ∙ prefix_len_at is_scheme_byte (a ∷ b ∷ c ∷ d ∷ []) (58 ∷ rest) scheme_bytes refl

  split_is : (rest : List ℕ) → split_scheme (a ∷ b ∷ c ∷ d ∷ 58 ∷ rest) ≡ Some (a ∷ b ∷ c ∷ d ∷ [], rest)
  unfolding split_scheme
  split_is rest = rw (scheme_len_is rest) refl

  parsed_by_parts : (rest : List ℕ) → AreOfTarget (a ∷ b ∷ c ∷ d ∷ 58 ∷ rest) → parse_url None (a ∷ b ∷ c ∷ d ∷ 58 ∷ rest) ≡ parse_parts http None (split_once 63 rest).0 (split_once 63 rest).1 None
  unfolding parse_url
  parsed_by_parts rest all =
      let text : List ℕ = a ∷ b ∷ c ∷ d ∷ 58 ∷ rest in
      let visible : All IsVisible text = All-weaker (Passes is_target_byte) IsVisible byte_visible text all in
      let clean = ap strip_tabs_and_new_lines (untrimmed text visible) ∙ unstripped text visible in
      let hash = ap (split_once 35) clean ∙ split_once_none 35 text (All-weaker (Passes is_target_byte) (IsNot 35) no_hash text all) in
      let question = ap (λ r. split_once 63 r.0) hash ∙ split_behind 63 (a ∷ b ∷ c ∷ d ∷ 58 ∷ []) rest no_question_before in
      let scheme = ap (λ r. split_scheme r.0) question ∙ split_is (split_once 63 rest).0 in
      (λ i. parse_by_scheme (scheme i) None (question i).0 (question i).1 (hash i).1)
      ∙ ap (λ s. parse_parts s None (split_once 63 rest).0 (split_once 63 rest).1 None) spelled

no_colon : IsNot 58 0
no_colon = λ e. omega arith

-- what begins with `http://` has the scheme `http`
target_scheme : (text : List ℕ) → lowered (take 7 text) ≡ http_prefix → AreOfTarget text → (url : Parts) → parse_url None text ≡ Ok url → url.scheme ≡ http
target_scheme (a ∷ b ∷ c ∷ d ∷ e ∷ rest) begins all url parsed =
    let spelled : lowercase (a ∷ b ∷ c ∷ d ∷ []) ≡ http = ap (λ (bytes : List ℕ). take 4 bytes) begins in
    let colon : e ≡ 58 = raised_colon e (ap (λ (bytes : List ℕ). get_or bytes 4 0) begins) in
    let bytes : AreOfTarget (a ∷ b ∷ c ∷ d ∷ 58 ∷ rest) = subst (λ x. AreOfTarget (a ∷ b ∷ c ∷ d ∷ x ∷ rest)) colon all in
    let made : parse_url None (a ∷ b ∷ c ∷ d ∷ 58 ∷ rest) ≡ Ok url = subst (λ x. parse_url None (a ∷ b ∷ c ∷ d ∷ x ∷ rest) ≡ Ok url) colon parsed in
    parts_scheme (split_once 63 rest).0 (split_once 63 rest).1 None url (sym (parsed_by_parts a b c d spelled rest bytes) ∙ made)
target_scheme (a ∷ b ∷ c ∷ d ∷ []) begins all url parsed = absurd (no_colon (ap (λ (bytes : List ℕ). get_or bytes 4 0) begins))
target_scheme (a ∷ b ∷ c ∷ []) begins all url parsed = absurd (no_colon (ap (λ (bytes : List ℕ). get_or bytes 4 0) begins))
target_scheme (a ∷ b ∷ []) begins all url parsed = absurd (no_colon (ap (λ (bytes : List ℕ). get_or bytes 4 0) begins))
target_scheme (a ∷ []) begins all url parsed = absurd (no_colon (ap (λ (bytes : List ℕ). get_or bytes 4 0) begins))
target_scheme [] begins all url parsed = absurd (no_colon (ap (λ (bytes : List ℕ). get_or bytes 4 0) begins))

-- ---- the key

-- a target is a text of ASCII, and the scheme of its URL is `http`
target_is : (target : List ℕ) → IsTrue (is_http_target target) → (list_all is_ascii target ≡ true) × ((url : Parts) → parse_url None target ≡ Ok url → url.scheme ≡ http)
target_is target is =
    let form = and_parts (is_target_text target && begins_with_http target) (is_plain_authority (authority_of target)) is in
    let front = and_parts (is_target_text target) (begins_with_http target) form.0 in
    let all : AreOfTarget target = All_from_list_all is_target_byte target front.0 in
    let begins : lowered (take 7 target) ≡ http_prefix = (bytes_eq-Decides (lowered (take 7 target)) http_prefix).0 front.1 in (
      list_all_from_All is_ascii target (All-weaker (Passes is_target_byte) (Passes is_ascii) byte_ascii target all),
      target_scheme target begins all,
    )

-- a URL whose scheme is `http` has a key
http_key : (url : Parts) → url.scheme ≡ http → key_of_parsed (Ok url) ≡ Some (surt_key url)
http_key url scheme =
    cond-true (is_http url) (Some (surt_key url)) None (ap (λ (s : List ℕ). bytes_eq s (codes "http") || bytes_eq s (codes "https")) scheme)

some_is_not_none : (key : List ℕ) → Some key ≡ None → ⊥
some_is_not_none key e = cc

key_by : (r : Parsed Parts) → ((url : Parts) → r ≡ Ok url → url.scheme ≡ http) → is_ok r ≡ true → key_of_parsed r ≡ None → ⊥
key_by (Ok url) scheme ok none = some_is_not_none (surt_key url) (sym (http_key url (scheme url refl)) ∙ none)
key_by (Err fault) scheme ok none = absurd cc

pub targets_have_keys : TargetsHaveKeys
unfolding key_of
targets_have_keys uri accepted = λ none.
    let parts = and_parts (is_http_target uri) (is_ok (parse_url None uri)) accepted in
    let is = target_is uri parts.0 in
    key_by (parse_url None uri) is.1 parts.1
    (sym (cond-true (list_all is_ascii uri) (key_of_parsed (parse_url None uri)) None is.0) ∙ none)

-- which is the key of the URL as which it is accepted
pub target_key : (target : List ℕ) (url : Parts) → IsAcceptedAs target url → key_of target ≡ Some (surt_key url)
unfolding key_of
target_key target url accepted =
    let is = target_is target accepted.form in
    cond-true (list_all is_ascii target) (key_of_parsed (parse_url None target)) None is.0
    ∙ ap key_of_parsed accepted.parses ∙ http_key url (is.1 url accepted.parses)
