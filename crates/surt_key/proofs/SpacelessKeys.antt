-- A key holds no space, whatever text it is the key of.
use Rattle.std.proofs.Common.{◌≡◌, ℕ, Bool, true, false, not, ◌&&◌, ◌||◌, ◌==◌, List, [], take, drop, codes, bytes_eq, cond, Option, Some, None, Result, Ok, Err, is_some, unwrap_or, refl, sym, ap, ◌∙◌, subst, true≢false, lit<}
use Rattle.std.specs.List.{list_all}
use Rattle.std.specs.Char.{is_ascii}
use Rattle.std.proofs.lemmas.Bool.{cond_both}
use Rattle.std.proofs.lemmas.Slice.Eq.{bytes_eq-Decides}
use Rattle.percent_encoding.specs.Percent.{percent_encode}
use Rattle.url.specs.declared.sets.TheConstants.{OPAQUE_PATH}
use Rattle.url.specs.declared.error.ParseError.{ParseError}
use Rattle.url.specs.declared.host.Host.{Host}
use Rattle.url.specs.declared.scheme.SchemeType.{SchemeType}
use Rattle.url.specs.declared.scheme.SchemeType.TheVariants.{File, SpecialNotFile, NotSpecial}
use Rattle.url.specs.Head.{scheme_only}
use Rattle.url.specs.Host.{parse_host, parse_file_host}
use Rattle.url.specs.Input.{trim_c0_control_and_space, strip_tabs_and_new_lines, lowercase, split_once, rsplit_once}
use Rattle.url.specs.Scheme.{scheme_type, default_port, is_special, is_file}
use Rattle.url.specs.Path.{segment_len, is_windows_drive_letter, parse_path, parse_path_start, escape_end}
use Rattle.url.specs.Parts.{Parts, kind_of, has_host}
use Rattle.url.specs.Parser.{Parsed, split_port, lacks_host, parse_port, parse_authority, with_path, leading_slashes, skip_slashes, after_double_slash, parse_non_special, after_file_double_slash, parse_file, parse_body, with_tail, before_tail, parse_all, parse_parts, split_scheme, parse_by_scheme, parse_url}
use Rattle.url.proofs.ParsedCanonical.{before_special}
use Rattle.url.proofs.SchemeLemmas.{file_from_scheme_type, file_from_is_file}
use Rattle.surt_key.specs.Key.{reversed_host, host_text_of, surt_key, is_http, key_of_parsed, key_of}
use Rattle.surt_key.specs.Spaces.{KeysHoldNoSpace}
use Rattle.surt_key.proofs.NoSpace.{Spaceless, nothing, joined, before, spaceless-lowered, IfThere, spaceless-query_text}
use Rattle.surt_key.proofs.SpacelessUrls.{ok_then, past_error, by_test, same_ok, special_host, IsPort, parsed_port, spaceless-port, parsed_path, parsed_query}

abbrev HostHoldsNone : Option (Host (List ℕ)) → Type 0
HostHoldsNone None = Unit {0}
HostHoldsNone (Some host) = Spaceless (reversed_host host)

-- the parts up to the path
record UpToPath (url : Parts) : Type 0 where
  host : HostHoldsNone url.host
  port : IsPort url.port
  path : Spaceless url.path

-- what is parsed has the scheme, and holds no space where that is http's kind
abbrev Made : List ℕ → Parts → Type 0
Made scheme url = (url.scheme ≡ scheme) × (scheme_type scheme ≡ SpecialNotFile → UpToPath url)

not_both : {P : Type 0} (test : SchemeType → Bool) (kind : SchemeType) → test kind ≡ not (test SpecialNotFile) → kind ≡ SpecialNotFile → P
not_both test kind other same = absurd (differs (test SpecialNotFile) (sym (ap test same) ∙ other))
  where
    differs : (b : Bool) → b ≡ not b → ⊥
    differs true e = true≢false e
    differs false e = true≢false (sym e)

module _ (scheme : List ℕ) where
  made_authority : (bytes : List ℕ) (head : Parts) → parse_authority scheme bytes ≡ Ok head → (head.scheme ≡ scheme) × (scheme_type scheme ≡ SpecialNotFile → HostHoldsNone head.host × IsPort head.port)
  unfolding parse_authority
  made_authority bytes head e =
      let text = (split_port (rsplit_once 64 bytes).1).0 in
      let digits = unwrap_or (split_port (rsplit_once 64 bytes).1).1 [] in
      let lacks = lacks_host (rsplit_once 64 bytes).0 text (split_port (rsplit_once 64 bytes).1).1 in
      ok_then (parse_host (scheme_type scheme) text) _ head (past_error lacks _ _ head e).1 λ host read e₁.
      ok_then (parse_port scheme digits) _ head e₁ λ port got e₂.
      let same = same_ok _ head e₂ in (
        sym (ap (λ u. u.scheme) same),
        λ kind. subst (λ u. HostHoldsNone u.host × IsPort u.port) same
            (special_host text host (subst (λ k. parse_host k text ≡ Ok host) kind read), parsed_port scheme digits port got),
      )

  made_slashes : (bytes : List ℕ) (url : Parts) → after_double_slash scheme bytes ≡ Ok url → Made scheme url
  unfolding after_double_slash
  made_slashes bytes url e =
      let len = segment_len (scheme_type scheme) bytes in
      ok_then (parse_authority scheme (take len bytes)) _ url e λ head read e₁.
      let made = made_authority (take len bytes) head read in
      let path = parse_path_start (scheme_type scheme) [] (drop len bytes) in
      subst (Made scheme) (same_ok (with_path head path) url e₁) (
        made.0,
        λ kind. record {
          host = (made.1 kind).0;
          port = (made.1 kind).1;
          path = subst (λ k. Spaceless (parse_path_start k [] (drop len bytes))) (sym kind) (parsed_path (drop len bytes));
        },
      )

  made_plain : (path : List ℕ) (url : Parts) → is_special (scheme_type scheme) ≡ false → ◌≡◌ {A = Parsed Parts} (Ok (with_path (scheme_only scheme) path)) (Ok url) → Made scheme url
  made_plain path url other e =
      subst (Made scheme) (same_ok (with_path (scheme_only scheme) path) url e) (refl, not_both is_special (scheme_type scheme) other)

  made_non_special : (body : List ℕ) (url : Parts) → is_special (scheme_type scheme) ≡ false → parse_non_special scheme body ≡ Ok url → Made scheme url
  unfolding parse_non_special
  made_non_special body url other e =
      by_test (leading_slashes NotSpecial body == 2) _ _ url e (λ _ k. made_slashes (drop 2 body) url k) λ _ k.
      by_test (leading_slashes NotSpecial body == 1) _ _ url k (λ _ l. made_plain (parse_path NotSpecial [] (drop 1 body)) url other l)
      (λ _ l. made_plain (percent_encode OPAQUE_PATH body) url other l)

abbrev IsFileUrl : Parts → Type 0
IsFileUrl url = url.scheme ≡ codes "file"

made_file_slashes : (bytes : List ℕ) (url : Parts) → after_file_double_slash bytes ≡ Ok url → IsFileUrl url
unfolding after_file_double_slash
made_file_slashes bytes url e =
    let len = segment_len File bytes in
    by_test (is_windows_drive_letter (take len bytes)) _ _ url e (λ _ k. subst IsFileUrl (same_ok _ url k) refl)
    λ _ k. ok_then (parse_file_host (take len bytes)) _ url k (λ host read l. subst IsFileUrl (same_ok _ url l) refl)

made_file : (body : List ℕ) (url : Parts) → parse_file None body ≡ Ok url → IsFileUrl url
unfolding parse_file
made_file body url e =
    by_test (leading_slashes File body == 2) _ _ url e (λ _ k. made_file_slashes _ url k) (λ _ k. subst IsFileUrl (same_ok _ url k) refl)

made_body : (scheme body : List ℕ) (url : Parts) → parse_body scheme None body ≡ Ok url → Made scheme url
unfolding parse_body
made_body scheme body url e =
    by_test (is_file (scheme_type scheme)) _ _ url e
    (λ file k.
    let kind = file_from_is_file (scheme_type scheme) file in
    (made_file body url k ∙ sym (file_from_scheme_type scheme kind), not_both is_file (scheme_type scheme) file))
    λ _ k. by_test (is_special (scheme_type scheme)) _ _ url k (λ _ l. made_slashes scheme (skip_slashes body) url l)
    (λ other l. made_non_special scheme body url other l)

-- ---- the whole

http_kind : (url : Parts) → is_http url ≡ true → scheme_type url.scheme ≡ SpecialNotFile
unfolding scheme_type default_port
http_kind url http =
    by_first (bytes_eq url.scheme (codes "http")) (bytes_eq url.scheme (codes "https")) http
    (λ h. subst (λ s. scheme_type s ≡ SpecialNotFile) (sym ((bytes_eq-Decides url.scheme (codes "http")).0 h)) refl)
    (λ h. subst (λ s. scheme_type s ≡ SpecialNotFile) (sym ((bytes_eq-Decides url.scheme (codes "https")).0 h)) refl)
  where
    by_first : {P : Type 0} (a b : Bool) → (a || b) ≡ true → (a ≡ true → P) → (b ≡ true → P) → P
    by_first true b e h k = h refl
    by_first false b e h k = k e

record IsSpaceless (url : Parts) : Type 0 where
  body : UpToPath url
  query : IfThere url.query

pub kept_scheme : (url : Parts) (query fragment : Option (List ℕ)) → (before_tail url query fragment).scheme ≡ url.scheme
kept_scheme url query fragment =
    cond_both (not (is_special (kind_of url)) && (is_some query || is_some fragment)) (with_path url (escape_end url.path)) url (λ u. u.scheme ≡ url.scheme) (λ _. refl) (λ _. refl)

parsed_all : (scheme body : List ℕ) (query fragment : Option (List ℕ)) (url : Parts) → parse_all scheme None body query fragment ≡ Ok url → is_http url ≡ true → IsSpaceless url
parsed_all scheme body query fragment url e http =
    ok_then (parse_body scheme None body) _ url e λ head read k.
    let made = made_body scheme body head read in
    let same = same_ok (with_tail (before_tail head query fragment) query fragment) url k in
    let own : url.scheme ≡ head.scheme = sym (ap (λ u. u.scheme) same) ∙ kept_scheme head query fragment in
    let kind : kind_of head ≡ SpecialNotFile = sym (ap scheme_type own) ∙ http_kind url http in
    let body = made.1 (sym (ap scheme_type made.0) ∙ kind) in
    let plain = before_special head query fragment (ap is_special kind) in
    subst IsSpaceless (ap (λ u. with_tail u query fragment) (sym plain) ∙ same)
    (record { body = record { host = body.host; port = body.port; path = body.path }; query = parsed_query (kind_of head) query })

by_scheme : (split : Option (List ℕ × List ℕ)) (body : List ℕ) (query fragment : Option (List ℕ)) (url : Parts) → parse_by_scheme split None body query fragment ≡ Ok url → is_http url ≡ true → IsSpaceless url
unfolding parse_parts
by_scheme None body query fragment url e http = cc
by_scheme (Some split) body query fragment url e http = parsed_all (lowercase split.0) split.1 query fragment url e http

parsed_url : (uri : List ℕ) (url : Parts) → parse_url None uri ≡ Ok url → is_http url ≡ true → IsSpaceless url
unfolding parse_url
parsed_url uri url e http =
    let hash = split_once 35 (strip_tabs_and_new_lines (trim_c0_control_and_space uri)) in
    let question = split_once 63 hash.0 in
    by_scheme (split_scheme question.0) question.0 question.1 hash.1 url e http

host_text : (host : Option (Host (List ℕ))) → HostHoldsNone host → Spaceless (host_text_of host)
host_text None h = nothing
host_text (Some host) h = h

spaceless-surt_key : (url : Parts) → IsSpaceless url → Spaceless (surt_key url)
unfolding surt_key
spaceless-surt_key url h =
    let host = cond_both (has_host url) url.host None (λ o. Spaceless (host_text_of o)) (λ _. host_text url.host h.body.host) (λ _. nothing) in
    joined (joined (joined (joined host (spaceless-port url.port h.body.port)) (before (lit< tt) nothing)) (spaceless-lowered url.path h.body.path)) (spaceless-query_text url.query h.query)

from_parsed : (r : Result Parts ParseError) (key : List ℕ) → key_of_parsed r ≡ Some key → ((url : Parts) → r ≡ Ok url → is_http url ≡ true → IsSpaceless url) → Spaceless key
from_parsed (Err e) key h parts = cc
from_parsed (Ok url) key h parts = by_http (is_http url) h (λ http. spaceless-surt_key url (parts url refl http))
  where
    by_http : (test : Bool) → cond test (Some (surt_key url)) None ≡ Some key → (test ≡ true → Spaceless (surt_key url)) → Spaceless key
    by_http true e k = subst Spaceless (some_same (surt_key url) key e) (k refl)
      where
        some_same : (x y : List ℕ) → Some x ≡ Some y → x ≡ y
        some_same x y e = cc
    by_http false e k = cc

pub keys_hold_no_space : KeysHoldNoSpace
unfolding key_of
keys_hold_no_space uri key e = (by_ascii (list_all is_ascii uri) e (λ h. from_parsed (parse_url None uri) key h (parsed_url uri))).all
  where
    by_ascii : (test : Bool) → cond test (key_of_parsed (parse_url None uri)) None ≡ Some key → (key_of_parsed (parse_url None uri) ≡ Some key → Spaceless key) → Spaceless key
    by_ascii true e k = k e
    by_ascii false e k = cc
