-- The key of a text, by what is known of the text.
use Rattle.std.proofs.Common.{◌≡◌, ℕ, ◌<◌, Bool, true, false, List, [], ◌++◌, Option, None, Some, Ok, Err, IsAscii, cond, refl, ap, ◌∙◌, arith, lt-ltb, ltb-true}
use Rattle.std.specs.List.{list_all}
use Rattle.std.specs.Char.{is_ascii}
use Rattle.std.specs.Str.{IsNotAscii}
use Rattle.std.proofs.lemmas.Bool.{false_from_ne_true}
use Rattle.std.proofs.lemmas.List.Elements.{All-weaker}
use Rattle.std.proofs.lemmas.List.Sums.{AllPass-from_list_all, list_all-from_AllPass}
use Rattle.std.proofs.lemmas.Str.Ascii.{All-from_ascii, IsAscii-from_all}
use Rattle.url.specs.declared.error.ParseError.{ParseError}
use Rattle.url.specs.Parser.{parse_url}
use Rattle.url.specs.Parts.{Parts}
use Rattle.surt_key.specs.Key.{surt_key, is_http, key_of_parsed, key_of}

not_all : (bytes : List ℕ) → IsNotAscii bytes → list_all is_ascii bytes ≡ false
not_all bytes h =
    false_from_ne_true _ (λ all.
    let ascii = All-weaker (λ b. is_ascii b ≡ true) (λ b. b < 128) (λ b e. ltb-true b 128 e) bytes (AllPass-from_list_all is_ascii bytes all) in
    omega (arith, IsAscii-from_all bytes ascii h.0, h.1))

all_ascii : (bytes : List ℕ) → IsAscii bytes → list_all is_ascii bytes ≡ true
all_ascii bytes h =
    list_all-from_AllPass is_ascii bytes (All-weaker (λ b. b < 128) (λ b. is_ascii b ≡ true) (λ b e. lt-ltb b 128 e) bytes (All-from_ascii bytes h))

pub key_of-not_ascii : (uri : List ℕ) → IsNotAscii uri → key_of uri ≡ None
unfolding key_of
key_of-not_ascii uri h = ap (λ b. cond b (key_of_parsed (parse_url None uri)) None) (not_all uri h)

key_of-ascii : (uri : List ℕ) → IsAscii uri → key_of uri ≡ key_of_parsed (parse_url None uri)
unfolding key_of
key_of-ascii uri h = ap (λ b. cond b (key_of_parsed (parse_url None uri)) None) (all_ascii uri h)

pub key_of-http : (uri : List ℕ) (url : Parts) → IsAscii uri → parse_url None uri ≡ Ok url → is_http url ≡ true → key_of uri ≡ Some (surt_key url)
key_of-http uri url h parsed http =
    key_of-ascii uri h ∙ ap key_of_parsed parsed ∙ ap (λ b. cond b (Some (surt_key url)) None) http

pub key_of-other_scheme : (uri : List ℕ) (url : Parts) → IsAscii uri → parse_url None uri ≡ Ok url → is_http url ≡ false → key_of uri ≡ None
key_of-other_scheme uri url h parsed http =
    key_of-ascii uri h ∙ ap key_of_parsed parsed ∙ ap (λ b. cond b (Some (surt_key url)) None) http

pub key_of-refused : (uri : List ℕ) (e : ParseError) → IsAscii uri → parse_url None uri ≡ Err e → key_of uri ≡ None
key_of-refused uri e h refused = key_of-ascii uri h ∙ ap key_of_parsed refused

passed : (v : Bool) (x : Option (List ℕ)) (key : List ℕ) → cond v x None ≡ Some key → v ≡ true
passed true x key e = refl
passed false x key e = absurd (cc)

-- a text that has a key is of ASCII
pub keyed_is_ascii : (uri key : List ℕ) → key_of uri ≡ Some key → IsAscii uri
unfolding key_of
keyed_is_ascii uri key e =
    let all : list_all is_ascii uri ≡ true = passed (list_all is_ascii uri) (key_of_parsed (parse_url None uri)) key e in
    IsAscii-from_all uri (All-weaker (λ b. is_ascii b ≡ true) (λ b. b < 128) (λ b below. ltb-true b 128 below) uri (AllPass-from_list_all is_ascii uri all))

-- five texts, put one behind the other
pub five_put : (a b c d e o0 o1 o2 o3 o4 o5 : List ℕ) → o0 ≡ [] → o1 ≡ o0 ++ a → o2 ≡ o1 ++ b → o3 ≡ o2 ++ c → o4 ≡ o3 ++ d → o5 ≡ o4 ++ e → o5 ≡ a ++ b ++ c ++ d ++ e
five_put a b c d e o0 o1 o2 o3 o4 o5 h0 h1 h2 h3 h4 h5 =
    h5 ∙ ap (λ t. t ++ e) (h4 ∙ ap (λ t. t ++ d) (h3 ∙ ap (λ t. t ++ c) (h2 ∙ ap (λ t. t ++ b) (h1 ∙ ap (λ t. t ++ a) h0))))
