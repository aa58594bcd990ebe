-- Where a value leads to.
use Rattle.std.proofs.Common.{◌≡◌, ℕ, true, false, List, refl, ap, Option, Some, None, Ok, Err}
use Rattle.std.proofs.lemmas.Str.{IsUtf8-from_is_utf8, is_utf8-from_IsUtf8}
use Rattle.std.specs.Str.{IsUtf8, is_utf8}
use Rattle.url.specs.declared.error.ParseError.{ParseError}
use Rattle.url.specs.Parser.{parse_url}
use Rattle.url.specs.Parts.{Parts}
use Rattle.html_rewrite.specs.Links.{page_url, target_from, text_target}

pub utf8_true : (t : List ℕ) → IsUtf8 t → is_utf8 t ≡ true
utf8_true t h = is_utf8-from_IsUtf8 t h

pub utf8_false : (t : List ℕ) → (IsUtf8 t → ⊥) → is_utf8 t ≡ false
utf8_false t h =
    elim (is_utf8 t) as (λ v. is_utf8 t ≡ v → v ≡ false)
    [ true ↦ λ e. absurd (h (IsUtf8-from_is_utf8 t e)) | false ↦ λ e. refl ]
    refl

pub page_url-no_text : (t : List ℕ) → (IsUtf8 t → ⊥) → None ≡ page_url t
page_url-no_text t h = rw (utf8_false t h) refl

pub page_url-parsed : (t : List ℕ) (url : Parts) → IsUtf8 t → parse_url None t ≡ Ok url → Some url ≡ page_url t
page_url-parsed t url h e = rw (utf8_true t h, e) refl

pub page_url-refused : (t : List ℕ) (e : ParseError) → IsUtf8 t → parse_url None t ≡ Err e → None ≡ page_url t
page_url-refused t e h refused = rw (utf8_true t h, refused) refl

pub text_target-no_text : (base : Option Parts) (reference : List ℕ) → (IsUtf8 reference → ⊥) → None ≡ text_target base reference
text_target-no_text base reference h = rw (utf8_false reference h) refl

pub text_target-text : (base : Option Parts) (reference text : List ℕ) → IsUtf8 reference → text ≡ reference → target_from base text ≡ text_target base reference
text_target-text base reference text h e = rw (utf8_true reference h) (ap (target_from base) e)
