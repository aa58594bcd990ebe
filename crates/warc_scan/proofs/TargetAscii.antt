-- An accepted target is a text of ASCII.
use Rattle.std.proofs.Common.{◌≡◌, ℕ, ◌<◌, Bool, true, false, ◌&&◌, List, [], ◌∷◌, Some, None, arith, refl}
use Rattle.std.specs.Prelude.{Option, IfSome, IsAscii, IsSome, IsTrue, option_map}
use Rattle.std.proofs.lemmas.Bool.{and_parts, false≢true}
use Rattle.std.proofs.lemmas.Bool.Decides.{nat_tests}
use Rattle.std.proofs.lemmas.Str.Ascii.{IsAscii-nil, IsAscii-cons}
use Rattle.capture.specs.Target.{authority_of, begins_with_http, is_accepted_uri, is_http_target, is_plain_authority, is_target_byte, is_target_text}
use Rattle.capture.specs.declared.text.Text.{Text}
use Rattle.record_opening.specs.Openings.{IsRevisited, reference_of}
use Rattle.record_opening.specs.declared.opening_parts.Refers.{Refers}

both : (a b : Bool) → (a && b) ≡ true → (a ≡ true) × (b ≡ true)
both true true h = (refl, refl)
both true false h = absurd (cc)
both false b h = absurd (cc)

byte_is_ascii : (b : ℕ) → is_target_byte b ≡ true → b < 128
byte_is_ascii b h = grind (arith, nat_tests, both)

text_is_ascii : (target : List ℕ) → is_target_text target ≡ true → IsAscii target
text_is_ascii [] h = IsAscii-nil
text_is_ascii (b ∷ bytes) h =
    let parts = both (is_target_byte b) (is_target_text bytes) h in
    IsAscii-cons b bytes (byte_is_ascii b parts.0) (text_is_ascii bytes parts.1)

pub target_is_ascii : (target : List ℕ) → IsTrue (is_accepted_uri target) → IsAscii target
target_is_ascii target is =
    let http = (and_parts (is_http_target target) _ is).0 in
    text_is_ascii target
    (and_parts (is_target_text target) (begins_with_http target)
    (and_parts (is_target_text target && begins_with_http target) (is_plain_authority (authority_of target)) http).0).0

pub none_is_no_some : (r : Option Text) → r ≡ None → IsSome r → ⊥
none_is_no_some None e some = false≢true some
none_is_no_some (Some t) e some = cc

-- what is referred to has such a target
pub revisited_target : (same : Option Refers) → IfSome (option_map reference_of same) IsRevisited
    → IfSome same (λ refers. IsTrue (is_accepted_uri refers.uri.now))
revisited_target None is = tt
revisited_target (Some refers) is = is.target
