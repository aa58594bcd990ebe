-- A target's bytes are ASCII.
use Rattle.std.proofs.Common.{◌≡◌, ℕ, ◌<◌, Bool, true, false, ◌&&◌, List, [], ◌∷◌, arith, IsAscii, refl}
use Rattle.std.proofs.lemmas.Bool.Decides.{nat_tests}
use Rattle.std.proofs.lemmas.Str.Ascii.{IsAscii-nil, IsAscii-cons}
use Rattle.capture.specs.Target.{is_target_byte, is_target_text, is_http_target, begins_with_http, is_plain_authority, authority_of}

-- both tests passed
both : (a b : Bool) → (a && b) ≡ true → (a ≡ true) × (b ≡ true)
both true true h = (refl, refl)
both true false h = absurd (cc)
both false b h = absurd (cc)

target_byte_ascii : (b : ℕ) → is_target_byte b ≡ true → b < 128
target_byte_ascii b h = grind (arith, nat_tests, both)

pub is_target_text-ascii : (target : List ℕ) → is_target_text target ≡ true → IsAscii target
is_target_text-ascii [] h = IsAscii-nil
is_target_text-ascii (b ∷ bytes) h =
    let parts = both (is_target_byte b) (is_target_text bytes) h in
    IsAscii-cons b bytes (target_byte_ascii b parts.0) (is_target_text-ascii bytes parts.1)

pub is_http_target-ascii : (target : List ℕ) → is_http_target target ≡ true → IsAscii target
is_http_target-ascii target h =
    is_target_text-ascii target
    (both _ _ (both (is_target_text target && begins_with_http target) (is_plain_authority (authority_of target)) h).0).0
