-- What an accepted target's bytes and URL are.
use Rattle.std.proofs.Common.{◌≡◌, ℕ, ◌≤◌, Bool, true, false, not, ◌&&◌, List, [], map, length, take, drop, get_or, codes, Option, Some, None, Result, Ok, Err, is_ok, unwrap_or, IsAscii, refl, sym, ap, ◌∙◌, arith, lit≤, if◌then◌else◌}
use Rattle.std.specs.Char.{to_ascii_lowercase}
use Rattle.std.specs.Option.{MatchOption}
use Rattle.std.specs.Str.{bytes_eq}
use Rattle.std.proofs.lemmas.List.{length-take, length-map, take-take, take-map}
use Rattle.std.proofs.lemmas.Slice.Eq.{bytes_eq-Decides}
use Rattle.std.proofs.lemmas.Str.{IsAscii-drop}
use Rattle.std.proofs.lemmas.Str.Ascii.{IsAscii-nil}
use Rattle.url.specs.declared.host.Host.{Host}
use Rattle.url.specs.declared.host.Host.TheVariants.{Domain}
use Rattle.url.specs.declared.scheme.SchemeType.{SchemeType}
use Rattle.url.specs.Host.{host_text, IsHostOf}
use Rattle.url.specs.Scheme.{is_special}
use Rattle.url.specs.Parts.{Parts, IsValid, kind_of}
use Rattle.url.specs.Parser.{parse_url, Parsed}
use Rattle.url.proofs.HostLemmas.{IsAscii-host_text}
use Rattle.capture.specs.Fields.{lowered}
use Rattle.capture.specs.Target.{is_http_target, is_target_text, begins_with_http, http_prefix, is_plain_authority, authority_of, authority_len, after_authority, host_of, is_accepted_uri}
use Rattle.capture.specs.declared.site.Site.{Site}
use Rattle.exchange.specs.declared.aim.Aim.{Aim}
use Rattle.exchange.specs.declared.aim.Aim.TheVariants.{Site as ToSite}
use Rattle.exchange.specs.declared.aim.AimFault.{AimFault}
use Rattle.exchange.specs.declared.aim.AimFault.TheVariants.{ConnectRefused, SecureRefused, TargetRefused}
use Rattle.exchange.specs.Aim.{begins_with_slash, begins_with_https, aim_of, aim_of_target, aim_of_url, aim_of_other}

IsAscii-text_of_host : (kind : SchemeType) (host : Option (Host (List ℕ))) → MatchOption host (is_special kind ≡ false) (IsHostOf kind) → IsAscii (host_text (unwrap_or host (Domain [])))
IsAscii-text_of_host kind None h = IsAscii-nil
IsAscii-text_of_host kind (Some host) h = IsAscii-host_text kind host h

-- the host that is dialed is ASCII
pub IsAscii-host_of : (url : Parts) → IsValid url → IsAscii (host_of url)
IsAscii-host_of url valid = IsAscii-text_of_host (kind_of url) url.host valid.head.host

-- both tests passed
both : (a b : Bool) → (a && b) ≡ true → (a ≡ true) × (b ≡ true)
both true true h = (refl, refl)
both true false h = absurd cc
both false b h = absurd cc

-- a target that is served begins so
http_front : (target : List ℕ) → is_http_target target ≡ true → lowered (take 7 target) ≡ http_prefix
http_front target h =
    let begins : begins_with_http target ≡ true = (both (is_target_text target) (begins_with_http target) (both (is_target_text target && begins_with_http target) (is_plain_authority (authority_of target)) h).0).1 in
    (bytes_eq-Decides (lowered (take 7 target)) http_prefix).0 begins

-- it has room for its scheme
pub http_room : (target : List ℕ) → is_http_target target ≡ true → 7 ≤ length target
http_room target h =
    let whole : length (lowered (take 7 target)) ≡ 7 = ap length (http_front target h) in
    omega (arith, whole, length-map (take 7 target) to_ascii_lowercase, length-take 7 target)

-- what follows its authority is ASCII with it
pub IsAscii-after_authority : (target rest : List ℕ) → rest ≡ after_authority target → IsAscii target → IsAscii rest
IsAscii-after_authority target rest is ascii =
    let behind : IsAscii (after_authority target) = IsAscii-drop (drop 7 target) (authority_len (drop 7 target)) (IsAscii-drop target 7 ascii) in
    rw is behind

never : (b : Bool) → (b ≡ true → ⊥) → b ≡ false
never true h = absurd (h refl)
never false h = refl

abbrev byte_at : List ℕ → ℕ → ℕ
byte_at xs i = get_or xs i 0

no_slash : (target : List ℕ) → lowered (take 7 target) ≡ http_prefix → begins_with_slash target ≡ true → ⊥
no_slash target front slash =
    let first : take 1 target ≡ codes "/" = sym ((bytes_eq-Decides (codes "/") (take 1 target)).0 slash) in
    let one : map to_ascii_lowercase (take 1 (take 7 target)) ≡ codes "/" = ap (map to_ascii_lowercase) (take-take 1 7 target (lit≤ tt) ∙ first) in
    let same : byte_at (codes "/") 0 ≡ byte_at http_prefix 0 = ap (λ xs. byte_at xs 0) (sym one ∙ sym (take-map to_ascii_lowercase 1 (take 7 target)) ∙ ap (take 1) front) in
    omega arith

no_https : (target : List ℕ) → lowered (take 7 target) ≡ http_prefix → begins_with_https target ≡ true → ⊥
no_https target front https =
    let first : take 8 target ≡ codes "https://" = sym ((bytes_eq-Decides (codes "https://") (take 8 target)).0 https) in
    let seven : take 7 target ≡ take 7 (codes "https://") = sym (take-take 7 8 target (lit≤ tt)) ∙ ap (take 7) first in
    let same : byte_at (take 7 (codes "https://")) 4 ≡ byte_at http_prefix 4 = ap (λ xs. byte_at xs 4) (sym (ap (map to_ascii_lowercase) seven) ∙ front) in
    omega arith

refused_without_url : (site : Site) (method target : List ℕ) (parsed : Parsed Parts) → is_ok parsed ≡ false → aim_of_url site method target parsed ≡ Err TargetRefused
refused_without_url site method target (Ok url) h = absurd cc
refused_without_url site method target (Err e) h = refl

other_refused : (text slash https : Bool) (aim : Result Aim AimFault) → slash ≡ false → https ≡ false → (if not text then Err TargetRefused else (if slash then aim else (if https then Err SecureRefused else Err TargetRefused))) ≡ Err TargetRefused
other_refused true slash https aim no_slash no_https = rw (no_slash, no_https) refl
other_refused false slash https aim no_slash no_https = refl

-- an `http` target that is no URL is aimed as another target
http_refused : (target : List ℕ) → is_http_target target ≡ true → aim_of_other target ≡ Err TargetRefused
http_refused target h =
    let front = http_front target h in
    other_refused (is_target_text target) (begins_with_slash target) (begins_with_https target) (Ok (ToSite target))
    (never (begins_with_slash target) (no_slash target front)) (never (begins_with_https target) (no_https target front))

by_form : (site : Site) (method target : List ℕ) (http : Bool) → is_http_target target ≡ http → (http && is_ok (parse_url None target)) ≡ false → (if http then aim_of_url site method target (parse_url None target) else aim_of_other target) ≡ aim_of_other target
by_form site method target true h refused =
    refused_without_url site method target (parse_url None target) refused ∙ sym (http_refused target h)
by_form site method target false h refused = refl

-- where a target is aimed that isn't accepted
pub aim_of-unaccepted : (site : Site) (method target : List ℕ) → bytes_eq method (codes "CONNECT") ≡ false → is_accepted_uri target ≡ false → aim_of site method target ≡ aim_of_other target
aim_of-unaccepted site method target other refused =
    ap (λ connect. if connect then Err ConnectRefused else aim_of_target site method target) other
    ∙ by_form site method target (is_http_target target) refl refused
