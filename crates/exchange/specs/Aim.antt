-- Where a request is aimed (RFC 9112, section 3.2).
use Rattle.std.specs.Prelude.{◌≡◌, ⊤, ℕ, ◌^◌, ◌<◌, Bool, not, ◌&&◌, ◌==◌, nat_eq, List, codes, length, Result, Ok, Err, None, if◌then◌else◌}
use Rattle.std.specs.List.{starts_with}
use Rattle.std.specs.Str.{bytes_eq}
use Rattle.url.specs.Parts.{Parts}
use Rattle.url.specs.Parser.{parse_url, Parsed}
use Rattle.capture.specs.declared.site.Site.{Site}
use Rattle.capture.specs.Target.{is_target_text, is_http_target, after_authority, host_of, port_of, origin_form}
use Rattle.exchange.specs.declared.aim.Aim.{Aim}
use Rattle.exchange.specs.declared.aim.Aim.TheVariants.{Origin}
use Rattle.exchange.specs.declared.aim.Aim.TheVariants.{Site as ToSite}
use Rattle.exchange.specs.declared.aim.AimFault.{AimFault}
use Rattle.exchange.specs.declared.aim.AimFault.TheVariants.{ConnectRefused, SecureRefused, TargetRefused, Memory}

-- the URL has the site's host and port
abbrev pub is_of_site : Site → Parts → Bool
is_of_site site url = bytes_eq (host_of url) site.host && port_of url == site.port

-- where an accepted absolute target is aimed, by the URL that it is
abbrev pub aim_of_url : Site → List ℕ → List ℕ → Parsed Parts → Result Aim AimFault
aim_of_url site method target (Ok url) =
    if is_of_site site url then Ok (ToSite (after_authority target))
    else Ok (Origin (record {
      uri = target;
      host = host_of url;
      port = port_of url;
      path = origin_form method (after_authority target);
    }))
aim_of_url site method target (Err e) = Err TargetRefused

-- the target begins with a slash
abbrev pub begins_with_slash : List ℕ → Bool
begins_with_slash target = starts_with nat_eq target (codes "/")

-- the target begins with `https://`
abbrev pub begins_with_https : List ℕ → Bool
begins_with_https target = starts_with nat_eq target (codes "https://")

-- where a target is aimed that is no absolute one
abbrev pub aim_of_other : List ℕ → Result Aim AimFault
aim_of_other target =
    if not (is_target_text target) then Err TargetRefused
    else (if begins_with_slash target then Ok (ToSite target)
    else (if begins_with_https target then Err SecureRefused else Err TargetRefused))

-- where a target is aimed
abbrev pub aim_of_target : Site → List ℕ → List ℕ → Result Aim AimFault
aim_of_target site method target =
    if is_http_target target then aim_of_url site method target (parse_url None target) else aim_of_other target

-- where a request is aimed
abbrev pub aim_of : Site → List ℕ → List ℕ → Result Aim AimFault
aim_of site method target =
    if bytes_eq method (codes "CONNECT") then Err ConnectRefused else aim_of_target site method target

-- that aim, or want of memory
abbrev pub IsAim : Result Aim AimFault → Result Aim AimFault → Type 0
IsAim expected (Ok aim) = expected ≡ Ok aim
IsAim expected (Err ConnectRefused) = expected ≡ Err ConnectRefused
IsAim expected (Err SecureRefused) = expected ≡ Err SecureRefused
IsAim expected (Err TargetRefused) = expected ≡ Err TargetRefused
IsAim expected (Err Memory) = ⊤

-- an origin's host is no longer than that of a URL, whose places have 32 bits
abbrev pub HasShortHost : Aim → Type 0
HasShortHost (Origin target) = length target.host < 2 ^ 32
HasShortHost (ToSite path) = ⊤
