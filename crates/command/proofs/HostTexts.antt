-- The host of a URL is ASCII, and a base is where it is so with its slash.
use Rattle.std.proofs.Common.{◌≡◌, false, List, ℕ, [], codes, length, take, Option, Some, None, unwrap_or, IsAscii, subst, ◌∙◌, ap}
use Rattle.std.specs.Option.{MatchOption}
use Rattle.std.proofs.Math.Seq.{take-append_seam}
use Rattle.std.proofs.lemmas.Str.{IsAscii-take}
use Rattle.std.proofs.lemmas.Str.Ascii.{IsAscii-nil}
use Rattle.url.specs.declared.host.Host.{Host}
use Rattle.url.specs.declared.host.Host.TheVariants.{Domain}
use Rattle.url.specs.declared.scheme.SchemeType.{SchemeType}
use Rattle.url.specs.Host.{host_text, IsHostOf}
use Rattle.url.specs.Scheme.{is_special}
use Rattle.url.specs.Parts.{Parts, IsValid, kind_of}
use Rattle.url.proofs.HostLemmas.{IsAscii-host_text}
use Rattle.capture.specs.Target.{host_of}
use Rattle.command.specs.Base.{with_slash}

any_host : (kind : SchemeType) (host : Option (Host (List ℕ))) → MatchOption host (is_special kind ≡ false) (IsHostOf kind) → IsAscii (host_text (unwrap_or host (Domain [])))
any_host kind None valid = IsAscii-nil
any_host kind (Some host) valid = IsAscii-host_text kind host valid

pub IsAscii-host_of : (url : Parts) → IsValid url → IsAscii (host_of url)
IsAscii-host_of url valid = any_host (kind_of url) url.host valid.head.host

pub IsAscii-base : (base text : List ℕ) → text ≡ with_slash base → IsAscii text → IsAscii base
IsAscii-base base text is ascii =
    let front : take (length base) text ≡ base = ap (λ t. take (length base) t) is ∙ take-append_seam base (codes "/") in
    subst (λ t. IsAscii t) front (IsAscii-take text (length base) ascii)
