-- What is known of the target of an origin: it was accepted, and its parts are those of the URL that it is.
use Rattle.std.proofs.Common.{◌≡◌, ℕ, Bool, true, false, not, List, Result, Ok, Err, None, IsTrue, is_ok, refl, sym, ap, if◌then◌else◌}
use Rattle.std.specs.Prelude.{codes}
use Rattle.std.specs.Str.{bytes_eq}
use Rattle.std.proofs.lemmas.Bool.{and_from}
use Rattle.url.specs.Parts.{Parts}
use Rattle.url.specs.Parser.{parse_url, Parsed}
use Rattle.capture.specs.Target.{is_target_text, is_http_target, is_accepted_uri, after_authority, host_of, port_of, origin_form}
use Rattle.capture.specs.declared.site.Site.{Site}
use Rattle.exchange.specs.declared.aim.Aim.{Aim}
use Rattle.exchange.specs.declared.aim.Aim.TheVariants.{Origin}
use Rattle.exchange.specs.declared.aim.Aim.TheVariants.{Site as ToSite}
use Rattle.exchange.specs.declared.aim.AimFault.{AimFault}
use Rattle.exchange.specs.declared.aim.AimFault.TheVariants.{ConnectRefused, SecureRefused, TargetRefused}
use Rattle.exchange.specs.declared.aim.Target.{Target}
use Rattle.exchange.specs.Aim.{is_of_site, aim_of_url, begins_with_slash, begins_with_https, aim_of_other, aim_of_target, aim_of}

-- the target that is asked of an origin for this URL
abbrev target_of : List ℕ → List ℕ → Parts → Target
target_of method uri url = record {
  uri = uri;
  host = host_of url;
  port = port_of url;
  path = origin_form method (after_authority uri);
}

-- The target is that of a URL that is accepted.
pub record IsAimedAt (method uri : List ℕ) (target : Target) : Type 0 where
  pub url : Parts
  pub form : is_http_target uri ≡ true
  pub parses : parse_url None uri ≡ Ok url
  pub uri_is : target.uri ≡ uri
  pub host_is : target.host ≡ host_of url
  pub port_is : target.port ≡ port_of url
  pub path_is : target.path ≡ origin_form method (after_authority uri)

abbrev aimed : Aim → Result Aim AimFault
aimed aim = Ok aim

behind_fault : (test : Bool) (fault : AimFault) (rest : Result Aim AimFault) (aim : Aim)
    → (if test then Err fault else rest) ≡ Ok aim → rest ≡ Ok aim
behind_fault true fault rest aim h = absurd cc
behind_fault false fault rest aim h = h

made_target : (of_site : Bool) (path : List ℕ) (made target : Target)
    → (if of_site then Ok (ToSite path) else Ok (Origin made)) ≡ aimed (Origin target) → made ≡ target
made_target true path made target h = absurd cc
made_target false path made target h = cc

to_no_origin : (slash secure : Bool) (path : List ℕ) (target : Target)
    → (if slash then Ok (ToSite path) else (if secure then Err SecureRefused else Err TargetRefused)) ≡ aimed (Origin target) → ⊥
to_no_origin true secure path target h = cc
to_no_origin false true path target h = cc
to_no_origin false false path target h = cc

aimed_by_url : (site : Site) (method uri : List ℕ) (parsed : Parsed Parts) (target : Target) → is_http_target uri ≡ true
    → parse_url None uri ≡ parsed → aim_of_url site method uri parsed ≡ Ok (Origin target) → IsAimedAt method uri target
aimed_by_url site method uri (Ok url) target form parses h =
    let made = sym (made_target (is_of_site site url) (after_authority uri) (target_of method uri url) target h) in
    record {
      url = url;
      form = form;
      parses = parses;
      uri_is = ap (λ (t : Target). t.uri) made;
      host_is = ap (λ (t : Target). t.host) made;
      port_is = ap (λ (t : Target). t.port) made;
      path_is = ap (λ (t : Target). t.path) made;
    }
aimed_by_url site method uri (Err fault) target form parses h = absurd cc

aimed_by_kind : (http : Bool) (site : Site) (method uri : List ℕ) (target : Target) → is_http_target uri ≡ http
    → (if http then aim_of_url site method uri (parse_url None uri) else aim_of_other uri) ≡ Ok (Origin target) → IsAimedAt method uri target
aimed_by_kind true site method uri target form h = aimed_by_url site method uri (parse_url None uri) target form refl h
aimed_by_kind false site method uri target form h =
    absurd (to_no_origin (begins_with_slash uri) (begins_with_https uri) uri target
    (behind_fault (not (is_target_text uri)) TargetRefused _ (Origin target) h))

-- an origin's target is that of an accepted URL
pub aimed_at : (site : Site) (method uri : List ℕ) (target : Target) → aim_of site method uri ≡ Ok (Origin target)
    → IsAimedAt method uri target
aimed_at site method uri target h =
    aimed_by_kind (is_http_target uri) site method uri target refl
    (behind_fault (bytes_eq method (codes "CONNECT")) ConnectRefused (aim_of_target site method uri) (Origin target) h)

-- such a target is an accepted one
pub accepted : (method uri : List ℕ) (target : Target) → IsAimedAt method uri target → IsTrue (is_accepted_uri uri)
accepted method uri target at = and_from _ _ at.form (ap is_ok at.parses)
