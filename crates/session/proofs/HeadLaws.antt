-- Fields of a head, one by one.
use Rattle.std.proofs.Common.{◌≡◌, Bool, ◌||◌, List, [], ◌∷◌, map, refl, ap}
use Rattle.std.specs.List.{list_any}
use Rattle.capture.specs.Fields.{NamedValue}
use Rattle.http_head.specs.Heads.{named_value}
use Rattle.http_head.specs.declared.head.Field.{Field}

-- fields, as they are named
pub any_named : (test : NamedValue → Bool) (fields : List Field) → list_any (λ f. test (named_value f)) fields ≡ list_any test (map named_value fields)
any_named test [] = refl
any_named test (f ∷ fields) = ap (λ b. test (named_value f) || b) (any_named test fields)
