-- Fields by name and value.
use Rattle.std.proofs.Common.{◌≡◌, ◌||◌, List, [], ◌∷◌, map, refl, ap}
use Rattle.std.specs.List.{list_any}
use Rattle.http_head.specs.Heads.{named_value}
use Rattle.http_head.specs.declared.head.Field.{Field}
use Rattle.replay_answer.specs.Bodies.{tells_coding}

pub any_coding : (fields : List Field) → list_any (λ (f : Field). tells_coding (named_value f)) fields ≡ list_any tells_coding (map named_value fields)
any_coding [] = refl
any_coding (field ∷ fields) = ap (λ b. tells_coding (named_value field) || b) (any_coding fields)
