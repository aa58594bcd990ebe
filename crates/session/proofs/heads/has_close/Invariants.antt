use Rattle.std.proofs.Common.{◌≡◌, length}
use Rattle.std.specs.List.{list_any}
use Rattle.std.specs.Prelude.{codes}
use Rattle.std.specs.Str.{bytes_eq}
use Rattle.capture.specs.Fields.{lowered}
use Rattle.message_body.specs.Framings.{members}
use Rattle.session.proofs.heads.has_close.Given as goal

-- what is left tells as much as the whole
abbrev pub invariant-members : goal.invariant-members
invariant-members l =
    list_any (λ member. bytes_eq (lowered member) (codes "close")) (members l.rest)
    ≡ list_any (λ member. bytes_eq (lowered member) (codes "close")) (members l.list)

abbrev pub decreases-members : goal.decreases-members
decreases-members l = length l.rest
