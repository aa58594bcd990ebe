use Rattle.std.proofs.Common.{sym, ap, ◌∙◌}
use Rattle.std.proofs.lemmas.Option.{same_Some}
use Rattle.archive_volumes.proofs.GroupLaws.{got}
use Rattle.archive_volumes.specs.declared.spot.Spot.{Spot}
use Rattle.archive_reading.proofs.kept_group.volume_at.Goals as goal

pub returns : goal.returns
returns c = λ spot at.
    ap (λ (s : Spot). s.volume) (sym c.index-spots-number.is)
    ∙ ap (λ (s : Spot). s.volume) (same_Some c.index-spots-number.result spot
    (sym (got c.args.spots.now c.args.number c.index-spots-number.result c.requires c.index-spots-number.is) ∙ at))
