-- The piece is too long, or it is refused.
use Rattle.std.proofs.Common.{sym, subst}
use Rattle.std.specs.Prelude.{codes}
use Rattle.command.specs.declared.status.Status.TheVariants.{Outside}
use Rattle.following.proofs.FollowsLaws.{told_number}
use Rattle.following.specs.StopTexts.{TellsStop}
use Rattle.replica.specs.declared.asking.SourceFault.{SourceFault}
use Rattle.replica.specs.declared.following.Stop.TheVariants.{Source}
use Rattle.following.proofs.telling.tell_source.Goals as goal

pub returns-in-TooLong : goal.returns-in-TooLong
returns-in-TooLong g c =
    subst (λ (fault : SourceFault). TellsStop g.O.Sink (Source c.args.number fault) c.args.out.now c.tell_numbered.new.out c.tell_numbered.result) (sym c.in-TooLong.is)
    (told_number g.O.Sink Outside (codes "piece too long ") c.from.result c.args.number c.args.out.now c.tell_numbered.new.out c.tell_numbered.result
    c.from.ensures c.tell_numbered.ensures)

pub returns-in-Refused : goal.returns-in-Refused
returns-in-Refused g c =
    subst (λ (fault : SourceFault). TellsStop g.O.Sink (Source c.args.number fault) c.args.out.now c.tell_numbered-in-Refused.new.out c.tell_numbered-in-Refused.result)
    (sym c.in-Refused.is)
    (told_number g.O.Sink Outside (codes "source refused ") c.from-in-Refused.result c.in-Refused.status c.args.out.now c.tell_numbered-in-Refused.new.out
    c.tell_numbered-in-Refused.result c.from-in-Refused.ensures c.tell_numbered-in-Refused.ensures)
