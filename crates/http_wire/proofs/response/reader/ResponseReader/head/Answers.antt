use Rattle.std.proofs.Common.{sym, ap, ◌∙◌, subst}
use Rattle.http_wire.specs.Heads.{HoldsResponseHead}
use Rattle.http_wire.proofs.ResponseLaws.{lacks_where_none}
use Rattle.http_wire.proofs.response.reader.ResponseReader.head.Goals as goal

pub returns-in-None-clause-lacks : goal.returns-in-None-clause-lacks
returns-in-None-clause-lacks c =
    lacks_where_none c.args.self.now.answers_head c.args.self.now.stream c.args.self.now.standing c.args.self.now.head
    (subst (λ r. HoldsResponseHead r.answers_head r.stream r.standing r.head) c.self.view_is c.self.invariant.head)
    (sym (ap (λ r. r.head) c.self.view_is) ∙ c.in-None.is)
