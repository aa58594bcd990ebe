use Rattle.std.proofs.Common.{subst}
use Rattle.std.specs.Prelude.{IfNone, IfSome}
use Rattle.warc_scan.specs.Groups.{IsGroup}
use Rattle.archive_pieces.specs.PieceParts.{BeginsWithFront, IsNoGroup}
use Rattle.archive_pieces.proofs.PieceReading.{begun_found, not_begun_group}
use Rattle.archive_pieces.proofs.parts.begun_in.Goals as goal

pub returns-in-None-clause-none : goal.returns-in-None-clause-none
returns-in-None-clause-none c uuid =
    not_begun_group c.args.namespace.now c.args.volume c.args.number c.args.bytes.now uuid c.in-Some.front
    (subst (λ o. IfSome o (BeginsWithFront c.args.namespace.now c.args.volume c.args.bytes.now)) c.in-Some.is c.in_ok-front.ensures.some)
    c.split_at.result.1.now c.split_at.ensures.back
    (subst (λ o. IfNone o (IsNoGroup c.args.namespace.now c.args.number c.split_at.result.1.now)) c.in-None.is c.in_ok-group.ensures.none)

pub returns-in-Some-2-clause-some : goal.returns-in-Some-2-clause-some
returns-in-Some-2-clause-some c =
    begun_found c.args.namespace.now c.args.volume c.args.number c.args.bytes.now c.in-Some.front
    (subst (λ o. IfSome o (BeginsWithFront c.args.namespace.now c.args.volume c.args.bytes.now)) c.in-Some.is c.in_ok-front.ensures.some)
    c.split_at.result.1.now c.split_at.ensures.back c.in-Some-2.group
    (subst (λ o. IfSome o (IsGroup c.args.namespace.now c.args.number c.split_at.result.1.now)) c.in-Some-2.is c.in_ok-group.ensures.some)
