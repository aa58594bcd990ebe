use Rattle.std.proofs.Common.{length, ap, arith}
use Rattle.http_head.proofs.FeedLaws.{ends_at, open_at, too_long_at}
use Rattle.http_head.proofs.head_reader.HeadReader.progress.Goals as goal

pub judge-requires : goal.judge-requires
judge-requires c = ends_at _ _ _ c.self.invariant c.self.view_is c.in-Ended.is c.requires

pub returns-in_default : goal.returns-in_default
returns-in_default c =
    too_long_at _ _ _ c.self.invariant c.self.view_is c.in_default.not-Ended
    (omega (arith, ap length c.self.view_is))

pub returns-in_default-2 : goal.returns-in_default-2
returns-in_default-2 c = (
  open_at _ _ _ c.self.invariant c.self.view_is c.in_default-2.not-Ended,
  omega (arith, ap length c.self.view_is),
)
