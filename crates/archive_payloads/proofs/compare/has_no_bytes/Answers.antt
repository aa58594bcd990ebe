use Rattle.std.proofs.Common.{false}
use Rattle.archive_payloads.proofs.SliceLaws.{ends_at_once}
use Rattle.archive_payloads.proofs.compare.has_no_bytes.Goals as goal

pub returns : goal.returns
returns c payload is =
    ends_at_once payload c.next-first.result.now _ _ (c.next-first.ensures.front payload (c.of-slices.ensures false payload is)) c.is_empty.result c.is_empty.ensures
