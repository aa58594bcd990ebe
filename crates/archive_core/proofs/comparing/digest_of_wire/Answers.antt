use Rattle.std.proofs.Common.{sym, ◌∙◌}
use Rattle.archive_payloads.proofs.ChooseLaws.{no_bytes}
use Rattle.archive_core.proofs.DigestLaws.{digested_all, digested_none, digested_on}
use Rattle.archive_core.proofs.comparing.digest_of_wire.Goals as goal

pub walking-init : goal.walking-init
walking-init c cut payload is = digested_none payload _ _ c.new-hasher.result (c.of-slices.ensures cut payload is) c.new-hasher.ensures

pub walking-preserved : goal.walking-preserved
walking-preserved c cut payload is =
    let digested = c.walking.invariant cut payload is in
    digested_on payload c.next-slice.result.now _ _ _ _ c.walking.hasher c.update.new.self digested
    (c.next-slice.ensures.front digested.left digested.is) c.update.ensures

pub returns-then-is_empty : goal.returns-then-is_empty
returns-then-is_empty c cut payload is =
    let digested = c.walking.invariant cut payload is in
    let leaves = c.next-slice.ensures.front digested.left digested.is in
    c.finalize.ensures payload (digested_all payload _ _ c.walking.hasher digested
    (leaves.end (no_bytes c.next-slice.result.now (sym c.is_empty.ensures ∙ c.if-is_empty.true))))
