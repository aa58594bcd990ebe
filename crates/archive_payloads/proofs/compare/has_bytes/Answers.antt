use Rattle.std.proofs.Common.{false, sym, ◌∙◌}
use Rattle.std.proofs.lemmas.Bool.{false≢true}
use Rattle.archive_payloads.proofs.ChooseLaws.{no_bytes}
use Rattle.archive_payloads.proofs.SliceLaws.{at_end, at_other, stripped, unlike, walked_none, walked_on}
use Rattle.archive_payloads.proofs.compare.has_bytes.Goals as goal

pub walking-init : goal.walking-init
walking-init c payload is = walked_none payload c.args.bytes.now _ _ (c.of-slices.ensures false payload is)

pub walking-preserved : goal.walking-preserved
walking-preserved c payload is =
    let walked = c.walking.invariant payload is in
    let slice = c.next-slice.result.now in
    walked_on payload c.args.bytes.now slice c.walking.rest.now c.in-Some.behind.now _ _ _ _ walked (c.next-slice.ensures.front walked.left walked.is)
    (stripped slice c.walking.rest.now c.in-Some.behind.now c.in-Some.ensures.cases.0 c.in-Some.ensures.cases.1)

pub returns-then-is_empty : goal.returns-then-is_empty
returns-then-is_empty c payload is =
    let walked = c.walking.invariant payload is in
    let leaves = c.next-slice.ensures.front walked.left walked.is in
    at_end payload c.args.bytes.now _ _ c.walking.rest.now walked (leaves.end (no_bytes c.next-slice.result.now (sym c.is_empty.ensures ∙ c.if-is_empty.true)))
    c.is_empty-then-is_empty.result c.is_empty-then-is_empty.ensures

pub returns-in-None : goal.returns-in-None
returns-in-None c payload is =
    let walked = c.walking.invariant payload is in
    let leaves = c.next-slice.ensures.front walked.left walked.is in
    let slice = c.next-slice.result.now in (
      λ e. absurd (false≢true e),
      λ same. absurd (at_other payload c.args.bytes.now slice c.walking.rest.now _ _ _ _ walked leaves (unlike slice c.walking.rest.now c.in-None.ensures.cases) same),
    )
