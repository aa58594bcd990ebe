use Rattle.std.proofs.Common.{length, refl, arith}
use Rattle.std.proofs.lemmas.Bool.{false≢true, le-leb, leb-true}
use Rattle.message_body.proofs.CutLimits.{goes_behind, judged_last_line, judged_line_end, judged_long_line, judged_open, judged_size, line_at, split_is}
use Rattle.message_body.proofs.SplitSteps.{never_is_none}
use Rattle.message_body.proofs.limits.is_within_limits.Goals as goal

pub returns-in-Ok-Partial : goal.returns-in-Ok-Partial
returns-in-Ok-Partial c =
    let none = rw c.in-Ok-Partial.field-0-is at c.in-Ok-Partial.ensures.partial in
    judged_open c.args.wire.now c.chunks.rest.now _ c.chunks.invariant none
    (λ t. leb-true (length c.chunks.rest.now) 1024 t, λ h. le-leb (length c.chunks.rest.now) 1024 h)

pub returns-in-Err : goal.returns-in-Err
returns-in-Err c =
    judged_open c.args.wire.now c.chunks.rest.now _ c.chunks.invariant (never_is_none c.chunks.rest.now c.in-Err.ensures.invalid)
    (λ t. leb-true (length c.chunks.rest.now) 1024 t, λ h. le-leb (length c.chunks.rest.now) 1024 h)

pub returns-then-start-gt-SIZE_LINE_LIMIT : goal.returns-then-start-gt-SIZE_LINE_LIMIT
returns-then-start-gt-SIZE_LINE_LIMIT c =
    let line = rw c.in-Ok-Complete.field-0-is at c.in-Ok-Complete.ensures.complete in
    let first = line_at c.chunks.rest.now c.in-Ok-Complete.line.0 c.in-Ok-Complete.line.1 line.0 _ line.1 refl in
    judged_long_line c.args.wire.now c.chunks.rest.now line.0 _ c.chunks.invariant first _ (λ t. false≢true t)
    (omega (arith, line.1.len_is, c.if-start-gt-SIZE_LINE_LIMIT.true))

pub returns-then-size-eq0 : goal.returns-then-size-eq0
returns-then-size-eq0 c =
    let line = rw c.in-Ok-Complete.field-0-is at c.in-Ok-Complete.ensures.complete in
    let behind = c.split_at.result.1.now in
    let first = line_at c.chunks.rest.now c.in-Ok-Complete.line.0 c.in-Ok-Complete.line.1 line.0 behind line.1 c.split_at.ensures.back in
    judged_last_line c.args.wire.now c.chunks.rest.now line.0 behind c.chunks.invariant first _
    (omega (arith, line.1.len_is, c.if-start-gt-SIZE_LINE_LIMIT.false)) (omega (arith, line.1.size_is, c.if-size-eq0.true))
    (λ t. leb-true (length behind) 65536 t, λ h. le-leb (length behind) 65536 h)

pub returns-then-behind-size : goal.returns-then-behind-size
returns-then-behind-size c =
    let line = rw c.in-Ok-Complete.field-0-is at c.in-Ok-Complete.ensures.complete in
    let behind = c.split_at.result.1.now in
    let first = line_at c.chunks.rest.now c.in-Ok-Complete.line.0 c.in-Ok-Complete.line.1 line.0 behind line.1 c.split_at.ensures.back in
    judged_size c.args.wire.now c.chunks.rest.now line.0 behind c.chunks.invariant first c.in-Ok-Complete.line.1 line.1.size_is
    (omega (arith, line.1.len_is, c.if-start-gt-SIZE_LINE_LIMIT.false)) c.if-behind-size.true

pub returns-in_default : goal.returns-in_default
returns-in_default c =
    let line = rw c.in-Ok-Complete.field-0-is at c.in-Ok-Complete.ensures.complete in
    let behind = c.split_at.result.1.now in
    let first = line_at c.chunks.rest.now c.in-Ok-Complete.line.0 c.in-Ok-Complete.line.1 line.0 behind line.1 c.split_at.ensures.back in
    judged_line_end c.args.wire.now c.chunks.rest.now line.0 behind c.chunks.invariant first _ c.split_at-in-chunks.result.0.now c.split_at-in-chunks.result.1.now
    refl (omega (arith, line.1.len_is, c.if-start-gt-SIZE_LINE_LIMIT.false))
    (split_is behind c.split_at-in-chunks.result.0.now c.split_at-in-chunks.result.1.now c.in-Ok-Complete.line.1 c.split_at-in-chunks.ensures.front c.split_at-in-chunks.ensures.back)
    (omega (arith, line.1.size_is, c.split_at-in-chunks.ensures.front_len)) (omega (arith, line.1.size_is, c.if-size-eq0.false)) (omega (arith, c.in_default.len_below))

pub chunks-preserved : goal.chunks-preserved
chunks-preserved c =
    let line = rw c.in-Ok-Complete.field-0-is at c.in-Ok-Complete.ensures.complete in
    let behind = c.split_at.result.1.now in
    let first = line_at c.chunks.rest.now c.in-Ok-Complete.line.0 c.in-Ok-Complete.line.1 line.0 behind line.1 c.split_at.ensures.back in
    goes_behind c.args.wire.now c.chunks.rest.now line.0 behind c.chunks.invariant first c.split_at-in-chunks.result.0.now c.split_at-in-chunks.result.1.now
    (omega (arith, c.in-len2-up.len_at_least)) (omega (arith, line.1.len_is, c.if-start-gt-SIZE_LINE_LIMIT.false))
    (split_is behind c.split_at-in-chunks.result.0.now c.split_at-in-chunks.result.1.now c.in-Ok-Complete.line.1 c.split_at-in-chunks.ensures.front c.split_at-in-chunks.ensures.back)
    (omega (arith, line.1.size_is, c.split_at-in-chunks.ensures.front_len)) (omega (arith, line.1.size_is, c.if-size-eq0.false))
