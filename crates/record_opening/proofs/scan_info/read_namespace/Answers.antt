use Rattle.std.proofs.Common.{ap, Err, ◌∙◌}
use Rattle.record_opening.specs.steps.InfoFronts.{NoNamespaceStands}
use Rattle.record_opening.proofs.Exits.{at_exit}
use Rattle.record_opening.proofs.InfoStops.{no_middle, no_namespace, no_text}
use Rattle.record_opening.proofs.scan_info.read_namespace.Goals as goal

pub returns-in_err-named-clause-err : goal.returns-in_err-named-clause-err
returns-in_err-named-clause-err c =
    let front = c.args.front.now in
    at_exit (λ s. NoNamespaceStands c.args.volume front.born s c.args.bytes.now) _ c.from_residual.result c.from_residual.ensures.1
    (no_middle c.args.volume c.args.bytes.now front.id front.born front.rest.now c.requires.id c.requires.front _ c.in_err-named.ensures.err)

pub returns-in-Err-clause-err : goal.returns-in-Err-clause-err
returns-in-Err-clause-err c =
    let front = c.args.front.now in
    no_namespace c.args.volume c.args.bytes.now front.id front.born front.rest.now c.requires.id c.requires.front c.in-Err.stop c.in_ok-named.named.now
    c.in_ok-named.ensures.ok (λ open_. c.in-Err.ensures.ends (ap Err open_)) c.in-Err.ensures.err

pub returns-in_err-strip-clause-err : goal.returns-in_err-strip-clause-err
returns-in_err-strip-clause-err c =
    let front = c.args.front.now in
    at_exit (λ s. NoNamespaceStands c.args.volume front.born s c.args.bytes.now) _ c.from_residual-in_err-strip.result c.from_residual-in_err-strip.ensures.1
    (no_text c.args.volume c.args.bytes.now front.id front.born front.rest.now c.requires.id c.requires.front
    c.in-Ok.read.0 c.in_ok-named.named.now c.in-Ok.read.1.now c.in-Ok.ensures.ok.0 c.in_ok-named.ensures.ok c.in-Ok.ensures.ok.1 _ c.as_slice.result.now
    (c.as_slice.ensures ∙ c.in_ok-text.ensures) c.in_err-strip.ensures.err)
