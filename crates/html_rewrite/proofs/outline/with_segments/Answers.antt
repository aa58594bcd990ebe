-- The path is as many segments as the page's own has slashes.
use Rattle.std.proofs.Common.{◌≡◌, ap, ◌∙◌}
use Rattle.std.specs.List.{repeat}
use Rattle.url.specs.Setters.{set_path}
use Rattle.html_rewrite.specs.steps.Paths.{slashes}
use Rattle.html_rewrite.proofs.Segments.{set_is, set_segments}
use Rattle.html_rewrite.proofs.outline.with_segments.Goals as goal

pub returns-in-Ok : goal.returns-in-Ok
returns-in-Ok c =
    let base = c.args.base.now in
    let segment = c.args.segment.now in
    let same : c.in_ok-url.url ≡ base = c.in_ok-url.ensures.cases in
    let path : c.as_str.result.now ≡ repeat (slashes base.path) segment =
    c.as_str.ensures.value ∙ c.in_ok-path.ensures.bytes ∙ ap (λ n. repeat n segment) (c.slash_count.ensures ∙ ap slashes (c.as_bytes.ensures.value ∙ c.path.ensures.value)) in
    set_is c.set_path.new.self (set_path c.in_ok-url.url c.as_str.result.now) c.in-Ok.ensures.0 ∙ (λ i. set_path (same i) (path i)) ∙ set_segments base segment c.requires.rooted c.requires.segment
