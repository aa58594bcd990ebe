-- What is done to references to labels is done to the labels.
use Rattle.std.proofs.Common.{◌≡◌, ◌==◌, ap, sym, ◌∙◌, reverse}
use Rattle.std.specs.List.{slice_split}
use Rattle.url.specs.Ascii.{dot}
use Rattle.surt_key.specs.Labels.{begins_with_www, without_www}
use Rattle.surt_key.proofs.LabelLemmas.{texts, texts-reverse, without_www-removed, without_www-kept}
use Rattle.surt_key.proofs.host_labels.reversed_labels.Goals as goal
use Rattle.surt_key.proofs.host_labels.reversed_labels.Goals.{then-begins_with_www, else-begins_with_www}

tested : (c : goal.After-reverse) → begins_with_www (texts c.in_ok-labels.labels.items) ≡ c.begins_with_www.result
tested c = ap (λ t. begins_with_www (texts t)) (sym c.as_slice.ensures.value) ∙ sym c.begins_with_www.ensures

kept : (c : goal.After-reverse) → texts c.if-begins_with_www.labels.items ≡ without_www (texts c.in_ok-labels.labels.items)
kept c =
    elim c.if-begins_with_www.branch [
      | then-begins_with_www w ↦ ap (λ v. texts v.items) w.labels-is ∙ ap texts w.remove.ensures.items ∙ without_www-removed c.in_ok-labels.labels.items (tested c ∙ w.if-begins_with_www.true)
      | else-begins_with_www w ↦ ap (λ v. texts v.items) w.labels-is ∙ without_www-kept c.in_ok-labels.labels.items (tested c ∙ w.if-begins_with_www.false)
    ]

pub returns : goal.returns
returns c =
    let split = c.in_ok-labels.ensures ∙ ap (slice_split (λ b. b == dot)) c.without_final_dot.ensures in
    ap texts c.reverse.ensures.items ∙ texts-reverse c.if-begins_with_www.labels.items ∙ ap reverse (kept c) ∙ ap (λ t. reverse (without_www t)) split
