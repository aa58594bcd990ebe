-- `>` stands behind the gap.
use Rattle.std.proofs.Common.{◌≡◌, ◌∙◌, ℕ, ◌+◌, Some, ap, sym, subst, drop}
use Rattle.std.specs.List.{prefix_len, slice_get}
use Rattle.std.specs.Option.{option_copied}
use Rattle.std.proofs.lemmas.List.Folds.{length-prefix_len}
use Rattle.html_rewrite.specs.Bytes.{is_gap, greater}
use Rattle.html_rewrite.specs.steps.Reading.{Closes}
use Rattle.html_rewrite.proofs.Places.{closes_at}
use Rattle.html_rewrite.proofs.attribute.next_at.Goals as goal

pub returns-in-Some-eq62 : goal.returns-in-Some-eq62
returns-in-Some-eq62 c =
    let t = c.args.text.now in
    let rest : c.split_at.result.1.now ≡ drop (prefix_len is_gap t) t = c.split_at.ensures.back ∙ ap (λ n. drop n t) c.gap_len-gap.ensures.value in
    let first : slice_get (drop (prefix_len is_gap t) t) 0 ≡ Some greater = ap (λ x. slice_get x 0) (sym rest) ∙ sym c.first.ensures.value ∙ ap option_copied c.in-Some-eq62.is ∙ ap Some c.in-Some-eq62.field-0-test in
    subst (λ (n : ℕ). Closes t (n + 1)) (sym c.gap_len-gap.ensures.value) (closes_at t first (length-prefix_len is_gap t))
