-- The three texts are those around the path, and the front of the page's own.
use Rattle.std.proofs.Common.{◌≡◌, ◌+◌, List, ℕ, ◌++◌, take, drop, ap, ◌∙◌, subst}
use Rattle.std.specs.Result.{IfOk}
use Rattle.std.proofs.lemmas.List.{drop-drop}
use Rattle.url.specs.declared.slicing.Position.TheVariants.{BeforePath}
use Rattle.url.specs.Parts.{offset, serialize}
use Rattle.html_rewrite.specs.steps.Paths.{front_with, put_back}
use Rattle.html_rewrite.proofs.Fronts.{take_front}
use Rattle.html_rewrite.proofs.outline.put_back.Goals as goal

pub returns : goal.returns
returns c =
    let url = c.args.url.now in
    let path = c.args.path.now in
    let kept = c.args.kept in
    let text : c.as_bytes.result.now ≡ serialize url = c.as_bytes.ensures.value ∙ c.as_str.ensures.value in
    let head : c.split_at.result.0.now ≡ take (offset url BeforePath) (serialize url) = c.split_at.ensures.front ∙ (λ i. take (c.index.ensures i) (text i)) in
    let rest : c.split_at.result.1.now ≡ drop (offset url BeforePath) (serialize url) = c.split_at.ensures.back ∙ (λ i. drop (c.index.ensures i) (text i)) in
    let tail : c.split_at-2.result.1.now ≡ drop (offset url BeforePath + kept) (serialize url) = c.split_at-2.ensures.back ∙ ap (drop kept) rest ∙ drop-drop kept (offset url BeforePath) (serialize url) in
    let front : c.split_at-3.result.0.now ≡ front_with kept path = c.split_at-3.ensures.front ∙ ap (λ n. take n path) c.front_len.ensures.front ∙ take_front kept path in
    let same : c.split_at.result.0.now ++ c.split_at-3.result.0.now ++ c.split_at-2.result.1.now ≡ put_back path url kept = λ i. head i ++ front i ++ tail i in
    subst (λ (t : List ℕ). IfOk c.join.result (λ address. address ≡ t)) same c.join.ensures
