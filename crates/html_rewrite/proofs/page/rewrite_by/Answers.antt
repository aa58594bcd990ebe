-- The page is read on, part by part, until it is done.
use Rattle.std.proofs.Common.{◌≡◌, ◌<◌, Bool, List, ℕ, Option, length, sym, subst}
use Rattle.std.proofs.lemmas.Result.{IfOk-weaker}
use Rattle.std.specs.Bool.{MatchBool}
use Rattle.html_rewrite.specs.steps.Reading.{IsDone, ahead, done, link_by}
use Rattle.html_rewrite.specs.Rewritten.{IsRewritten}
use Rattle.html_rewrite.proofs.Whole.{reads_all, reads_more}
use Rattle.html_rewrite.proofs.page.rewrite_by.Goals as goal

pub reading-preserved : goal.reading-preserved
reading-preserved c = reads_more c.args.links.now.limit (link_by c.args.links.now) c.args.page.now c.reading.rewriter c.parts.new.self c.reading.invariant c.in_ok-parts.ensures

pub returns : goal.returns
returns c =
    let limit = c.args.links.now.limit in
    let link = link_by c.args.links.now in
    let page = c.args.page.now in
    let rewriter = c.reading.rewriter in
    let is = subst (λ (x : Bool). MatchBool x (IsDone rewriter) (0 < length (ahead rewriter))) c.reading-test.false c.is_done.ensures in
    let whole = reads_all limit link page rewriter c.reading.invariant is in
    IfOk-weaker c.finish.result (λ (x : Option (List ℕ)). x ≡ done limit rewriter) (IsRewritten limit link page) (λ x e. subst (IsRewritten limit link page) (sym e) whole) c.finish.ensures
