-- The reference is a text, or none.
use Rattle.std.proofs.Common.{◌≡◌, Option, subst}
use Rattle.std.specs.Option.{option_copied}
use Rattle.std.specs.Result.{IfOk}
use Rattle.url.specs.Parts.{Parts}
use Rattle.html_rewrite.proofs.LinkLemmas.{text_target-no_text, text_target-text}
use Rattle.html_rewrite.proofs.link.text_target.Goals as goal

pub returns-in-Ok : goal.returns-in-Ok
returns-in-Ok c =
    let same = text_target-text (option_copied c.args.base) c.args.reference.now c.in-Ok.text.now c.in-Ok.ensures.cases.1 c.in-Ok.ensures.cases.0 in
    subst (λ (x : Option Parts). IfOk c.target_from.result (λ target. target ≡ x)) same c.target_from.ensures

pub returns-in-Err : goal.returns-in-Err
returns-in-Err c = text_target-no_text (option_copied c.args.base) c.args.reference.now c.in-Err.ensures.cases.0
