-- The reference is a text, or none.
use Rattle.std.proofs.Common.{◌≡◌, Option, refl, sym, ap, ◌∙◌, subst}
use Rattle.std.specs.Prelude.{option_map}
use Rattle.std.specs.Result.{IfOk}
use Rattle.url.specs.Parts.{Parts, serialize}
use Rattle.html_rewrite.specs.Links.{target_read, text_target}
use Rattle.html_rewrite.proofs.LinkLemmas.{text_target-no_text, text_target-text}
use Rattle.html_rewrite.proofs.link.Links.read_target.Goals as goal

pub returns-in-Ok : goal.returns-in-Ok
returns-in-Ok c =
    let base = c.args.self.now.base in
    let reference = c.args.reference.now in
    let somewhere : text_target base reference ≡ target_read base reference = rw (sym c.begins_as_none.ensures ∙ c.if-begins_as_none.false) refl in
    let same = text_target-text base reference c.in-Ok.text.now c.in-Ok.ensures.cases.1 c.in-Ok.ensures.cases.0 ∙ somewhere in
    subst (λ (x : Option Parts). IfOk c.address_from.result (λ address. address ≡ option_map serialize x)) same c.address_from.ensures

pub returns-in-Err : goal.returns-in-Err
returns-in-Err c =
    let base = c.args.self.now.base in
    let reference = c.args.reference.now in
    let somewhere : text_target base reference ≡ target_read base reference = rw (sym c.begins_as_none.ensures ∙ c.if-begins_as_none.false) refl in
    ap (option_map serialize) (text_target-no_text base reference c.in-Err.ensures.cases.0 ∙ somewhere)
