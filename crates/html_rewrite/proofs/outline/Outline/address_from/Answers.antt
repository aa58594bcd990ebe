-- What the outline's targets say of the page's own.
use Rattle.std.proofs.Common.{◌-◌, Some, length, sym, ap, ◌∙◌, arith}
use Rattle.html_rewrite.specs.steps.Paths.{put_back}
use Rattle.html_rewrite.proofs.PutBack.{none_there, spliced}
use Rattle.html_rewrite.proofs.outline.Outline.address_from.Goals as goal

pub overflow_sub-kept : goal.overflow_sub-kept
overflow_sub-kept c =
    let made = spliced c.args.base.now c.args.self.now c.requires c.args.reference.now c.in-Some.url (sym c.in_ok-url.ensures ∙ c.in-Some.is) in
    omega (arith, made.more, ap length c.as_str.ensures.value, c.in_ok-longer.ensures)

pub put_back-requires : goal.put_back-requires
put_back-requires c =
    let made = spliced c.args.base.now c.args.self.now c.requires c.args.reference.now c.in-Some.url (sym c.in_ok-url.ensures ∙ c.in-Some.is) in
    omega (arith, made.fits, made.more, ap length c.as_str.ensures.value, c.in_ok-longer.ensures)

pub returns-in_ok-put_back-in-Some : goal.returns-in_ok-put_back-in-Some
returns-in_ok-put_back-in-Some c =
    let made = spliced c.args.base.now c.args.self.now c.requires c.args.reference.now c.in-Some.url (sym c.in_ok-url.ensures ∙ c.in-Some.is) in
    let path = c.as_bytes.ensures.value ∙ c.path.ensures.value in
    ap Some (c.in_ok-put_back-in-Some.ensures ∙ (λ i. put_back (path i) c.in-Some.url (c.in_ok-longer.ensures i - length (c.as_str.ensures.value i)))) ∙ made.is

pub returns-in-None : goal.returns-in-None
returns-in-None c = none_there c.args.base.now c.args.self.now c.requires c.args.reference.now (sym c.in_ok-url.ensures ∙ c.in-None.is)
