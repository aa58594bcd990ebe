-- Each part of the end tag is there.
use Rattle.std.proofs.Common.{◌≡◌, ◌∙◌, true, length, take, drop, codes, ap, sym}
use Rattle.std.specs.Str.{str_eq_ignore_ascii_case}
use Rattle.html_rewrite.specs.Bytes.{begins_with}
use Rattle.html_rewrite.proofs.Places.{ends_raw_is}
use Rattle.html_rewrite.proofs.raw_text.is_end_tag.Goals as goal

pub returns-then-is_same_name : goal.returns-then-is_same_name
returns-then-is_same_name c =
    let element = c.args.element.now in
    let opens : begins_with (codes "</") c.args.text.now ≡ true = sym c.starts_with.ensures.value ∙ c.if-not-starts_with.false in
    let front : c.split_at-2.result.0.now ≡ take (length element) (drop 2 c.args.text.now) = c.split_at-2.ensures.front ∙ ap (take (length element)) c.split_at.ensures.back in
    let named : str_eq_ignore_ascii_case (take (length element) (drop 2 c.args.text.now)) element ≡ true = ap (λ x. str_eq_ignore_ascii_case x element) (sym front) ∙ sym c.is_same_name.ensures ∙ c.if-is_same_name.true in
    ends_raw_is element c.args.text.now c.split_at-2.result.1.now c.ends_name.result opens named (c.split_at-2.ensures.back ∙ ap (drop (length element)) c.split_at.ensures.back) c.ends_name.ensures
