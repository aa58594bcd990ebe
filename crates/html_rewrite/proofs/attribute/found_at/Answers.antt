-- What stands behind the name is a value, one without its end, or none.
use Rattle.std.proofs.Common.{◌≡◌, ◌∙◌, length, drop, ap, arith}
use Rattle.std.specs.List.{prefix_len}
use Rattle.html_rewrite.specs.Tags.{quote_at, is_value_byte}
use Rattle.html_rewrite.proofs.Values.{sign_missing, value_found, value_unclosed}
use Rattle.html_rewrite.proofs.attribute.found_at.Goals as goal

pub returns-then-sign-eq0 : goal.returns-then-sign-eq0
returns-then-sign-eq0 c = sign_missing c.args.text.now (omega arith)

pub returns-then-len-closing : goal.returns-then-len-closing
returns-then-len-closing c =
    let inner : c.split_at-2.result.1.now ≡ drop c.quote_len-closing.result (drop c.sign_len-sign.result c.args.text.now) = c.split_at-2.ensures.back ∙ ap (drop c.quote_len-closing.result) c.split_at.ensures.back in
    let sizes : length c.split_at-2.result.1.now ≡ length (drop c.quote_len-closing.result (drop c.sign_len-sign.result c.args.text.now)) = ap length inner in
    value_unclosed c.args.text.now c.sign_len-sign.result c.quote_len-closing.result c.value_len-len.result c.quote_at-quote.result c.sign_len-sign.ensures.value (omega arith) (c.quote_at-quote.ensures ∙ ap quote_at c.split_at.ensures.back) c.quote_len-closing.ensures (c.value_len-len.ensures.value ∙ ap (prefix_len (is_value_byte c.quote_at-quote.result)) inner) (omega (arith, sizes))

pub returns : goal.returns
returns c =
    let inner : c.split_at-2.result.1.now ≡ drop c.quote_len-closing.result (drop c.sign_len-sign.result c.args.text.now) = c.split_at-2.ensures.back ∙ ap (drop c.quote_len-closing.result) c.split_at.ensures.back in
    let sizes : length c.split_at-2.result.1.now ≡ length (drop c.quote_len-closing.result (drop c.sign_len-sign.result c.args.text.now)) = ap length inner in
    value_found c.args.text.now c.sign_len-sign.result c.quote_len-closing.result c.value_len-len.result c.quote_at-quote.result c.sign_len-sign.ensures.value (omega arith) (c.quote_at-quote.ensures ∙ ap quote_at c.split_at.ensures.back) c.quote_len-closing.ensures (c.value_len-len.ensures.value ∙ ap (prefix_len (is_value_byte c.quote_at-quote.result)) inner) (omega (arith, sizes))
