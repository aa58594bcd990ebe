use Rattle.std.proofs.Common.{◌∙◌, length, sym}
use Rattle.cdxj_line.proofs.Strings.{escape_injective}
use Rattle.cdxj_line.proofs.ToldBytes.{all_told, behind_shorter, no_escaped_text, none_if, some_if, text_found, told_more, told_text}
use Rattle.cdxj_line.proofs.unescaping.unescaped.Goals as goal

pub returns-in_default-clause-found : goal.returns-in_default-clause-found
returns-in_default-clause-found c = λ text ascii is.
    absurd (no_escaped_text c.args.raw.now c.loop-rest.text.items text c.loop-rest.rest.now c.byte_told-byte.result c.loop-rest.invariant is
    (some_if (length c.loop-rest.rest.now) c.is_empty.result c.is_empty.ensures c.loop-rest-test.true) c.byte_told-byte.ensures
    (λ behind e. c.in_default.ensures.found behind e))

pub loop-rest-smaller : goal.loop-rest-smaller
loop-rest-smaller c = behind_shorter c.byte_told-byte.result c.loop-rest.rest.now c.in-Some.behind.now c.in-Some.ensures.some

pub loop-rest-preserved : goal.loop-rest-preserved
loop-rest-preserved c =
    told_more c.args.raw.now c.loop-rest.text.items _ c.loop-rest.rest.now c.in-Some.behind.now c.byte_told-byte.result c.loop-rest.invariant c.in-Some.ensures.some c.in_ok-push.ensures.items

pub returns-clause-some : goal.returns-clause-some
returns-clause-some c =
    let whole = all_told c.args.raw.now c.loop-rest.text.items c.loop-rest.rest.now c.loop-rest.invariant (none_if (length c.loop-rest.rest.now) c.is_empty.result c.is_empty.ensures c.loop-rest-test.false) in
    told_text c.of.result c.args.raw.now c.loop-rest.text.items whole c.of.ensures.value

pub returns-clause-found : goal.returns-clause-found
returns-clause-found c = λ text ascii is.
    let whole = all_told c.args.raw.now c.loop-rest.text.items c.loop-rest.rest.now c.loop-rest.invariant (none_if (length c.loop-rest.rest.now) c.is_empty.result c.is_empty.ensures c.loop-rest-test.false) in
    text_found c.of.result c.loop-rest.text.items text c.of.ensures.ascii c.of.ensures.value (escape_injective c.loop-rest.text.items text (sym whole ∙ is)) ascii
