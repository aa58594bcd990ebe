-- A number's decimal is read as it, and is of ASCII.
use Rattle.std.proofs.Common.{◌≡◌, ◌∙◌, ◌^◌, ◌<◌, decimal, sym, ap, subst, arith}
use Rattle.std.proofs.lemmas.Bool.{false≢true}
use Rattle.std.proofs.lemmas.Fmt.{parse-decimal, IsAscii-decimal}
use Rattle.std.proofs.lemmas.Str.{IsUtf8-from_ascii}
use Rattle.std.specs.Str.{IsAscii}
use Rattle.replay_url.proofs.AsciiLemmas.{equal_texts}
use Rattle.replay_url.proofs.number.read_number.Goals as goal

pub returns-in_default : goal.returns-in_default
returns-in_default c = λ number is.
    let fits : number < 2 ^ 64 = omega (arith, is.fits) in
    c.in_default.ensures.cases.0 (IsUtf8-from_ascii c.args.text.now (subst IsAscii (sym is.digits) (IsAscii-decimal number fits)))

pub returns-in_default-parse : goal.returns-in_default-parse
returns-in_default-parse c = λ number is.
    let fits : number < 2 ^ 64 = omega (arith, is.fits) in
    c.in_default-parse.not-Ok number (parse-decimal 32 number c.in-Ok.text.now c.parse.result is.fits fits (c.in-Ok.ensures.cases.0 ∙ is.digits) c.parse.ensures.value.0)

pub returns-else-eq : goal.returns-else-eq
returns-else-eq c = λ number is.
    let fits : number < 2 ^ 64 = omega (arith, is.fits) in
    let found = parse-decimal 32 number c.in-Ok.text.now c.parse.result is.fits fits (c.in-Ok.ensures.cases.0 ∙ is.digits) c.parse.ensures.value.0 in
    let same : c.in-Ok-parse.number ≡ number = cc (found, c.in-Ok-parse.is) in
    let texts : c.format.result.now ≡ c.in-Ok.text.now = c.format.ensures.text ∙ ap decimal same ∙ sym (c.in-Ok.ensures.cases.0 ∙ is.digits) in
    false≢true (c.if-eq.ensures ∙ equal_texts c.format.result.now c.in-Ok.text.now texts)
