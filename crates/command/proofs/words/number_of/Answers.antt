-- A number's decimal is read as it, and no other text is one.
use Rattle.std.proofs.Common.{◌≡◌, ◌∙◌, ◌^◌, ◌<◌, ◌≤◌, decimal, sym, ap, arith}
use Rattle.std.proofs.lemmas.Bool.{false≢true}
use Rattle.std.proofs.lemmas.Fmt.{parse-decimal}
use Rattle.std.proofs.lemmas.Slice.Eq.{bytes_eq-Decides}
use Rattle.command.proofs.WordsLemmas.{number_of-none, number_of-some}
use Rattle.command.proofs.words.number_of.Goals as goal

pub returns-then-number-most-clause-value : goal.returns-then-number-most-clause-value
returns-then-number-most-clause-value c = sym (number_of-none c.args.most c.args.text.now (λ n le is.
    let fits : n < 2 ^ 64 = omega (arith, le, c.ranges.most.fits) in
    let found = parse-decimal 64 n c.args.text.now c.parse.result fits fits is c.parse.ensures.value.0 in
    let same : c.in-Ok.number ≡ n = cc (found, c.in-Ok.is) in
    omega (arith, le, same, c.if-number-most.true)))

pub returns-then-eq-clause-value : goal.returns-then-eq-clause-value
returns-then-eq-clause-value c =
    let within : c.in-Ok.number ≤ c.args.most = omega (arith, c.if-number-most.false) in
    let fits : c.in-Ok.number < 2 ^ 64 = omega (arith, within, c.ranges.most.fits) in
    let same : c.format.result.now ≡ c.args.text.now = (bytes_eq-Decides c.format.result.now c.args.text.now).0 (sym c.if-eq.ensures) in
    sym (number_of-some c.args.most c.in-Ok.number c.args.text.now fits within (sym c.format.ensures.text ∙ same))

pub returns-else-eq-clause-value : goal.returns-else-eq-clause-value
returns-else-eq-clause-value c = sym (number_of-none c.args.most c.args.text.now (λ n le is.
    let fits : n < 2 ^ 64 = omega (arith, le, c.ranges.most.fits) in
    let found = parse-decimal 64 n c.args.text.now c.parse.result fits fits is c.parse.ensures.value.0 in
    let same : c.in-Ok.number ≡ n = cc (found, c.in-Ok.is) in
    let texts : c.format.result.now ≡ c.args.text.now = c.format.ensures.text ∙ ap decimal same ∙ sym is in
    false≢true (c.if-eq.ensures ∙ (bytes_eq-Decides c.format.result.now c.args.text.now).1 texts)))

pub returns-in-Err-clause-value : goal.returns-in-Err-clause-value
returns-in-Err-clause-value c = sym (number_of-none c.args.most c.args.text.now (λ n le is.
    let fits : n < 2 ^ 64 = omega (arith, le, c.ranges.most.fits) in
    let found = parse-decimal 64 n c.args.text.now c.parse.result fits fits is c.parse.ensures.value.0 in
    let fails : ⊥ = cc (found, c.in-Err.is) in
    fails))
