-- Six digits or more are of ASCII, and are read as the number that they tell.
use Rattle.std.proofs.Common.{◌≡◌, sym, subst, ◌∙◌, arith}
use Rattle.std.specs.Str.{IsUtf8}
use Rattle.std.proofs.lemmas.Bool.{false≢true}
use Rattle.std.proofs.lemmas.Slice.Eq.{bytes_eq-Decides}
use Rattle.cdxj_line.proofs.FileNames.{six_digits_front, six_digits_parsed, six_digits_text}
use Rattle.cdxj_line.proofs.file_name.six_digits_of.Goals as goal

pub returns-in_default-clause-found : goal.returns-in_default-clause-found
returns-in_default-clause-found c = λ number fits e.
    absurd (c.in_default.ensures.cases.0 (subst IsUtf8 (sym e) (six_digits_text number fits)))

pub returns-in_default-parse-clause-found : goal.returns-in_default-parse-clause-found
returns-in_default-parse-clause-found c = λ number fits e.
    absurd (c.in_default-parse.not-Ok number (six_digits_parsed number c.in-Ok.text.now c.parse.result fits (c.in-Ok.ensures.cases.0 ∙ e) c.parse.ensures.value.0))

pub returns-in_err-rest-clause-found : goal.returns-in_err-rest-clause-found
returns-in_err-rest-clause-found c = λ number fits e.
    let found = six_digits_parsed number c.in-Ok.text.now c.parse.result fits (c.in-Ok.ensures.cases.0 ∙ e) c.parse.ensures.value.0 in
    let same : c.in-Ok-parse.number ≡ number = cc (found, c.in-Ok-parse.is) in
    let parts = six_digits_front number c.in-Ok-parse.number c.args.digits.now c.as_bytes-written.result.now c.zeros_before.result.now e same (c.as_bytes-written.ensures.value ∙ c.format.ensures.text) c.zeros_before.ensures in
    absurd (c.in_err-rest.ensures.found _ parts.0)

pub returns-else-eq-clause-found : goal.returns-else-eq-clause-found
returns-else-eq-clause-found c = λ number fits e.
    let found = six_digits_parsed number c.in-Ok.text.now c.parse.result fits (c.in-Ok.ensures.cases.0 ∙ e) c.parse.ensures.value.0 in
    let same : c.in-Ok-parse.number ≡ number = cc (found, c.in-Ok-parse.is) in
    let parts = six_digits_front number c.in-Ok-parse.number c.args.digits.now c.as_bytes-written.result.now c.zeros_before.result.now e same (c.as_bytes-written.ensures.value ∙ c.format.ensures.text) c.zeros_before.ensures in
    absurd (false≢true (c.if-eq.ensures ∙ (bytes_eq-Decides c.in_ok-rest.rest.now c.as_bytes-written.result.now).1 (c.in_ok-rest.ensures.found _ parts.0 ∙ sym parts.1)))

pub returns-then-eq-clause-found : goal.returns-then-eq-clause-found
returns-then-eq-clause-found c = λ number fits e.
    let found = six_digits_parsed number c.in-Ok.text.now c.parse.result fits (c.in-Ok.ensures.cases.0 ∙ e) c.parse.ensures.value.0 in
    cc (found, c.in-Ok-parse.is)

pub returns-then-eq-clause-some : goal.returns-then-eq-clause-some
returns-then-eq-clause-some c =
    let written = c.as_bytes-written.ensures.value ∙ c.format.ensures.text in
    let rest = (bytes_eq-Decides c.in_ok-rest.rest.now c.as_bytes-written.result.now).0 (sym c.if-eq.ensures) ∙ written in
    (omega (arith, c.in-Ok-parse.ensures.value.0.0.1, c.in-Ok-parse.ensures.value.0.1), c.in_ok-rest.ensures.some ∙ cc (rest, written, c.zeros_before.ensures))
