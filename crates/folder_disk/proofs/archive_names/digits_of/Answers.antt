-- A name's digits.
use Rattle.std.proofs.Common.{◌≡◌, sym, ap, ◌∙◌, subst, Some, arith}
use Rattle.std.specs.Str.{IsUtf8}
use Rattle.std.proofs.lemmas.Str.{IsUtf8-from_ascii}
use Rattle.folder_disk.specs.NameTexts.{six_digits}
use Rattle.folder_disk.specs.steps.NameLaws.{name_made, digits_between, six_digits_ascii, parsed_ok, parsed_err}
use Rattle.folder_disk.proofs.archive_names.digits_of.Goals as goal

pub returns-in_err-digits : goal.returns-in_err-digits
returns-in_err-digits c = λ number small same. absurd (c.in_err-digits.ensures (six_digits number) (same ∙ name_made c.args.kind number))

pub returns-in_default : goal.returns-in_default
returns-in_default c = λ number small same.
    let its : c.in_ok-digits.digits.now ≡ six_digits number = digits_between c.args.kind number c.in_ok-digits.digits.now (sym c.in_ok-digits.ensures ∙ same) in
    absurd (c.in_default.ensures.cases.0 (subst IsUtf8 (sym its) (IsUtf8-from_ascii (six_digits number) (six_digits_ascii number (omega (arith, small))))))

pub returns-in-Ok-parse : goal.returns-in-Ok-parse
returns-in-Ok-parse c = λ number small same.
    let its : c.in_ok-digits.digits.now ≡ six_digits number = digits_between c.args.kind number c.in_ok-digits.digits.now (sym c.in_ok-digits.ensures ∙ same) in
    ap Some (parsed_ok number c.in-Ok-parse.number c.in-Ok.text.now small (c.in-Ok.ensures.cases.0 ∙ its) c.in-Ok-parse.ensures.value.0.1)

pub returns-in-Err : goal.returns-in-Err
returns-in-Err c = λ number small same.
    let its : c.in_ok-digits.digits.now ≡ six_digits number = digits_between c.args.kind number c.in_ok-digits.digits.now (sym c.in_ok-digits.ensures ∙ same) in
    absurd (parsed_err number c.in-Err.field-0 c.in-Ok.text.now small (c.in-Ok.ensures.cases.0 ∙ its) c.in-Err.ensures.value.0)
