use Rattle.std.proofs.Common.{drop, sym, ap, subst, ◌∙◌, nat_lt, length}
use Rattle.std.specs.Char.{is_ascii_digit}
use Rattle.std.specs.List.{list_all}
use Rattle.std.proofs.lemmas.Bool.{and_parts}
use Rattle.std.specs.Str.Parse.{digits_value}
use Rattle.message_body.specs.steps.Numerals.{IsNumeral}
use Rattle.message_body.proofs.NumberLaws.{AreDigits, stripped}
use Rattle.message_body.proofs.number.Number.read.Goals as goal

pub invariant_of-result : goal.invariant_of-result
invariant_of-result c =
    let digits : AreDigits c.args.text.now =
    (and_parts (nat_lt 0 (length c.args.text.now)) (list_all is_ascii_digit c.args.text.now) (sym c.is_digits.ensures ∙ c.if-not-is_digits.false)).1 in
    subst IsNumeral (sym (c.split_at.ensures.back ∙ ap (λ n. drop n c.args.text.now) c.leading_zeros.ensures.value))
    (stripped c.args.text.now digits).numeral

pub returns-clause-value : goal.returns-clause-value
returns-clause-value c =
    let digits : AreDigits c.args.text.now =
    (and_parts (nat_lt 0 (length c.args.text.now)) (list_all is_ascii_digit c.args.text.now) (sym c.is_digits.ensures ∙ c.if-not-is_digits.false)).1 in
    ap (digits_value 10) (c.split_at.ensures.back ∙ ap (λ n. drop n c.args.text.now) c.leading_zeros.ensures.value)
    ∙ (stripped c.args.text.now digits).value
