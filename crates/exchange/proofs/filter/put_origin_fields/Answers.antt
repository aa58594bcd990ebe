-- What the names are that were collected: those that the Connection fields list.
use Rattle.std.proofs.Common.{ℕ, List, Bor, sym, ap, ◌++◌, ◌∙◌, map}
use Rattle.http_head.specs.Heads.{named_value}
use Rattle.exchange.specs.Texts.{goes_to_origin, field_lines}
use Rattle.exchange.proofs.FilterLemmas.{lines_with, lines_without, no_lines_yet, all_lines}
use Rattle.exchange.proofs.filter.put_origin_fields.Goals as goal
use Rattle.exchange.proofs.filter.put_origin_fields.Goals.{then-goes_to_origin+in_ok-put_field, else-goes_to_origin}

abbrev bytes_of : List (Bor (List ℕ)) → List (List ℕ)
bytes_of names = map (λ (n : Bor (List ℕ)). n.now) names

pub loop-field-init : goal.loop-field-init
loop-field-init c = no_lines_yet (goes_to_origin (bytes_of c.in_ok-listed.listed.items)) c.args.fields.now c.args.out.now.items

pub loop-field-preserved : goal.loop-field-preserved
loop-field-preserved c =
    let told = ap (λ (names : List (Bor (List ℕ))). goes_to_origin (bytes_of names) (named_value c.field-item.result)) (sym c.as_slice.ensures.value) ∙ sym c.goes_to_origin.ensures in
    elim c.if-goes_to_origin.branch [
      | then-goes_to_origin+in_ok-put_field w ↦ ap (λ out. out.items) w.out-is ∙ w.in_ok-put_field.ensures ∙ lines_with (goes_to_origin (bytes_of c.in_ok-listed.listed.items)) c.args.fields.now c.loop-field.field-index c.field-item.result c.args.out.now.items c.loop-field.out.items c.loop-field-test.true c.field-item.is (told ∙ w.if-goes_to_origin.true) c.loop-field.invariant
      | else-goes_to_origin w ↦ ap (λ out. out.items) w.out-is ∙ lines_without (goes_to_origin (bytes_of c.in_ok-listed.listed.items)) c.args.fields.now c.loop-field.field-index c.field-item.result c.args.out.now.items c.loop-field.out.items c.loop-field-test.true c.field-item.is (told ∙ w.if-goes_to_origin.false) c.loop-field.invariant
    ]

pub returns : goal.returns
returns c =
    c.loop-field.invariant
    ∙ ap (λ lines. c.args.out.now.items ++ lines) (all_lines (goes_to_origin (bytes_of c.in_ok-listed.listed.items)) c.args.fields.now c.loop-field.field-index c.loop-field-test.false
    ∙ ap (λ (names : List (List ℕ)). field_lines (goes_to_origin names) (map named_value c.args.fields.now)) c.in_ok-listed.ensures)
