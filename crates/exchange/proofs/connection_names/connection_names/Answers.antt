use Rattle.std.proofs.Common.{ℕ, List, map, ◌++◌, Bor, ap, sym, ◌∙◌}
use Rattle.message_body.specs.Framings.{members}
use Rattle.exchange.proofs.MemberLemmas.{no_names_yet, names_with, names_without, all_names}
use Rattle.exchange.proofs.connection_names.connection_names.Goals as goal
use Rattle.exchange.proofs.connection_names.connection_names.Goals.{then-has_name+in_ok-put_members, else-has_name}

pub loop-field-init : goal.loop-field-init
loop-field-init c = ap (map (λ (m : Bor (List ℕ)). m.now)) c.in_ok-names.ensures.items ∙ no_names_yet c.args.fields.now

pub loop-field-preserved : goal.loop-field-preserved
loop-field-preserved c =
    elim c.if-has_name.branch [
      | then-has_name+in_ok-put_members w ↦ names_with c.args.fields.now c.loop-field.field-index c.field-item.result (map (λ (m : Bor (List ℕ)). m.now) c.loop-field.names.items) _ c.loop-field-test.true c.field-item.is (sym c.has_name.ensures ∙ w.if-has_name.true) c.loop-field.invariant
          (ap (λ names. map (λ (m : Bor (List ℕ)). m.now) names.items) w.names-is ∙ w.in_ok-put_members.ensures ∙ ap (λ list. map (λ (m : Bor (List ℕ)). m.now) c.loop-field.names.items ++ members list) w.as_slice.ensures)
      | else-has_name w ↦ ap (λ names. map (λ (m : Bor (List ℕ)). m.now) names.items) w.names-is ∙ names_without c.args.fields.now c.loop-field.field-index c.field-item.result (map (λ (m : Bor (List ℕ)). m.now) c.loop-field.names.items) c.loop-field-test.true c.field-item.is (sym c.has_name.ensures ∙ w.if-has_name.false) c.loop-field.invariant
    ]

pub returns : goal.returns
returns c = c.loop-field.invariant ∙ all_names c.args.fields.now c.loop-field.field-index c.loop-field-test.false
