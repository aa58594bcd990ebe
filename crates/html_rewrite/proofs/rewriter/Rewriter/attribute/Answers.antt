-- An attribute without a value, one whose value has no end, or one with its value.
use Rattle.std.proofs.Common.{◌≡◌, ◌∙◌, ◌+◌, List, ℕ, false, take, drop, ap, subst}
use Rattle.std.specs.List.{prefix_len}
use Rattle.html_rewrite.specs.Tags.{assigns, is_attribute_byte}
use Rattle.html_rewrite.specs.steps.Reading.{IsUnclosed, IsValueAt, ahead, link_by}
use Rattle.html_rewrite.proofs.Steps.{reads_name, leads_missing, lacks_unclosed, leads_value}
use Rattle.html_rewrite.proofs.rewriter.Rewriter.attribute.Goals as goal

pub returns-in-Missing : goal.returns-in-Missing
returns-in-Missing c =
    let name = c.attribute_name-name.result.now in
    let is : name ≡ take (1 + prefix_len is_attribute_byte (drop 1 (ahead c.pass.new.self))) (ahead c.pass.new.self) = c.attribute_name-name.ensures ∙ ap (λ x. take (1 + prefix_len is_attribute_byte (drop 1 x)) x) c.ahead.ensures in
    let named = reads_name c.args.self.now c.pass.new.self c.pass-2.new.self c.args.gap name c.requires c.pass.ensures is c.pass-2.ensures in
    leads_missing c.args.links.now.limit (link_by c.args.links.now) c.args.element.now name c.args.gap c.args.self.now c.pass-2.new.self named (subst (λ (x : List ℕ). assigns x ≡ false) c.ahead-2.ensures c.in-Missing.ensures)

pub returns-in-Unclosed : goal.returns-in-Unclosed
returns-in-Unclosed c =
    let name = c.attribute_name-name.result.now in
    let is : name ≡ take (1 + prefix_len is_attribute_byte (drop 1 (ahead c.pass.new.self))) (ahead c.pass.new.self) = c.attribute_name-name.ensures ∙ ap (λ x. take (1 + prefix_len is_attribute_byte (drop 1 x)) x) c.ahead.ensures in
    let named = reads_name c.args.self.now c.pass.new.self c.pass-2.new.self c.args.gap name c.requires c.pass.ensures is c.pass-2.ensures in
    lacks_unclosed name c.args.gap c.args.self.now c.pass-2.new.self named (subst IsUnclosed c.ahead-2.ensures c.in-Unclosed.ensures)

pub returns-in_ok-value-in-Value : goal.returns-in_ok-value-in-Value
returns-in_ok-value-in-Value c =
    let name = c.attribute_name-name.result.now in
    let is : name ≡ take (1 + prefix_len is_attribute_byte (drop 1 (ahead c.pass.new.self))) (ahead c.pass.new.self) = c.attribute_name-name.ensures ∙ ap (λ x. take (1 + prefix_len is_attribute_byte (drop 1 x)) x) c.ahead.ensures in
    let named = reads_name c.args.self.now c.pass.new.self c.pass-2.new.self c.args.gap name c.requires c.pass.ensures is c.pass-2.ensures in
    let found = subst (λ (x : List ℕ). IsValueAt x c.in-Value.lead c.in-Value.len c.in-Value.closing) c.ahead-2.ensures c.in-Value.ensures in
    leads_value c.args.links.now.limit (link_by c.args.links.now) c.args.element.now name c.args.gap c.in-Value.lead c.in-Value.len c.in-Value.closing c.args.self.now c.pass-2.new.self c.pass-in-Value.new.self c.value.new.self c.pass-in-Value-2.new.self named found c.pass-in-Value.ensures c.in_ok-value-in-Value.ensures c.pass-in-Value-2.ensures
