-- The inside of the tag goes on, ends, or isn't there.
use Rattle.std.proofs.Common.{◌≡◌, Bool, List, ℕ, length, subst}
use Rattle.std.specs.Bool.{MatchBool}
use Rattle.std.specs.List.{prefix_len}
use Rattle.html_rewrite.specs.Bytes.{is_gap}
use Rattle.html_rewrite.specs.steps.Reading.{Closes, LacksInside, LeadsOn, ahead, link_by}
use Rattle.html_rewrite.proofs.Inside.{goes_more, goes_none, lacks_here, lacks_more, reads_end}
use Rattle.html_rewrite.proofs.rewriter.Rewriter.attributes.Goals as goal

pub attributes-init : goal.attributes-init
attributes-init c = goes_none c.args.links.now.limit (link_by c.args.links.now) c.args.element.now c.args.self.now

pub returns-in-PageEnd : goal.returns-in-PageEnd
returns-in-PageEnd c =
    lacks_here c.args.links.now.limit (link_by c.args.links.now) c.args.element.now c.args.self.now c.attributes.self c.attributes.invariant (subst (λ (x : List ℕ). prefix_len is_gap x ≡ length x) c.ahead.ensures c.in-PageEnd.ensures)

pub returns-in-Close : goal.returns-in-Close
returns-in-Close c =
    reads_end c.args.links.now.limit (link_by c.args.links.now) c.args.element.now c.args.self.now c.attributes.self c.pass.new.self c.in-Close.len c.attributes.invariant (subst (λ (x : List ℕ). Closes x c.in-Close.len) c.ahead.ensures c.in-Close.ensures) c.pass.ensures

pub returns-then-not-branch : goal.returns-then-not-branch
returns-then-not-branch c =
    let limit = c.args.links.now.limit in
    let link = link_by c.args.links.now in
    lacks_more limit link c.args.element.now c.args.self.now c.attributes.self c.attributes.invariant (subst (λ (x : Bool). MatchBool x (LeadsOn limit link c.args.element.now c.attributes.self c.attribute.new.self) (LacksInside (ahead c.attributes.self))) c.if-not-branch.true c.in_ok-attribute-in-AnAttribute.ensures)

pub attributes-preserved : goal.attributes-preserved
attributes-preserved c =
    let limit = c.args.links.now.limit in
    let link = link_by c.args.links.now in
    goes_more limit link c.args.element.now c.args.self.now c.attributes.self c.attribute.new.self c.attributes.invariant (subst (λ (x : Bool). MatchBool x (LeadsOn limit link c.args.element.now c.attributes.self c.attribute.new.self) (LacksInside (ahead c.attributes.self))) c.if-not-branch.false c.in_ok-attribute-in-AnAttribute.ensures)
