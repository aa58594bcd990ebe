-- The tag has its end, or the page ends first.
use Rattle.std.proofs.Common.{◌≡◌, ◌∙◌, ◌+◌, Bool, not, List, ℕ, length, take, drop, ap, sym, subst, arith}
use Rattle.std.proofs.lemmas.List.{length-append}
use Rattle.std.specs.Bool.{MatchBool}
use Rattle.std.specs.List.{prefix_len}
use Rattle.html_rewrite.specs.Bytes.{is_name_end}
use Rattle.html_rewrite.specs.Split.{IsRawText}
use Rattle.html_rewrite.specs.steps.Reading.{HasInside, LacksInside, Passes, ReadsInside, ahead, link_by}
use Rattle.html_rewrite.proofs.TagLemmas.{OpensElement, less_first, opens_element, reads_tag, reads_rest, start_opens}
use Rattle.html_rewrite.proofs.rewriter.Rewriter.tag.Goals as goal

named : (t u name : List ℕ) → u ≡ t → name ≡ take (prefix_len (λ b. not (is_name_end b)) (drop 1 u)) (drop 1 u) → name ≡ take (prefix_len (λ b. not (is_name_end b)) (drop 1 t)) (drop 1 t)
named t u name e is = is ∙ ap (λ x. take (prefix_len (λ b. not (is_name_end b)) (drop 1 x)) (drop 1 x)) e

pub element_name-element-requires : goal.element_name-element-requires
element_name-element-requires c =
    let first = less_first (ahead c.args.self.now) (start_opens (ahead c.args.self.now) c.requires).0 in
    omega (arith, ap length c.ahead.ensures, ap length first)

pub pass-requires : goal.pass-requires
pass-requires c =
    let name = c.element_name-element.result.now in
    let element = opens_element (ahead c.args.self.now) name c.requires (named (ahead c.args.self.now) c.ahead.result.now name c.ahead.ensures c.element_name-element.ensures) in
    omega (arith, ap length element.parts, length-append name (drop (1 + length name) (ahead c.args.self.now)))

pub returns-then-not-branch : goal.returns-then-not-branch
returns-then-not-branch c =
    let old = c.args.self.now in
    let one = c.pass.new.self in
    let name = c.element_name-element.result.now in
    let element = opens_element (ahead old) name c.requires (named (ahead old) c.ahead.result.now name c.ahead.ensures c.element_name-element.ensures) in
    let lacks = subst (λ (x : Bool). MatchBool x (HasInside (ahead one)) (LacksInside (ahead one))) c.if-not-branch.true c.in_ok-has_inside.ensures in
    let second = subst (λ (x : List ℕ). Passes (length x) one c.pass-then-not-branch.new.self) c.ahead-rest.ensures c.pass-then-not-branch.ensures in
    reads_rest c.args.links.now.limit (link_by c.args.links.now) old one c.pass-then-not-branch.new.self name c.requires (subst (OpensElement (ahead old) name) (sym c.pass.ensures.rest) element) c.pass.ensures lacks second

pub returns : goal.returns
returns c =
    let old = c.args.self.now in
    let one = c.pass.new.self in
    let limit = c.args.links.now.limit in
    let link = link_by c.args.links.now in
    let name = c.element_name-element.result.now in
    let element = opens_element (ahead old) name c.requires (named (ahead old) c.ahead.result.now name c.ahead.ensures c.element_name-element.ensures) in
    let inside = subst (λ (x : Bool). MatchBool x (ReadsInside limit link name one c.attributes.new.self) (LacksInside (ahead one))) c.if-not-branch-2.false c.in_ok-attributes.ensures in
    let k = c.raw_text_len.result in
    let raw = subst (λ (x : List ℕ). IsRawText name (take k x) (drop k x)) c.ahead-2.ensures c.raw_text_len.ensures.raw in
    reads_tag limit link old one c.attributes.new.self c.pass-2.new.self name k c.requires (subst (OpensElement (ahead old) name) (sym c.pass.ensures.rest) element) c.pass.ensures inside raw c.pass-2.ensures
