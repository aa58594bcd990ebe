-- What opens here says how far the part goes.
use Rattle.std.proofs.Common.{◌≡◌, ◌∙◌, ◌+◌, ◌==◌, List, ℕ, codes, not, length, take, drop, ap, sym, subst, arith}
use Rattle.std.specs.List.{prefix_len}
use Rattle.html_rewrite.specs.declared.opening.Opening.TheVariants.{Comment, Declaration, EndTag}
use Rattle.html_rewrite.specs.Bytes.{less}
use Rattle.html_rewrite.specs.Split.{IsThrough, opening_at}
use Rattle.html_rewrite.specs.steps.Reading.{ahead, link_by}
use Rattle.html_rewrite.proofs.Parts.{reads_plain, reads_text}
use Rattle.html_rewrite.proofs.rewriter.Rewriter.parts.Goals as goal

pub returns-in-Comment : goal.returns-in-Comment
returns-in-Comment c =
    let n = c.through_len.result in
    let through = subst (λ (x : List ℕ). IsThrough 4 (codes "-->") (take n x) (drop n x)) c.ahead-ahead.ensures c.through_len.ensures.through in
    reads_plain c.args.links.now.limit (link_by c.args.links.now) c.args.self.now c.pass.new.self n Comment c.pass.ensures (omega (arith, c.through_len.ensures.within, ap length c.ahead-ahead.ensures)) (omega (arith, c.through_len.ensures.some)) (c.in-Comment.ensures.value ∙ ap opening_at c.ahead-ahead.ensures) through

pub returns-in-Declaration : goal.returns-in-Declaration
returns-in-Declaration c =
    let n = c.through_len-in-Declaration.result in
    let through = subst (λ (x : List ℕ). IsThrough 2 (codes ">") (take n x) (drop n x)) c.ahead-ahead.ensures c.through_len-in-Declaration.ensures.through in
    reads_plain c.args.links.now.limit (link_by c.args.links.now) c.args.self.now c.pass-in-Declaration.new.self n Declaration c.pass-in-Declaration.ensures (omega (arith, c.through_len-in-Declaration.ensures.within, ap length c.ahead-ahead.ensures)) (omega (arith, c.through_len-in-Declaration.ensures.some)) (c.in-Declaration.ensures.value ∙ ap opening_at c.ahead-ahead.ensures) through

pub returns-in-EndTag : goal.returns-in-EndTag
returns-in-EndTag c =
    let n = c.through_len-in-EndTag.result in
    let through = subst (λ (x : List ℕ). IsThrough 2 (codes ">") (take n x) (drop n x)) c.ahead-ahead.ensures c.through_len-in-EndTag.ensures.through in
    reads_plain c.args.links.now.limit (link_by c.args.links.now) c.args.self.now c.pass-in-EndTag.new.self n EndTag c.pass-in-EndTag.ensures (omega (arith, c.through_len-in-EndTag.ensures.within, ap length c.ahead-ahead.ensures)) (omega (arith, c.through_len-in-EndTag.ensures.some)) (c.in-EndTag.ensures.value ∙ ap opening_at c.ahead-ahead.ensures) through

pub returns-in-Other : goal.returns-in-Other
returns-in-Other c =
    let t = ahead c.args.self.now in
    let n = c.plain_len.result in
    let is : n ≡ 1 + prefix_len (λ b. not (b == less)) (drop 1 t) = c.plain_len.ensures.value ∙ ap (λ x. 1 + prefix_len (λ b. not (b == less)) (drop 1 x)) c.ahead-ahead.ensures in
    reads_text c.args.links.now.limit (link_by c.args.links.now) c.args.self.now c.pass-in-Other.new.self n c.pass-in-Other.ensures is c.requires (sym (c.in-Other.ensures.value ∙ ap opening_at c.ahead-ahead.ensures))
