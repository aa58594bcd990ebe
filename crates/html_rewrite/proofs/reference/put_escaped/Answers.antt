-- An address that is written as it stands.
use Rattle.std.proofs.Common.{◌++◌, ◌∙◌, ap, arith}
use Rattle.html_rewrite.proofs.References.{escaped_same}
use Rattle.html_rewrite.proofs.reference.put_escaped.Goals as goal

pub returns-in_ok-extend_from_slice-in-None : goal.returns-in_ok-extend_from_slice-in-None
returns-in_ok-extend_from_slice-in-None c =
    let none = c.in-None.ensures in
    c.in_ok-extend_from_slice-in-None.ensures.items ∙ ap (λ x. c.args.out.now.items ++ x) (escaped_same c.args.address.now (λ k h. none k (omega arith) h))
