-- A value that is read as it stands.
use Rattle.std.proofs.Common.{◌≡◌, List, ℕ, subst, arith}
use Rattle.std.specs.Prelude.{option_map}
use Rattle.std.specs.Result.{IfOk}
use Rattle.url.specs.Parts.{serialize}
use Rattle.html_rewrite.specs.Links.{target_read}
use Rattle.html_rewrite.proofs.References.{decoded_same}
use Rattle.html_rewrite.proofs.link.Links.target.Goals as goal

pub returns-in-None : goal.returns-in-None
returns-in-None c =
    let none = c.in-None.ensures in
    subst (λ (x : List ℕ). IfOk c.read_target-in-None.result (λ address. address ≡ option_map serialize (target_read c.args.self.now.base x))) (decoded_same c.args.value.now (λ k h. none k (omega arith) h)) c.read_target-in-None.ensures
