-- One name more is below.
use Rattle.std.proofs.Common.{ℕ, List, [], ◌∷◌, ◌++◌, sym, subst}
use Rattle.std.specs.Prelude.{max}
use Rattle.folder_files.specs.Counting.{AreBelow}
use Rattle.folder_files.specs.steps.CountLaws.{one_below}
use Rattle.folder_files.proofs.counting.TallyNames.add.Goals as goal

pub invariant_of-self : goal.invariant_of-self
invariant_of-self g c =
    let name = g.N.FileNames.name in
    let given : List (List ℕ) = c.self.inside.given.value ++ c.args.name.now ∷ [] in
    let warc : ℕ = max c.self.inside.warc c.in_ok-warc.warc in
    subst (λ (xs : List (List ℕ)). AreBelow name c.greater-self-inside.result c.greater-self-inside-2.result xs) (sym c.one_more-given.ensures)
    (subst (λ (w : ℕ). AreBelow name w c.greater-self-inside-2.result given) (sym c.greater-self-inside.ensures)
    (subst (λ (x : ℕ). AreBelow name warc x given) (sym c.greater-self-inside-2.ensures)
    (one_below name c.self.inside.warc c.self.inside.cdxj c.in_ok-warc.warc c.in_ok-cdxj.cdxj c.self.inside.given.value c.args.name.now
    c.self.invariant c.in_ok-warc.ensures c.in_ok-cdxj.ensures)))
