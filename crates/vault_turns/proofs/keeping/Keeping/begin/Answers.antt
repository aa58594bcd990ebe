-- The history has its first entry.
use Rattle.std.proofs.Common.{◌≡◌, List, [], ◌∷◌, ◌++◌, IsTrue, rules, sym, ap, subst, ◌∙◌}
use Rattle.std.specs.declared.snapshot.Snapshot.{Snapshot}
use Rattle.vault_turns.specs.Calm.{StillStands}
use Rattle.vault_turns.specs.History.{sure_by, sure_in}
use Rattle.vault_turns.specs.declared.noted.Noted.{Noted}
use Rattle.vault_turns.specs.declared.noted.Sure.{Sure}
use Rattle.vault_turns.proofs.NotingLaws.{values}
use Rattle.vault_turns.proofs.keeping.Keeping.begin.Goals as goal

pub invariant_of-result : goal.invariant_of-result
invariant_of-result g c =
    let first : values c.push_reserved.new.self.items ≡ c.note.result.value ∷ [] =
    ap values (c.push_reserved.ensures.items ∙ ap (λ (l : List (Snapshot Noted)). l ++ c.note.result ∷ []) c.in-Ok.ensures.items) in
    let sure : sure_in (values c.push_reserved.new.self.items) ≡ c.args.sure.value =
    ap sure_in first ∙ ap (λ (noted : Noted). sure_by noted.kind) c.note.ensures in (
      search rules,
      search rules,
      λ told none. c.requires.calm (subst (λ (s : Sure). IsTrue s.calm) sure told),
      λ told. c.requires.right (subst (λ (s : Sure). IsTrue s.right) sure told),
      subst (λ (s : Sure). IsTrue s.lasts → StillStands g.D.Disk s.stood c.args.archive) (sym sure) c.requires.lasts,
    )
