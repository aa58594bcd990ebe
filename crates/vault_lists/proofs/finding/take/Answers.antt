use Rattle.std.proofs.Common.{◌≡◌, ◌∷◌, [], ◌++◌, Some, None, ap, sym, ◌∙◌}
use Rattle.std.proofs.lemmas.Option.{same_Some}
use Rattle.index_entry.specs.Facts.{Facts}
use Rattle.vault_lists.proofs.FindingLaws.{by_its_number}
use Rattle.vault_lists.proofs.finding.take.Goals as goal

pub unreachable-requires : goal.unreachable-requires
unreachable-requires c =
    let there : c.in_ok-shared.field-0 ≡ Some c.args.entry.now =
    c.in_ok-shared.ensures ∙ by_its_number c.args.index.now c.args.entry.now c.entry.inside.number c.requires.indexed c.requires.there (ap (λ (f : Facts). f.number) c.entry.view_is) in
    let none : None ≡ Some c.args.entry.now = sym c.in-None.is ∙ there in
    absurd (cc none)

pub returns : goal.returns
returns c =
    let there : c.in_ok-shared.field-0 ≡ Some c.args.entry.now =
    c.in_ok-shared.ensures ∙ by_its_number c.args.index.now c.args.entry.now c.entry.inside.number c.requires.indexed c.requires.there (ap (λ (f : Facts). f.number) c.entry.view_is) in
    let same : c.in-Some.shared ≡ c.args.entry.now = same_Some c.in-Some.shared c.args.entry.now (sym c.in-Some.is ∙ there) in
    c.in_ok-push-in-Some.ensures.items ∙ ap (λ (f : Facts). c.args.entries.now.items ++ f ∷ []) same
