use Rattle.std.proofs.Common.{Some, ap, sym, ◌∙◌}
use Rattle.index_entry.specs.Facts.{Facts}
use Rattle.vault_turns.proofs.GatherLaws.{has_more, has_same, none_of}
use Rattle.vault_turns.proofs.TellingLaws.{on_ok}
use Rattle.vault_turns.proofs.gathering.put.Goals as goal

pub add-requires : goal.add-requires
add-requires g c = none_of c.args.archive.now.index c.args.index.now c.args.number c.in_ok-entry-in-Some.entry c.requires
    (ap (λ (e : Facts). e.number) c.in_ok-entry-in-Some.ensures ∙ c.in-Some.ensures.number)

pub returns-in_ok-entry-in-Some : goal.returns-in_ok-entry-in-Some
returns-in_ok-entry-in-Some g c =
    on_ok c.add.result _ _ (λ is. has_more c.args.archive.now.index c.args.index.now c.add.new.self c.args.number c.in_ok-entry-in-Some.entry c.requires
    (ap (λ (e : Facts). e.number) c.in_ok-entry-in-Some.ensures ∙ c.in-Some.ensures.number)
    (sym c.in-Some.ensures.indexed ∙ ap (λ (e : Facts). Some e) (sym c.in_ok-entry-in-Some.ensures)) is) c.add.ensures.ok

pub returns-in-None : goal.returns-in-None
returns-in-None g c = has_same c.args.archive.now.index c.args.index.now c.args.number c.requires (sym c.in-None.ensures.indexed)
