-- What the act did, by the list as it stands then.
use Rattle.std.proofs.Common.{sym, subst}
use Rattle.history_lock.specs.Seen.{Adds}
use Rattle.index_snapshot.specs.Edges.{Edge}
use Rattle.index_snapshot.specs.Entries.{entries_in}
use Rattle.vault_lists.specs.Items.{brings_of}
use Rattle.vault_lists.specs.declared.item.Item.{Item}
use Rattle.vault_turns.specs.History.{by_of, is_told}
use Rattle.vault_turns.proofs.TellingLaws.{adds_listed}
use Rattle.vault_turns.proofs.turning.TellingWorkPublished.act.Goals as goal

pub returns : goal.returns
returns g c =
    let before = c.args.value.now.kept.history in
    let after = c.act-answer.new.value.kept.history in
    let note = c.tell.result.note in
    adds_listed c.args.by before after
    (λ added. g.A.Act.does c.args.self.act (is_told before) (entries_in brings_of note.items) before added c.act-answer.result)
    note c.tell.result.whole
    (subst (λ (n : Edge Item). Adds by_of c.args.by before after
    (λ added. g.A.Act.does c.args.self.act (is_told before) (entries_in brings_of n.items) before added c.act-answer.result)) (sym c.tell.ensures.note) c.act-answer.ensures)
    c.tell.ensures.listed
