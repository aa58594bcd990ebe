use Rattle.index_snapshot.specs.Entries.{entries_in}
use Rattle.vault_lists.specs.Items.{brings_of}
use Rattle.vault_turns.proofs.TellingLaws.{turn_keeps, turn_listed, turn_names, turn_told}
use Rattle.vault.proofs.vault.Vault.take.Goals as goal

pub returns-clause-turn : goal.returns-clause-turn
returns-clause-turn g c =
    turn_told c.args.pass.now c.turn-answer.new.pass.seen (λ t found added. g.A.Act.does c.args.act t (entries_in brings_of c.turn-answer.result.1.note.items) found added c.turn-answer.result.0)
    c.turn-answer.result.1.note c.turn-answer.result.1.whole c.requires.begun c.turn-answer.ensures.turn

pub returns-clause-listed : goal.returns-clause-listed
returns-clause-listed g c =
    turn_listed c.args.pass.now c.turn-answer.new.pass.seen (λ t found added. g.A.Act.does c.args.act t (entries_in brings_of c.turn-answer.result.1.note.items) found added c.turn-answer.result.0)
    c.turn-answer.result.1.note c.turn-answer.result.1.whole c.requires.begun c.turn-answer.ensures.turn

pub returns-clause-names : goal.returns-clause-names
returns-clause-names g c =
    turn_names c.args.pass.now c.turn-answer.new.pass.seen (λ t found added. g.A.Act.does c.args.act t (entries_in brings_of c.turn-answer.result.1.note.items) found added c.turn-answer.result.0)
    c.turn-answer.result.1.note c.turn-answer.result.1.whole c.requires.begun c.turn-answer.ensures.turn

pub returns-clause-told : goal.returns-clause-told
returns-clause-told g c =
    turn_keeps c.args.pass.now c.turn-answer.new.pass.seen (λ t found added. g.A.Act.does c.args.act t (entries_in brings_of c.turn-answer.result.1.note.items) found added c.turn-answer.result.0)
    c.turn-answer.result.1.note c.turn-answer.result.1.whole c.requires.begun c.turn-answer.ensures.turn
