-- The answer is held back where the list that was seen isn't the beginning of the one that the turn tells of.
use Rattle.std.proofs.Common.{sym, subst}
use Rattle.std.specs.Prelude.{List, Result, ℕ}
use Rattle.archive_shelf.specs.declared.fault.BringFault.{BringFault}
use Rattle.history_lock.specs.Seen.{Turn}
use Rattle.vault_lists.specs.Items.{shown_in}
use Rattle.vault_turns.specs.History.{by_of, is_told}
use Rattle.vault_turns.specs.Turns.{GivesIt}
use Rattle.vault_turns.proofs.SeenLaws.{names_one, prefix_if}
use Rattle.vault.proofs.BringLaws.{piece_held, turn_gives}
use Rattle.vault.proofs.vault.Vault.piece_beside.Goals as goal

pub begins-agrees-requires : goal.begins-agrees-requires
begins-agrees-requires g c =
    names_one c.take-answer.new.pass.seen c.args.shown.now.of c.take-answer.new.listed.note.of
    (c.take-answer.ensures.names c.args.shown.now.of c.requires.names) c.take-answer.ensures.listed.named

pub returns-clause-turn : goal.returns-clause-turn
returns-clause-turn g c =
    subst (λ (r : Result (List ℕ) BringFault). Turn by_of c.args.pass.now c.take-answer.new.pass.seen
    (λ found added. GivesIt (is_told c.args.pass.now.seen) (shown_in c.args.shown.now.items) c.args.number found added r)) (sym c.hold_back.ensures)
    (piece_held c.args.pass.now c.take-answer.new.pass.seen c.args.number c.take-answer.new.listed.note.items c.args.shown.now.items c.begins-agrees.result
    (prefix_if c.begins-agrees.result c.args.shown.now.items c.take-answer.new.listed.note.items c.begins-agrees.ensures) c.take-answer.result
    c.take-answer.ensures.turn)

pub returns-clause-gives : goal.returns-clause-gives
returns-clause-gives g c =
    turn_gives c.args.pass.now c.take-answer.new.pass c.args.shown.now c.requires.begun c.take-answer.ensures.told c.args.number c.hold_back.result
    (returns-clause-turn g c)
