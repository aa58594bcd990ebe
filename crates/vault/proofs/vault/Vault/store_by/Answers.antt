-- What was looked for serves the second turn, or the first one answered.
use Rattle.std.proofs.Common.{ℕ, Bool, List, sym, ap, subst, ◌∙◌}
use Rattle.sha1.specs.Sha1.{sha1}
use Rattle.archive_core.specs.Looking.{IsDigestOf, IsRightOf}
use Rattle.history_lock.specs.Seen.{Turn}
use Rattle.vault_lists.specs.Items.{shown_in}
use Rattle.vault_turns.specs.FirstTurns.{Begins}
use Rattle.vault_turns.specs.History.{by_of, is_told, told_in}
use Rattle.vault_turns.specs.Turns.{Commits}
use Rattle.vault_turns.specs.declared.first_turn.FirstAnswer.{FirstAnswer}
use Rattle.vault_turns.proofs.PublishLaws.{names_begun}
use Rattle.vault_turns.proofs.TellingLaws.{told_shown}
use Rattle.vault.proofs.JoinLaws.{shown_names}
use Rattle.vault.proofs.StoreLaws.{answered_at_once, committed_later, looks_alone, serves}
use Rattle.vault.proofs.vault.Vault.store_by.Goals as goal

pub take-requires-clause-begun : goal.take-requires-clause-begun
take-requires-clause-begun g c = names_begun c.args.pass.now.seen c.args.listed.now.note.of c.requires.listed.named

pub take-requires-clause-ready : goal.take-requires-clause-ready
take-requires-clause-ready g c = λ found shows.
    let digest = c.payload_digest-digest.ensures ∙ ap sha1 c.as_slice.ensures in (
      (
        c.requires.fits,
        c.in-Ok.ensures,
        digest,
        subst (λ (d : List ℕ). IsDigestOf c.args.taken.now d) (sym digest)
            (c.compared_payloads_serve_later.ensures.digest c.args.taken.now c.in-Ok.payload c.in-Ok.ensures),
      ),
      shown_names c.args.pass.now.passes c.args.pass.now.numbers c.args.pass.now.seen found c.args.seen.now.of shows c.requires.names,
    )

pub take-requires-in-Compared-clause-begun : goal.take-requires-in-Compared-clause-begun
take-requires-in-Compared-clause-begun g c = names_begun c.take.new.pass.seen c.take.new.listed.note.of c.take.ensures.listed.named

pub take-requires-in-Compared-clause-ready : goal.take-requires-in-Compared-clause-ready
take-requires-in-Compared-clause-ready g c = λ found shows.
    let tells = is_told c.args.pass.now.seen in
    let pass = c.take.new.pass in
    let payload = c.in-Ok.payload in
    let digest = c.payload_digest-digest.ensures ∙ ap sha1 c.as_slice.ensures in
    let turn = subst (λ (a : FirstAnswer). Turn by_of c.args.pass.now pass.seen
    (λ found added. Begins tells (shown_in c.args.seen.now.items) c.args.taken.now payload found added a)) c.in-Compared.is c.take.ensures.turn in (
      c.requires.fits,
      subst (λ (d : List ℕ). IsDigestOf c.args.taken.now d) (sym digest)
          (c.compared_payloads_serve_later.ensures.digest c.args.taken.now payload c.in-Ok.ensures),
      subst (λ (t : Bool). IsRightOf (told_in t found) c.args.taken.now c.in-Compared.looked)
          (sym (told_shown pass.passes pass.numbers pass.seen found (names_begun pass.seen c.take.new.listed.note.of c.take.ensures.listed.named) shows
          ∙ c.take.ensures.told))
          (serves tells c.args.pass.now pass.seen payload c.in-Compared.looked turn
          c.compared_payloads_serve_later.ensures.found c.growth_keeps_captures.ensures.itself c.growth_keeps_captures.ensures.steps
          (names_begun c.args.pass.now.seen c.args.listed.now.note.of c.requires.listed.named) c.args.taken.now c.in-Ok.ensures pass.passes pass.numbers found
          shows),
      shown_names pass.passes pass.numbers pass.seen found c.args.seen.now.of shows (c.take.ensures.names c.args.seen.now.of c.requires.names),
    )

pub returns-in-Compared-clause-stores : goal.returns-in-Compared-clause-stores
returns-in-Compared-clause-stores g c =
    let tells = is_told c.args.pass.now.seen in
    let payload = c.in-Ok.payload in
    let entries = shown_in c.args.seen.now.items in
    let turn = subst (λ (a : FirstAnswer). Turn by_of c.args.pass.now c.take.new.pass.seen
    (λ found added. Begins tells entries c.args.taken.now payload found added a)) c.in-Compared.is c.take.ensures.turn in
    committed_later tells entries c.args.taken.now c.args.pass.now c.take.new.pass c.take-in-Compared.new.pass c.take.ensures.same c.take-in-Compared.result
    (looks_alone tells c.args.pass.now c.take.new.pass.seen payload c.in-Compared.looked turn)
    (subst (λ (t : Bool). Turn by_of c.take.new.pass c.take-in-Compared.new.pass.seen (λ found added. Commits t entries c.args.taken.now found added c.take-in-Compared.result))
    c.take.ensures.told c.take-in-Compared.ensures.turn)

pub returns-in-Whole-clause-stores : goal.returns-in-Whole-clause-stores
returns-in-Whole-clause-stores g c =
    let tells = is_told c.args.pass.now.seen in
    let payload = c.in-Ok.payload in
    let entries = shown_in c.args.seen.now.items in
    answered_at_once tells entries c.args.taken.now payload c.args.pass.now c.take.new.pass c.in-Whole.answer
    c.in-Ok.ensures
    (subst (λ (a : FirstAnswer). Turn by_of c.args.pass.now c.take.new.pass.seen (λ found added. Begins tells entries c.args.taken.now payload found added a))
    c.in-Whole.is c.take.ensures.turn)
