-- What was looked for serves at once.
use Rattle.std.proofs.Common.{List, Result, ap, sym, subst, ◌∙◌}
use Rattle.sha1.specs.Sha1.{sha1}
use Rattle.archive_shelf.specs.declared.fault.StoreFault.{StoreFault}
use Rattle.archive_shelf.specs.declared.looked.Looked.{Looked}
use Rattle.history_lock.specs.Seen.{Adds}
use Rattle.vault_lists.specs.Items.{shown_in}
use Rattle.vault_turns.specs.History.{Names, by_of, is_told}
use Rattle.vault_turns.specs.Turns.{Compares}
use Rattle.vault_turns.specs.declared.noted.Noted.{Noted}
use Rattle.vault_turns.proofs.FirstLaws.{commits_at_once, of_payload, refuses_at_once, right_at_once, still_there}
use Rattle.vault_turns.proofs.first_turn.FirstTurnAct.act.Goals as goal

pub compare-compared-requires : goal.compare-compared-requires
compare-compared-requires g c = c.requires.0.2 ∙ ap sha1 (sym c.as_slice.ensures)

pub act-requires : goal.act-requires
act-requires g c =
    let found = c.args.value.now.kept.history in
    let middle = c.compare-compared.new.self.kept.history in
    let looks = subst (λ (r : Result Looked StoreFault). Adds by_of c.args.by found middle (λ added. Compares (is_told found) c.args.self.payload found added r))
    c.in-Ok.is (of_payload c.args.by found c.compare-compared.new.self.kept.history c.as_slice.result.now c.args.self.payload c.compare-compared.result c.as_slice.ensures
    c.compare-compared.ensures) in (
      c.requires.0.0,
      c.requires.0.3,
      right_at_once c.args.self.taken.now c.args.self.payload c.args.by found middle c.in-Ok.looked looks c.compared_payloads_serve_later.ensures.found
          c.growth_keeps_captures.ensures.itself c.requires.0.1,
      subst (λ (l : List Noted). Names l c.args.self.seen.now.of)
          (sym (still_there c.args.self.taken.now c.args.self.payload c.args.by found middle c.in-Ok.looked looks)) c.requires.1,
    )

pub returns-in-None : goal.returns-in-None
returns-in-None g c =
    let found = c.args.value.now.kept.history in
    let middle = c.compare-compared.new.self.kept.history in
    let looks = subst (λ (r : Result Looked StoreFault). Adds by_of c.args.by found middle (λ added. Compares (is_told found) c.args.self.payload found added r))
    c.in-Ok.is (of_payload c.args.by found c.compare-compared.new.self.kept.history c.as_slice.result.now c.args.self.payload c.compare-compared.result c.as_slice.ensures
    c.compare-compared.ensures) in
    commits_at_once c.args.self.taken.now c.args.self.payload c.args.by found middle c.in-Ok.looked looks (shown_in c.args.self.seen.now.items) c.act.new.value.kept.history c.act.result c.act.ensures

pub returns-in-Some : goal.returns-in-Some
returns-in-Some g c =
    let found = c.args.value.now.kept.history in
    subst (λ (r : Result Looked StoreFault). Adds by_of c.args.by found c.compare-compared.new.self.kept.history
    (λ added. Compares (is_told found) c.args.self.payload found added r)) c.in-Ok.is (of_payload c.args.by found c.compare-compared.new.self.kept.history c.as_slice.result.now c.args.self.payload c.compare-compared.result c.as_slice.ensures
    c.compare-compared.ensures)

pub returns-in-Err : goal.returns-in-Err
returns-in-Err g c =
    let found = c.args.value.now.kept.history in
    refuses_at_once (shown_in c.args.self.seen.now.items) c.args.self.taken.now c.args.self.payload c.args.by found c.compare-compared.new.self.kept.history c.in-Err.fault
    (subst (λ (r : Result Looked StoreFault). Adds by_of c.args.by found c.compare-compared.new.self.kept.history
    (λ added. Compares (is_told found) c.args.self.payload found added r)) c.in-Err.is (of_payload c.args.by found c.compare-compared.new.self.kept.history c.as_slice.result.now c.args.self.payload c.compare-compared.result c.as_slice.ensures
    c.compare-compared.ensures))
