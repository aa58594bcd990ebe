-- One name more was given.
use Rattle.std.proofs.Common.{◌≡◌, ◌++◌, ◌∷◌, [], ℕ, List, ap, ◌∙◌, sym, take, length, arith, add-one}
use Rattle.std.proofs.lemmas.List.{append_assoc}
use Rattle.memory_folder.specs.Entry.{Entry, names_of}
use Rattle.memory_folder.proofs.TakingLaws.{names-more}
use Rattle.memory_folder.proofs.store.give_names.Goals as goal

pub loop-entry-preserved : goal.loop-entry-preserved
loop-entry-preserved g c =
    let i = c.loop-entry.entry-index in
    let es = c.args.entries.now in
    let first = g.N.Names.given c.args.names.now in
    c.in_ok-add.ensures
    ∙ (λ k. c.loop-entry.invariant k ++ (c.name.ensures ∙ ap (λ (e : Entry). e.name) c.entry-item.is) k ∷ [])
    ∙ append_assoc first (names_of (take i es)) _
    ∙ ap (λ (names : List (List ℕ)). first ++ names) (sym (names-more es i c.entry-item.result (omega (arith, c.loop-entry-test.true))))
    ∙ ap (λ (n : ℕ). first ++ names_of (take n es)) (sym (add-one i))
