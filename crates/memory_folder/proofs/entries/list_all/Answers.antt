-- One entry more is changed.
use Rattle.std.proofs.Common.{◌≡◌, ◌<◌, ◌++◌, List, ap, ◌∙◌, sym, set, get_or, take, drop, length, arith, add-one}
use Rattle.memory_folder.specs.Entry.{Entry, entry_listed, all_listed}
use Rattle.memory_folder.proofs.TakingLaws.{all_listed-more}
use Rattle.memory_folder.proofs.entries.list_all.Goals as goal

pub loop-entry-preserved : goal.loop-entry-preserved
loop-entry-preserved c =
    let i = c.loop-entry.entry-index in
    let d = c.entry-item.result in
    ap (λ (e : Entry). set c.loop-entry.entries i e) c.set_listed.ensures
    ∙ ap (λ (es : List Entry). set es i (entry_listed c.args.done (get_or es i d))) c.loop-entry.invariant
    ∙ all_listed-more c.args.done c.args.entries.now i d (omega (arith, c.loop-entry-test.true, ap length c.loop-entry.invariant))
    ∙ (λ k. all_listed c.args.done (take (sym (add-one i) k) c.args.entries.now) ++ drop (sym (add-one i) k) c.args.entries.now)
