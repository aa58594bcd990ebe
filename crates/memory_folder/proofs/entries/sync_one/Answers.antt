-- The entry at the place is the one of the name.
use Rattle.std.proofs.Common.{◌≡◌, None, List, refl, sym, ◌∙◌, subst}
use Rattle.memory_folder.specs.Entry.{Entry, IsPlace, found, no_entry, entry_synced}
use Rattle.memory_folder.proofs.EntriesLaws.{changed-place, changed-none}
use Rattle.memory_folder.proofs.entries.sync_one.Goals as goal

pub returns-in-Some : goal.returns-in-Some
returns-in-Some c =
    c.sync_at.ensures
    ∙ changed-place (entry_synced c.args.done) c.args.entries.now.items c.args.name.now c.in-Some.i no_entry
    (subst (λ (es : List Entry). IsPlace es c.args.name.now c.in-Some.i) c.as_slice.ensures.value c.in-Some.ensures.place)

pub returns-in_default : goal.returns-in_default
returns-in_default c =
    sym (changed-none (entry_synced c.args.done) c.args.entries.now.items c.args.name.now
    (subst (λ (es : List Entry). found es c.args.name.now ≡ None) c.as_slice.ensures.value (c.in_default.ensures.none refl)))
