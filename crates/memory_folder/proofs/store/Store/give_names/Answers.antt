-- The names are those that are there.
use Rattle.std.proofs.Common.{◌≡◌, ◌++◌, List, ap, ◌∙◌, subst}
use Rattle.std.proofs.lemmas.Result.{on_ok_weaker}
use Rattle.folder_model.specs.Calls.{Lists}
use Rattle.folder_model.specs.Folder.{contents_of}
use Rattle.memory_folder.specs.Entry.{Entry, names_of}
use Rattle.memory_folder.specs.Past.{Recorded, past_of}
use Rattle.memory_folder.proofs.StoreLaws.{listed_names}
use Rattle.memory_folder.proofs.store.Store.give_names.Goals as goal

pub returns : goal.returns
returns g c =
    let old = g.N.Names.given c.args.names.now in
    let new = g.N.Names.given c.give_names.new.names in
    on_ok_weaker c.give_names.result
    (λ given. subst (λ (r : Recorded). Lists (contents_of (past_of r)) old new) c.self.view_is
    (listed_names c.self.inside.entries.items c.self.inside.placed c.self.inside.failed (past_of c.self.inside.past.value) old new c.self.invariant
    (given ∙ ap (λ (es : List Entry). old ++ names_of es) c.as_slice.ensures.value)))
    c.give_names.ensures
