-- A list has all names.
use Rattle.std.proofs.Common.{ℕ, List, sym, subst}
use Rattle.folder_model.specs.Calls.{Lists}
use Rattle.folder_model.specs.Folder.{FolderPast, contents_of}
use Rattle.folder_files.specs.Counting.{Tallied, HasNoMore}
use Rattle.folder_files.specs.steps.CountLaws.{no_more_listed}
use Rattle.folder_files.proofs.counting.listed.Goals as goal

pub returns-clause-no_more : goal.returns-clause-no_more
returns-clause-no_more g c = λ told.
    let name = g.N.FileNames.name in
    let past : FolderPast = g.F.Folder.past c.args.folder.now in
    let given : List (List ℕ) = c.tally.inside.given.value in
    let lists : Lists (contents_of past) c.new-tally.result.given given =
    subst (λ (t : Tallied). Lists (contents_of past) c.new-tally.result.given t.given) (sym c.tally.view_is) (c.in_ok-list.ensures.lists told) in
    let all = no_more_listed name g.met.N.FileNames.is_text past c.tally.inside.warc c.tally.inside.cdxj given c.tally.invariant
    (subst (λ (xs : List (List ℕ)). Lists (contents_of past) xs given) c.new-tally.ensures lists) in
    subst (λ (p : FolderPast). HasNoMore name p c.in_ok-few.field-0 c.in_ok-few-2.field-0) (sym (c.list.ensures.past told))
    (subst (λ (w : ℕ). HasNoMore name past w c.in_ok-few-2.field-0) (sym c.in_ok-few.ensures.same)
    (subst (λ (x : ℕ). HasNoMore name past c.tally.inside.warc x) (sym c.in_ok-few-2.ensures.same) all))
