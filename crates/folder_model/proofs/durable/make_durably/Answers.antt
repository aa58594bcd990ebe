-- A file was made, or may have been, and then only synced.
use Rattle.std.proofs.Common.{List, ℕ, inr, sym, subst, ◌∙◌}
use Rattle.folder_model.specs.File.{Made}
use Rattle.folder_model.specs.Folder.{FolderPast, did_to}
use Rattle.folder_model.specs.Whole.{OnlySyncs, settled_durably}
use Rattle.folder_model.specs.steps.SyncLaws.{no_sync, made_or_not, made_then_synced, names_made, names_may_made}
use Rattle.folder_model.proofs.durable.make_durably.Goals as goal

pub returns-in-Err-clause-partial : goal.returns-in-Err-clause-partial
returns-in-Err-clause-partial g c = λ tells.
    made_or_not c.args.name.now (g.F.Folder.past c.args.folder.now) (g.F.Folder.past c.make.new.self) (c.in-Err.ensures.partial tells)

pub returns-in-Err-clause-listed : goal.returns-in-Err-clause-listed
returns-in-Err-clause-listed g c = λ tells m sure.
    names_may_made (g.F.Folder.past c.args.folder.now) (g.F.Folder.past c.make.new.self) c.args.name.now m (c.in-Err.ensures.partial tells) sure

pub returns-in-Ok-settle_durably-clause-made : goal.returns-in-Ok-settle_durably-clause-made
returns-in-Ok-settle_durably-clause-made g c = λ tells.
    c.in-Ok-settle_durably.ensures.settled tells ∙ (λ i. settled_durably (c.in-Ok.ensures.named tells i) (c.in-Ok.ensures.made tells i))

pub returns-in-Ok-settle_durably-clause-partial : goal.returns-in-Ok-settle_durably-clause-partial
returns-in-Ok-settle_durably-clause-partial g c = λ tells.
    let old : FolderPast = g.F.Folder.past c.args.folder.now in
    let mid : FolderPast = g.F.Folder.past c.make.new.self in
    let new : FolderPast = g.F.Folder.past c.settle_durably.new.folder in
    let start : FolderPast = did_to old c.args.name.now Made in
    inr (made_then_synced c.args.name.now old new (c.in-Ok.ensures.new tells)
    (subst (λ (n : List ℕ). OnlySyncs n start new) (c.in-Ok.ensures.named tells)
    (c.settle_durably.ensures.only tells start (subst (OnlySyncs _ start) (sym (c.in-Ok.ensures.made tells)) (no_sync _ start)))))

pub returns-in-Ok-settle_durably-clause-listed : goal.returns-in-Ok-settle_durably-clause-listed
returns-in-Ok-settle_durably-clause-listed g c = λ tells m sure.
    c.in-Ok-settle_durably.ensures.listed tells m
    (names_made (g.F.Folder.past c.args.folder.now) (g.F.Folder.past c.make.new.self) c.args.name.now m (c.in-Ok.ensures.made tells) sure)

pub returns-in-Err-settle_durably-clause-partial : goal.returns-in-Err-settle_durably-clause-partial
returns-in-Err-settle_durably-clause-partial g c = λ tells.
    let old : FolderPast = g.F.Folder.past c.args.folder.now in
    let mid : FolderPast = g.F.Folder.past c.make.new.self in
    let new : FolderPast = g.F.Folder.past c.settle_durably.new.folder in
    let start : FolderPast = did_to old c.args.name.now Made in
    inr (made_then_synced c.args.name.now old new (c.in-Ok.ensures.new tells)
    (subst (λ (n : List ℕ). OnlySyncs n start new) (c.in-Ok.ensures.named tells)
    (c.settle_durably.ensures.only tells start (subst (OnlySyncs _ start) (sym (c.in-Ok.ensures.made tells)) (no_sync _ start)))))

pub returns-in-Err-settle_durably-clause-listed : goal.returns-in-Err-settle_durably-clause-listed
returns-in-Err-settle_durably-clause-listed g c = λ tells m sure.
    c.in-Err-settle_durably.ensures.listed tells m
    (names_made (g.F.Folder.past c.args.folder.now) (g.F.Folder.past c.make.new.self) c.args.name.now m (c.in-Ok.ensures.made tells) sure)
