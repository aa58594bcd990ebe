-- The first bytes of the range were written, or nothing was done.
use Rattle.std.proofs.Common.{◌∙◌, arith, length, take, drop, take-append-drop}
use Rattle.folder_model.specs.File.{Wrote}
use Rattle.folder_model.specs.Folder.{FolderPast, did_to}
use Rattle.held_folder.specs.steps.SureLaws.{mends_front, mends_nothing}
use Rattle.held_folder.proofs.mending.write_anew.Goals as goal

pub returns-in-Err-clause-partial : goal.returns-in-Err-clause-partial
returns-in-Err-clause-partial g c = λ told.
    mends_nothing (g.F.Folder.past c.args.folder.now) (g.F.Folder.past c.read_range.new.folder) (g.F.Folder.name_of c.args.one.now.file) c.args.at c.args.len (c.read_range.ensures.past told)

pub returns-in-Ok-write_at-clause-partial : goal.returns-in-Ok-write_at-clause-partial
returns-in-Ok-write_at-clause-partial g c = λ told.
    let n = g.F.Folder.name_of c.args.one.now.file in
    let was : FolderPast = g.F.Folder.past c.args.folder.now in
    let many = c.in-Ok-write_at.n in
    mends_front was (g.F.Folder.past c.write_at.new.self) n c.args.at c.args.len (take many c.as_slice.result.now) (drop many c.as_slice.result.now)
    (take-append-drop many c.as_slice.result.now ∙ c.as_slice.ensures.value ∙ c.in-Ok.ensures.bytes told)
    0 (omega arith)
    (c.in-Ok-write_at.ensures.takes told ∙ (λ i. did_to (c.read_range.ensures.past told i) n (Wrote c.args.at (take many c.as_slice.result.now) 0)))

pub returns-clause-partial : goal.returns-clause-partial
returns-clause-partial g c = λ told.
    let n = g.F.Folder.name_of c.args.one.now.file in
    let was : FolderPast = g.F.Folder.past c.args.folder.now in
    let part = c.in-Err-write_at.ensures.partial told in
    mends_front was (g.F.Folder.past c.write_at.new.self) n c.args.at c.args.len part.bytes part.rest
    (part.all ∙ c.as_slice.ensures.value ∙ c.in-Ok.ensures.bytes told)
    (length part.rest) (omega arith)
    (part.whole ∙ (λ i. did_to (c.read_range.ensures.past told i) n (Wrote c.args.at part.bytes (length part.rest))))
