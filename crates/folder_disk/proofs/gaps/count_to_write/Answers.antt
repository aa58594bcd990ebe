-- Nothing was done but that missing checkpoints were made, and then all is counted.
use Rattle.std.proofs.Common.{sym, ◌∙◌, subst, arith}
use Rattle.folder_model.specs.Folder.{IsUnfailed}
use Rattle.folder_disk.specs.steps.GapLaws.{none_filled, filled_since, only_fills_leave, filled_counted, whole_counted}
use Rattle.folder_disk.proofs.gaps.count_to_write.Goals as goal

pub returns-in_err-looked-clause-fills : goal.returns-in_err-looked-clause-fills
returns-in_err-looked-clause-fills g c = λ told. none_filled g.N.FileNames.name (g.F.Folder.past c.args.folder.now) (g.F.Folder.past c.look.new.folder) (c.look.ensures.past told)

pub returns-in_err-looked-clause-crash : goal.returns-in_err-looked-clause-crash
returns-in_err-looked-clause-crash g c = λ told.
    let first = g.F.Folder.past c.args.folder.now in
    let last = g.F.Folder.past c.look.new.folder in
    only_fills_leave g.N.FileNames.name first last (none_filled g.N.FileNames.name first last (c.look.ensures.past told))

pub returns-in_err-check_last-clause-fills : goal.returns-in_err-check_last-clause-fills
returns-in_err-check_last-clause-fills g c = λ told.
    none_filled g.N.FileNames.name (g.F.Folder.past c.args.folder.now) (g.F.Folder.past c.check_last.new.folder) (c.check_last.ensures told ∙ c.look.ensures.past told)

pub returns-in_err-check_last-clause-crash : goal.returns-in_err-check_last-clause-crash
returns-in_err-check_last-clause-crash g c = λ told.
    let first = g.F.Folder.past c.args.folder.now in
    let last = g.F.Folder.past c.check_last.new.folder in
    only_fills_leave g.N.FileNames.name first last (none_filled g.N.FileNames.name first last (c.check_last.ensures told ∙ c.look.ensures.past told))

pub returns-in_err-check_last-2-clause-fills : goal.returns-in_err-check_last-2-clause-fills
returns-in_err-check_last-2-clause-fills g c = λ told.
    none_filled g.N.FileNames.name (g.F.Folder.past c.args.folder.now) (g.F.Folder.past c.check_last-2.new.folder)
    (c.check_last-2.ensures told ∙ c.check_last.ensures told ∙ c.look.ensures.past told)

pub returns-in_err-check_last-2-clause-crash : goal.returns-in_err-check_last-2-clause-crash
returns-in_err-check_last-2-clause-crash g c = λ told.
    let first = g.F.Folder.past c.args.folder.now in
    let last = g.F.Folder.past c.check_last-2.new.folder in
    only_fills_leave g.N.FileNames.name first last
    (none_filled g.N.FileNames.name first last (c.check_last-2.ensures told ∙ c.check_last.ensures told ∙ c.look.ensures.past told))

pub returns-then-looked-clause-fills : goal.returns-then-looked-clause-fills
returns-then-looked-clause-fills g c = λ told.
    none_filled g.N.FileNames.name (g.F.Folder.past c.args.folder.now) (g.F.Folder.past c.check_last-2.new.folder)
    (c.check_last-2.ensures told ∙ c.check_last.ensures told ∙ c.look.ensures.past told)

pub returns-then-looked-clause-crash : goal.returns-then-looked-clause-crash
returns-then-looked-clause-crash g c = λ told.
    let first = g.F.Folder.past c.args.folder.now in
    let last = g.F.Folder.past c.check_last-2.new.folder in
    only_fills_leave g.N.FileNames.name first last
    (none_filled g.N.FileNames.name first last (c.check_last-2.ensures told ∙ c.check_last.ensures told ∙ c.look.ensures.past told))

pub returns-then-looked-clause-counts : goal.returns-then-looked-clause-counts
returns-then-looked-clause-counts g c = λ told.
    let past = g.F.Folder.past in
    let counts = c.in_ok-looked.looked.counts in
    whole_counted g.N.FileNames.name g.met.N.FileNames.apart (past c.look.new.folder) (past c.check_last-2.new.folder) counts.warc counts.cdxj c.in_ok-looked.looked.whole
    (c.check_last-2.ensures told ∙ c.check_last.ensures told) (c.in_ok-looked.ensures.no_more told)
    c.in_ok-looked.ensures.few c.in_ok-looked.ensures.fewer (subst IsUnfailed (sym (c.look.ensures.past told)) (c.requires told))
    (c.in_ok-looked.ensures.warc told) (c.in_ok-looked.ensures.whole told) (omega (arith, c.if-looked.true))

pub returns-in_err-fill-clause-fills : goal.returns-in_err-fill-clause-fills
returns-in_err-fill-clause-fills g c = λ told.
    let past = g.F.Folder.past in
    filled_since g.N.FileNames.name (past c.args.folder.now) (past c.check_last-2.new.folder) (past c.fill.new.folder)
    (c.check_last-2.ensures told ∙ c.check_last.ensures told ∙ c.look.ensures.past told) (c.fill.ensures.fills told)

pub returns-in_err-fill-clause-crash : goal.returns-in_err-fill-clause-crash
returns-in_err-fill-clause-crash g c = λ told.
    let past = g.F.Folder.past in
    only_fills_leave g.N.FileNames.name (past c.args.folder.now) (past c.fill.new.folder)
    (filled_since g.N.FileNames.name (past c.args.folder.now) (past c.check_last-2.new.folder) (past c.fill.new.folder)
    (c.check_last-2.ensures told ∙ c.check_last.ensures told ∙ c.look.ensures.past told) (c.fill.ensures.fills told))

pub returns-clause-fills : goal.returns-clause-fills
returns-clause-fills g c = λ told.
    let past = g.F.Folder.past in
    filled_since g.N.FileNames.name (past c.args.folder.now) (past c.check_last-2.new.folder) (past c.fill.new.folder)
    (c.check_last-2.ensures told ∙ c.check_last.ensures told ∙ c.look.ensures.past told) (c.fill.ensures.fills told)

pub returns-clause-crash : goal.returns-clause-crash
returns-clause-crash g c = λ told.
    let past = g.F.Folder.past in
    only_fills_leave g.N.FileNames.name (past c.args.folder.now) (past c.fill.new.folder)
    (filled_since g.N.FileNames.name (past c.args.folder.now) (past c.check_last-2.new.folder) (past c.fill.new.folder)
    (c.check_last-2.ensures told ∙ c.check_last.ensures told ∙ c.look.ensures.past told) (c.fill.ensures.fills told))

pub returns-clause-counts : goal.returns-clause-counts
returns-clause-counts g c = λ told.
    let past = g.F.Folder.past in
    let counts = c.in_ok-looked.looked.counts in
    filled_counted g.N.FileNames.name g.met.N.FileNames.apart (past c.look.new.folder) (past c.fill.new.folder) counts.warc counts.cdxj
    (filled_since g.N.FileNames.name (past c.look.new.folder) (past c.check_last-2.new.folder) (past c.fill.new.folder)
    (c.check_last-2.ensures told ∙ c.check_last.ensures told) (c.fill.ensures.fills told))
    (c.in_ok-looked.ensures.no_more told) c.in_ok-looked.ensures.few c.in_ok-looked.ensures.fewer
    (subst IsUnfailed (sym (c.look.ensures.past told)) (c.requires told)) (c.in_ok-looked.ensures.warc told) (c.in_ok-fill.ensures.there told)
