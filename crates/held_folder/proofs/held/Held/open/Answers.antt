-- The folder was counted, and then synced.
use Rattle.std.proofs.Common.{refl, [], length, sym, ap, ◌∙◌}
use Rattle.folder_model.specs.Timed.{times_of}
use Rattle.folder_model.specs.Times.{Times, moment_of}
use Rattle.held_folder.specs.steps.StateLaws.{opened, still_seen}
use Rattle.held_folder.proofs.held.Held.open.Goals as goal

pub returns-clause-known : goal.returns-clause-known
returns-clause-known g c = λ told.
    let past = g.F.Folder.past in
    opened g.N.FileNames.name c.args.counts.warc c.args.counts.cdxj (past c.args.folder) (past c.new.result.folder) c.new-2.result (times_of c.new.result)
    (c.requires told)
    (ap past c.new.ensures.folder
    ∙ c.in-Ok.ensures told)
    c.new-2.ensures
    (c.new.ensures.times ∙ (λ i. record { made = length (past (sym c.new.ensures.folder i)).deeds; begun = [] }))

pub returns-clause-seen : goal.returns-clause-seen
returns-clause-seen g c = λ told.
    let past = g.F.Folder.past in
    still_seen g.N.FileNames.name (past c.args.folder) (past c.new.result.folder) _ (ap past c.new.ensures.folder ∙ c.in-Ok.ensures told)
    (returns-clause-known g c told).knows.is.seen

pub returns-clause-new : goal.returns-clause-new
returns-clause-new g c = record {
  warc_is = refl;
  cdxj_is = refl;
  fresh = c.new-2.ensures;
  first = ap (λ (t : Times). moment_of t) c.new.ensures.times;
}
