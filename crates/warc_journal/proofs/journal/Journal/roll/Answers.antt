use Rattle.std.proofs.Common.{◌++◌, ◌∷◌, [], List, ℕ, subst}
use Rattle.warc_journal.specs.Journals.{Changes, texts}
use Rattle.warc_journal.proofs.Composing.{changes_on, not_prepared}
use Rattle.warc_journal.proofs.Preparing.{prepared_twice}
use Rattle.warc_journal.proofs.journal.Journal.roll.Goals as goal

pub returns-in_err-clean-clause-change : goal.returns-in_err-clean-clause-change
returns-in_err-clean-clause-change g c told =
    let d = g.D.Disk in
    let m = g.met.D.Disk in
    let old = c.args.self.now in
    not_prepared d m.now_counts m.now_only old c.clean.new.self (texts d old ++ c.args.info.now ∷ [])
    c.from_residual.result c.from_residual.ensures.0 (c.clean.ensures.prepared told)

pub returns-in_err-make_further-clause-change : goal.returns-in_err-make_further-clause-change
returns-in_err-make_further-clause-change g c told =
    let d = g.D.Disk in
    let m = g.met.D.Disk in
    let old = c.args.self.now in
    not_prepared d m.now_counts m.now_only old c.make_further.new.self (texts d old ++ c.args.info.now ∷ [])
    c.from_residual-in_err-make_further.result c.from_residual-in_err-make_further.ensures.0
    (prepared_twice d m.now_counts m.now_only old c.clean.new.self c.make_further.new.self (c.clean.ensures.prepared told) (c.make_further.ensures.prepared told))

pub returns-clause-change : goal.returns-clause-change
returns-clause-change g c told =
    let d = g.D.Disk in
    let m = g.met.D.Disk in
    let old = c.args.self.now in
    let mid = c.make_further.new.self in
    let new = c.begin_volume.new.self in
    let first = prepared_twice d m.now_counts m.now_only old c.clean.new.self mid (c.clean.ensures.prepared told) (c.make_further.ensures.prepared told) in
    changes_on d m.now_counts m.now_only old mid new (texts d old ++ c.args.info.now ∷ []) c.begin_volume.result first
    (subst (λ (ts : List (List ℕ)). Changes d mid new (ts ++ c.args.info.now ∷ []) c.begin_volume.result) first.same (c.begin_volume.ensures.change told))
