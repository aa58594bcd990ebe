use Rattle.std.proofs.Common.{List, ℕ, subst}
use Rattle.warc_journal.specs.Journals.{Changes, texts}
use Rattle.warc_journal.specs.Texts.{with_more}
use Rattle.warc_journal.proofs.Composing.{changes_on, not_prepared}
use Rattle.warc_journal.proofs.journal.Journal.append.Goals as goal

pub returns-in_err-clean-clause-change : goal.returns-in_err-clean-clause-change
returns-in_err-clean-clause-change g c told =
    let d = g.D.Disk in
    let m = g.met.D.Disk in
    let old = c.args.self.now in
    not_prepared d m.now_counts m.now_only old c.clean.new.self (with_more (texts d old) c.args.text.now)
    c.from_residual.result c.from_residual.ensures.0 (c.clean.ensures.prepared told)

pub returns-clause-change : goal.returns-clause-change
returns-clause-change g c told =
    let d = g.D.Disk in
    let m = g.met.D.Disk in
    let old = c.args.self.now in
    let mid = c.clean.new.self in
    let new = c.put.new.self in
    let first = c.clean.ensures.prepared told in
    changes_on d m.now_counts m.now_only old mid new (with_more (texts d old) c.args.text.now) c.put.result first
    (subst (λ (ts : List (List ℕ)). Changes d mid new (with_more ts c.args.text.now) c.put.result) first.same (c.put.ensures.change told))
