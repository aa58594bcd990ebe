use Rattle.std.proofs.Common.{[], ℕ, inr, refl, subst}
use Rattle.disk_model.specs.Crash.{HasFile, Leaves}
use Rattle.disk_model.specs.declared.kind.Kind.TheVariants.{Warc}
use Rattle.warc_journal.proofs.Making.{made, made_prepared, made_unknown, make_failed}
use Rattle.warc_journal.proofs.journal.Journal.make_further.Goals as goal

pub returns-in_err-create-in-Absent-clause-prepared : goal.returns-in_err-create-in-Absent-clause-prepared
returns-in_err-create-in-Absent-clause-prepared g c told =
    let d = g.D.Disk in
    let old = c.args.self.now in
    made_unknown d old c.create.new.self (c.requires.in_step told) c.requires.clean.last c.in-Absent.is
    (λ i left. g.met.D.Disk.no_more_files old.disk i Warc left)
    c.create.ensures.crash c.create.ensures.time (c.in_err-create-in-Absent.ensures.partial told)

pub returns-in_err-create-in-Absent-clause-in_step : goal.returns-in_err-create-in-Absent-clause-in_step
returns-in_err-create-in-Absent-clause-in_step g c told =
    let d = g.D.Disk in
    let old = c.args.self.now in
    make_failed d old c.create.new.self (c.requires.in_step told) c.requires.clean.last c.in-Absent.is
    (λ i left. g.met.D.Disk.no_more_files old.disk i Warc left)
    c.create.ensures.crash c.create.ensures.time (c.in_err-create-in-Absent.ensures.partial told)

pub returns-in_ok-create-in-Absent-clause-prepared : goal.returns-in_ok-create-in-Absent-clause-prepared
returns-in_ok-create-in-Absent-clause-prepared g c told =
    let d = g.D.Disk in
    let old = c.args.self.now in
    made_prepared d old c.create.new.self (c.requires.in_step told) c.requires.clean.last c.in-Absent.is
    (λ i left. g.met.D.Disk.no_more_files old.disk i Warc left)
    c.create.ensures.crash c.create.ensures.time (inr (refl, c.in_ok-create-in-Absent.ensures.created told))

pub returns-in_ok-create-in-Absent-clause-in_step : goal.returns-in_ok-create-in-Absent-clause-in_step
returns-in_ok-create-in-Absent-clause-in_step g c told =
    let d = g.D.Disk in
    let old = c.args.self.now in
    let new = c.create.new.self in
    made d old new (c.requires.in_step told) c.requires.clean.last c.in-Absent.is
    (λ i left. g.met.D.Disk.no_more_files old.disk i Warc left)
    c.create.ensures.crash c.create.ensures.time (inr (refl, c.in_ok-create-in-Absent.ensures.created told))
    (subst (λ (file : ℕ). Leaves (d.images new) (HasFile Warc file [])) (c.in_ok-create-in-Absent.ensures.number told) c.in_ok-create-in-Absent.ensures.durable)
