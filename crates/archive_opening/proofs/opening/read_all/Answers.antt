use Rattle.volume_scan.specs.Scannings.{disk_of, files_in}
use Rattle.archive_opening.proofs.FollowingLaws.{rests_on}
use Rattle.std.proofs.Common.{true, false, ℕ, subst, ◌∙◌}
use Rattle.std.specs.Prelude.{IsTrue, None}
use Rattle.disk_model.specs.Image.{Image}
use Rattle.warc_journal.specs.Extents.{warc_files}
use Rattle.archive_shelf.specs.declared.fault.ReopenFault.{ReopenFault}
use Rattle.archive_opening.proofs.OpenedLaws.{exit_by}
use Rattle.archive_opening.specs.Following.{ReadsOn}
use Rattle.archive_gathering.specs.Refusing.{CountsFault, IsCause}
use Rattle.archive_opening.specs.Opening.{IsReadRefusal}
use Rattle.archive_opening.proofs.opening.read_all.Goals as goal

pub returns-clause-rests : goal.returns-clause-rests
returns-clause-rests g c = λ told.
    rests_on g.D.Disk (disk_of c.args.scanning.now) (disk_of c.steps.scanning) (disk_of c.read_one.new.scanning) (c.steps.invariant.rests told) (c.read_one.ensures.rests told)

pub returns-in_err-read_one-clause-rests : goal.returns-in_err-read_one-clause-rests
returns-in_err-read_one-clause-rests g c = λ told.
    rests_on g.D.Disk (disk_of c.args.scanning.now) (disk_of c.steps.scanning) (disk_of c.read_one.new.scanning) (c.steps.invariant.rests told) (c.read_one.ensures.rests told)

pub steps-preserved : goal.steps-preserved
steps-preserved g c =
    let d = g.D.Disk in
    let reads : ReadsOn d c.steps.scanning c.read_one.new.scanning c.read_one.new.gathered true =
    subst (ReadsOn d c.steps.scanning c.read_one.new.scanning c.read_one.new.gathered) c.if-branch.true c.in_ok-read_one.ensures.reads in
    record {
      in_place = c.read_one.ensures.in_place;
      steady = reads.1;
      follows = reads.0;
      rests = λ told. rests_on d (disk_of c.args.scanning.now) (disk_of c.steps.scanning) (disk_of c.read_one.new.scanning) (c.steps.invariant.rests told)
          (c.read_one.ensures.rests told);
      faults = c.in_ok-read_one.ensures.still ∙ c.steps.invariant.faults;
    }

pub returns-clause-all : goal.returns-clause-all
returns-clause-all g c =
    (subst (ReadsOn g.D.Disk c.steps.scanning c.read_one.new.scanning c.read_one.new.gathered) c.if-branch.false c.in_ok-read_one.ensures.reads).0

pub returns-clause-done : goal.returns-clause-done
returns-clause-done g c =
    (subst (ReadsOn g.D.Disk c.steps.scanning c.read_one.new.scanning c.read_one.new.gathered) c.if-branch.false c.in_ok-read_one.ensures.reads).1

pub returns-clause-in_step : goal.returns-clause-in_step
returns-clause-in_step g c =
    (subst (ReadsOn g.D.Disk c.steps.scanning c.read_one.new.scanning c.read_one.new.gathered) c.if-branch.false c.in_ok-read_one.ensures.reads).2

pub returns-clause-steady : goal.returns-clause-steady
returns-clause-steady g c = c.in_ok-read_one.ensures.still ∙ c.steps.invariant.faults

pub returns-in_err-read_one-clause-damage : goal.returns-in_err-read_one-clause-damage
returns-in_err-read_one-clause-damage g c =
    let d = g.D.Disk in
    exit_by (λ (f : ReopenFault). IsTrue d.tells → IsReadRefusal (files_in d c.args.scanning.now) f) c.in_err-read_one.field-0.0 c.from_residual.result c.from_residual.ensures.1
    (λ told. subst (λ (i : Image). IsReadRefusal (warc_files i) c.in_err-read_one.field-0.0) (c.steps.invariant.rests told).read (c.in_err-read_one.ensures.damage told))

pub returns-in_err-read_one-clause-cause : goal.returns-in_err-read_one-clause-cause
returns-in_err-read_one-clause-cause g c =
    exit_by (IsCause None) c.in_err-read_one.field-0.0 c.from_residual.result c.from_residual.ensures.1 c.in_err-read_one.ensures.cause

pub returns-in_err-read_one-clause-faults : goal.returns-in_err-read_one-clause-faults
returns-in_err-read_one-clause-faults g c =
    let d = g.D.Disk in
    let now = d.faults (disk_of c.read_one.new.scanning) in
    exit_by (CountsFault (d.faults (disk_of c.args.scanning.now)) now) c.in_err-read_one.field-0.0 c.from_residual.result c.from_residual.ensures.1
    (subst (λ (n : ℕ). CountsFault n now c.in_err-read_one.field-0.0) c.steps.invariant.faults c.in_err-read_one.ensures.faults)
