use Rattle.std.proofs.Common.{true, subst, ◌∙◌, false, ℕ}
use Rattle.disk_model.specs.Image.{Image}
use Rattle.volume_scan.specs.Scannings.{disk_of, position_of, files_in}
use Rattle.archive_volumes.specs.Held.{book_of}
use Rattle.archive_opening.specs.Counting.{CountsOnTo}
use Rattle.archive_opening.proofs.FollowingLaws.{rests_on}
use Rattle.archive_opening.specs.Refusing.{IsBorneOut}
use Rattle.archive_opening.specs.Telling.{ReadsWholeOn, TellsOn, IsKnownRefusal}
use Rattle.archive_opening.proofs.OpenedLaws.{exit_by}
use Rattle.std.specs.Prelude.{None}
use Rattle.warc_journal.specs.Extents.{warc_files}
use Rattle.archive_gathering.specs.Refusing.{CountsFault, IsCause}
use Rattle.archive_opening.specs.Opening.{IsReadRefusal}
use Rattle.archive_opening.proofs.telling.read_each.Goals as goal

pub steps-preserved : goal.steps-preserved
steps-preserved g c =
    let d = g.D.Disk in
    let tells : TellsOn d c.args.known.now.value c.steps.scanning c.read_next.new.scanning c.read_next.new.gathered true =
    subst (TellsOn d c.args.known.now.value c.steps.scanning c.read_next.new.scanning c.read_next.new.gathered) c.if-branch.true c.in_ok-read_next.ensures.tells in
    record {
      in_place = c.read_next.ensures.in_place;
      steady = tells.1;
      goes = tells.0;
      counts = λ told.
          subst (CountsOnTo (d.reading (disk_of c.read_next.new.scanning)) (position_of c.read_next.new.scanning) (book_of c.read_next.new.gathered.held)) c.if-branch.true
          (c.in_ok-read_next.ensures.counts told);
      whole = λ reads.
          subst (ReadsWholeOn d c.read_next.new.scanning c.read_next.new.gathered) c.if-branch.true (c.in_ok-read_next.ensures.whole (c.steps.invariant.whole reads));
      rests = λ told. rests_on d (disk_of c.args.scanning.now) (disk_of c.steps.scanning) (disk_of c.read_next.new.scanning) (c.steps.invariant.rests told)
          (c.read_next.ensures.rests told);
      faults = c.in_ok-read_next.ensures.still ∙ c.steps.invariant.faults;
    }

pub returns-in_err-read_next-clause-rests : goal.returns-in_err-read_next-clause-rests
returns-in_err-read_next-clause-rests g c = λ told.
    rests_on g.D.Disk (disk_of c.args.scanning.now) (disk_of c.steps.scanning) (disk_of c.read_next.new.scanning) (c.steps.invariant.rests told) (c.read_next.ensures.rests told)

pub returns-clause-rests : goal.returns-clause-rests
returns-clause-rests g c = λ told.
    rests_on g.D.Disk (disk_of c.args.scanning.now) (disk_of c.steps.scanning) (disk_of c.read_next.new.scanning) (c.steps.invariant.rests told) (c.read_next.ensures.rests told)

pub returns-clause-whole : goal.returns-clause-whole
returns-clause-whole g c = λ reads.
    subst (ReadsWholeOn g.D.Disk c.read_next.new.scanning c.read_next.new.gathered) c.if-branch.false (c.in_ok-read_next.ensures.whole (c.steps.invariant.whole reads))

pub returns-clause-counts : goal.returns-clause-counts
returns-clause-counts g c = λ told.
    (subst (CountsOnTo (g.D.Disk.reading (disk_of c.read_next.new.scanning)) (position_of c.read_next.new.scanning) (book_of c.read_next.new.gathered.held)) c.if-branch.false
    (c.in_ok-read_next.ensures.counts told)).0

pub returns-clause-ends : goal.returns-clause-ends
returns-clause-ends g c = λ told.
    (subst (CountsOnTo (g.D.Disk.reading (disk_of c.read_next.new.scanning)) (position_of c.read_next.new.scanning) (book_of c.read_next.new.gathered.held)) c.if-branch.false
    (c.in_ok-read_next.ensures.counts told)).1

pub returns-in_err-read_next-clause-borne_out : goal.returns-in_err-read_next-clause-borne_out
returns-in_err-read_next-clause-borne_out g c = λ tells.
    exit_by (IsBorneOut (g.D.Disk.reading (disk_of c.args.scanning.now))) c.in_err-read_next.field-0.0 c.from_residual.result c.from_residual.ensures.1
    (subst (λ (i : Image). IsBorneOut i c.in_err-read_next.field-0.0) (c.steps.invariant.rests tells).read (c.in_err-read_next.ensures.borne_out tells))

pub returns-clause-all : goal.returns-clause-all
returns-clause-all g c =
    (subst (TellsOn g.D.Disk c.args.known.now.value c.steps.scanning c.read_next.new.scanning c.read_next.new.gathered) c.if-branch.false c.in_ok-read_next.ensures.tells).0

pub returns-clause-done : goal.returns-clause-done
returns-clause-done g c =
    (subst (TellsOn g.D.Disk c.args.known.now.value c.steps.scanning c.read_next.new.scanning c.read_next.new.gathered) c.if-branch.false c.in_ok-read_next.ensures.tells).1

pub returns-clause-steady : goal.returns-clause-steady
returns-clause-steady g c =
    (subst (TellsOn g.D.Disk c.args.known.now.value c.steps.scanning c.read_next.new.scanning c.read_next.new.gathered) c.if-branch.false c.in_ok-read_next.ensures.tells).2

pub returns-in_err-read_next-clause-refused : goal.returns-in_err-read_next-clause-refused
returns-in_err-read_next-clause-refused g c =
    exit_by (IsKnownRefusal c.args.known.now.value) c.in_err-read_next.field-0.0 c.from_residual.result c.from_residual.ensures.1 c.in_err-read_next.ensures.refused

pub returns-in_err-read_next-clause-damage : goal.returns-in_err-read_next-clause-damage
returns-in_err-read_next-clause-damage g c = λ reads.
    exit_by (IsReadRefusal (files_in g.D.Disk c.args.scanning.now)) c.in_err-read_next.field-0.0 c.from_residual.result c.from_residual.ensures.1
    (subst (λ (i : Image). IsReadRefusal (warc_files i) c.in_err-read_next.field-0.0) (c.steps.invariant.rests reads.tells).read
    (c.in_err-read_next.ensures.damage (c.steps.invariant.whole reads)))

pub returns-in_err-read_next-clause-cause : goal.returns-in_err-read_next-clause-cause
returns-in_err-read_next-clause-cause g c =
    exit_by (IsCause None) c.in_err-read_next.field-0.0 c.from_residual.result c.from_residual.ensures.1 c.in_err-read_next.ensures.cause

pub returns-in_err-read_next-clause-faults : goal.returns-in_err-read_next-clause-faults
returns-in_err-read_next-clause-faults g c =
    let d = g.D.Disk in
    let now = d.faults (disk_of c.read_next.new.scanning) in
    exit_by (CountsFault (d.faults (disk_of c.args.scanning.now)) now) c.in_err-read_next.field-0.0 c.from_residual.result c.from_residual.ensures.1
    (subst (λ (n : ℕ). CountsFault n now c.in_err-read_next.field-0.0) c.steps.invariant.faults c.in_err-read_next.ensures.faults)
