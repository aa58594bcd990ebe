use Rattle.std.proofs.Common.{ℕ, sym, subst, ◌∙◌}
use Rattle.disk_model.specs.Image.{Image}
use Rattle.volume_scan.specs.Scannings.{disk_of}
use Rattle.warc_journal.specs.Extents.{warc_files}
use Rattle.archive_opening.specs.Opening.{IsReadRefusal, IsDamageIn, IsOtherIn}
use Rattle.archive_opening.proofs.FirstLaws.{follows_first}
use Rattle.archive_opening.proofs.FollowingLaws.{rests_on}
use Rattle.archive_opening.proofs.OpenedLaws.{cause_from, damage_from, opened_from, other_by, refused_on}
use Rattle.std.specs.Prelude.{IfErr}
use Rattle.archive_shelf.specs.declared.fault.ReopenFault.{ReopenFault}
use Rattle.archive_opening.proofs.EndLaws.{given_back_by}
use Rattle.archive_gathering.specs.Refusing.{CountsFault}
use Rattle.warc_journal.specs.Journals.{Rests}
use Rattle.archive_opening.proofs.opening.open_volumes.Goals as goal

pub read_all-requires-clause-follows : goal.read_all-requires-clause-follows
read_all-requires-clause-follows g c =
    follows_first g.D.Disk c.in-Ok.scanning c.in_namespace-gathered.result c.in-Ok.ensures.begins c.in_namespace-gathered.ensures.gathered

pub returns-in-Ok-read_all-clause-opened : goal.returns-in-Ok-read_all-clause-opened
returns-in-Ok-read_all-clause-opened g c =
    let d = g.D.Disk in
    opened_from d c.args.disk (disk_of c.read_all.new.scanning) c.args.asked.now c.finish.result
    (λ told. rests_on d c.args.disk (disk_of c.in-Ok.scanning) (disk_of c.read_all.new.scanning) (c.in-Ok.ensures.rests told) (c.read_all.ensures.rests told))
    (c.in-Ok-read_all.ensures.steady ∙ c.in-Ok.ensures.steady) c.finish.ensures.opened

pub returns-in-Err-read_all-clause-other : goal.returns-in-Err-read_all-clause-other
returns-in-Err-read_all-clause-other g c = λ told.
    other_by (warc_files (g.D.Disk.reading c.args.disk)) c.args.asked.now c.in-Err-read_all.fault
    (subst (λ (i : Image). IsReadRefusal (warc_files i) c.in-Err-read_all.fault) (c.in-Ok.ensures.rests told).read (c.in-Err-read_all.ensures.damage told))

pub returns-in-Err-read_all-clause-damage : goal.returns-in-Err-read_all-clause-damage
returns-in-Err-read_all-clause-damage g c = λ told.
    damage_from (warc_files (g.D.Disk.reading c.args.disk)) c.in-Err-read_all.fault
    (subst (λ (i : Image). IsReadRefusal (warc_files i) c.in-Err-read_all.fault) (c.in-Ok.ensures.rests told).read (c.in-Err-read_all.ensures.damage told))

pub returns-in-Err-read_all-clause-cause : goal.returns-in-Err-read_all-clause-cause
returns-in-Err-read_all-clause-cause g c = cause_from c.args.asked.now c.in-Err-read_all.fault c.in-Err-read_all.ensures.cause

pub returns-in-Ok-read_all-clause-damage : goal.returns-in-Ok-read_all-clause-damage
returns-in-Ok-read_all-clause-damage g c =
    let d = g.D.Disk in
    refused_on d c.args.disk (disk_of c.read_all.new.scanning) (λ (i : Image) (f : ReopenFault). IsDamageIn (warc_files i) f) c.finish.result
    (λ told. rests_on d c.args.disk (disk_of c.in-Ok.scanning) (disk_of c.read_all.new.scanning) (c.in-Ok.ensures.rests told) (c.read_all.ensures.rests told))
    c.finish.ensures.damage

pub returns-in-Ok-read_all-clause-other : goal.returns-in-Ok-read_all-clause-other
returns-in-Ok-read_all-clause-other g c =
    let d = g.D.Disk in
    refused_on d c.args.disk (disk_of c.read_all.new.scanning) (λ (i : Image) (f : ReopenFault). IsOtherIn (warc_files i) c.args.asked.now f) c.finish.result
    (λ told. rests_on d c.args.disk (disk_of c.in-Ok.scanning) (disk_of c.read_all.new.scanning) (c.in-Ok.ensures.rests told) (c.read_all.ensures.rests told))
    c.finish.ensures.other

pub returns-in-Ok-read_all-clause-given_back : goal.returns-in-Ok-read_all-clause-given_back
returns-in-Ok-read_all-clause-given_back g c =
    let d = g.D.Disk in
    given_back_by d c.args.disk (disk_of c.read_all.new.scanning) c.finish.result
    (λ told. rests_on d c.args.disk (disk_of c.in-Ok.scanning) (disk_of c.read_all.new.scanning) (c.in-Ok.ensures.rests told) (c.read_all.ensures.rests told))
    c.finish.ensures.given_back

pub returns-in-Ok-read_all-clause-faults : goal.returns-in-Ok-read_all-clause-faults
returns-in-Ok-read_all-clause-faults g c =
    let d = g.D.Disk in
    subst (λ (n : ℕ). IfErr c.finish.result (λ refused. CountsFault n (d.faults refused.1) refused.0)) (c.in-Ok-read_all.ensures.steady ∙ c.in-Ok.ensures.steady) c.finish.ensures.faults

pub returns-in-Err-read_all-clause-given_back : goal.returns-in-Err-read_all-clause-given_back
returns-in-Err-read_all-clause-given_back g c = λ told.
    let d = g.D.Disk in
    subst (Rests d c.args.disk) (sym c.into_disk.ensures)
    (rests_on d c.args.disk (disk_of c.in-Ok.scanning) (disk_of c.read_all.new.scanning) (c.in-Ok.ensures.rests told) (c.read_all.ensures.rests told))

pub returns-in-Err-read_all-clause-faults : goal.returns-in-Err-read_all-clause-faults
returns-in-Err-read_all-clause-faults g c =
    let d = g.D.Disk in
    subst (λ (x : _). CountsFault (d.faults c.args.disk) (d.faults x) c.in-Err-read_all.fault) (sym c.into_disk.ensures)
    (subst (λ (n : ℕ). CountsFault n (d.faults (disk_of c.read_all.new.scanning)) c.in-Err-read_all.fault) c.in-Ok.ensures.steady c.in-Err-read_all.ensures.faults)
