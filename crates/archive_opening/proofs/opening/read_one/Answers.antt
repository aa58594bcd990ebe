use Rattle.std.proofs.Common.{rules, ℕ, sym, subst}
use Rattle.std.specs.Prelude.{IfErr}
use Rattle.std.specs.Prelude.{None}
use Rattle.volume_scan.specs.Scannings.{disk_of, files_in}
use Rattle.archive_shelf.specs.declared.fault.ReopenFault.{ReopenFault}
use Rattle.archive_opening.proofs.FollowingLaws.{damage_of_scan}
use Rattle.archive_opening.proofs.StepLaws.{damage_by, reads_by}
use Rattle.archive_opening.specs.Opening.{IsReadRefusal}
use Rattle.archive_gathering.specs.Refusing.{CountsFault}
use Rattle.archive_opening.proofs.opening.read_one.Goals as goal

pub returns-in-Ok-clause-reads : goal.returns-in-Ok-clause-reads
returns-in-Ok-clause-reads g c =
    let d = g.D.Disk in
    let follows = c.requires.follows in
    reads_by d c.args.scanning.now c.step.new.self c.args.gathered.now c.gather.new.self follows c.step.ensures.rests c.step.ensures.count
    (search rules) c.in-Ok.found c.gather.result c.in-Ok.ensures.finds (c.gather.ensures.gathers None follows.texts follows.gathered) c.gather.ensures.steady

pub returns-in-Ok-clause-damage : goal.returns-in-Ok-clause-damage
returns-in-Ok-clause-damage g c =
    let d = g.D.Disk in
    let follows = c.requires.follows in
    damage_by d c.args.scanning.now c.step.new.self c.args.gathered.now c.gather.new.self follows c.requires.in_place c.step.ensures.in_place
    c.files_begin_with_what_was_read.ensures c.damaged_files_stand_for_no_book.ensures c.step.ensures.rests c.in-Ok.found c.gather.result c.in-Ok.ensures.finds
    (c.gather.ensures.refused None follows.texts follows.gathered)

pub returns-in-Err-Damaged-clause-damage : goal.returns-in-Err-Damaged-clause-damage
returns-in-Err-Damaged-clause-damage g c = λ told.
    let d = g.D.Disk in
    let same = rw c.in-Err-Damaged.field-0-is at c.damaged.ensures in
    let damage = rw c.in-Err-Damaged.field-0-is at c.in-Err-Damaged.ensures.damage in
    subst (λ (r : ReopenFault). IsReadRefusal (files_in d c.args.scanning.now) r) (sym same)
    (damage_of_scan d c.args.scanning.now c.args.gathered.now c.requires.follows c.requires.in_place c.files_begin_with_what_was_read.ensures
    c.damaged_files_stand_for_no_book.ensures told c.in-Err-Damaged.file c.in-Err-Damaged.place (damage told))

pub returns-in-Ok-clause-faults : goal.returns-in-Ok-clause-faults
returns-in-Ok-clause-faults g c =
    let d = g.D.Disk in
    subst (λ (n : ℕ). IfErr c.gather.result (CountsFault n (d.faults (disk_of c.step.new.self)))) (search rules) (c.gather.ensures.still (d.faults (disk_of c.step.new.self)))
