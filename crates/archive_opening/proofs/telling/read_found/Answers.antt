use Rattle.std.proofs.Common.{rules, ℕ, sym, subst}
use Rattle.std.specs.Prelude.{IfSome, Option, Some, None}
use Rattle.capture.specs.declared.book.Book.{Book}
use Rattle.volume_scan.specs.Scannings.{disk_of, files_in, position_of, texts as texts_read}
use Rattle.archive_volumes.specs.Held.{book_of}
use Rattle.archive_opening.specs.Counting.{CountsTo}
use Rattle.archive_opening.proofs.CountLaws.{counts_by}
use Rattle.archive_shelf.specs.declared.fault.ReopenFault.{ReopenFault}
use Rattle.archive_opening.specs.Opening.{IsOutside, IsReadRefusal}
use Rattle.archive_gathering.specs.Refusing.{CountsFault}
use Rattle.archive_opening.specs.Refusing.{IsBorneOut}
use Rattle.archive_opening.specs.Telling.{IsKnownRefusal, IsTold, ReadsWholeTo, StepsOn}
use Rattle.archive_opening.proofs.FollowingLaws.{damage_of_scan}
use Rattle.archive_opening.proofs.StepLaws.{refused_by}
use Rattle.archive_opening.proofs.TellLaws.{outside_by, steps_by, undamaged}
use Rattle.archive_opening.proofs.WholeLaws.{whole_step}
use Rattle.archive_opening.proofs.BorneOutLaws.{found_borne_out, scan_borne_out}
use Rattle.archive_opening.proofs.telling.read_found.Goals as goal

pub returns-in-Ok-gather-clause-steps : goal.returns-in-Ok-gather-clause-steps
returns-in-Ok-gather-clause-steps g c =
    let d = g.D.Disk in
    subst (StepsOn d c.args.known.now.value c.args.scanning.now c.step.new.self c.gather.new.self) (sym c.step_to-step.ensures.step)
    (steps_by d c.args.known.now.value c.args.scanning.now c.step.new.self c.args.gathered.now c.gather.new.self c.requires.goes c.requires.in_place
    c.step.ensures.in_place c.step.ensures.rests c.files_begin_with_what_was_read.ensures c.step.ensures.count (search rules) c.in-Ok.found _
    c.in-Ok.ensures.finds c.in-Ok-gather.ensures.shapes (search rules) (λ b ts gathered. c.in-Ok-gather.ensures.gathers (Some b) ts gathered) c.in-Ok-gather.ensures.steady)

pub returns-in-Ok-gather-clause-counts : goal.returns-in-Ok-gather-clause-counts
returns-in-Ok-gather-clause-counts g c = λ tells.
    let d = g.D.Disk in
    let new = c.step.new.self in
    subst (CountsTo (d.reading (disk_of new)) (position_of new) (book_of c.gather.new.self.held)) (sym c.step_to-step.ensures.step)
    (counts_by d c.args.known.now.value c.args.scanning.now new c.args.gathered.now c.gather.new.self c.requires.goes c.requires.in_place
    c.step.ensures.in_place (c.step.ensures.rests tells) tells c.files_begin_with_what_was_read.ensures (c.requires.counts tells) c.in-Ok.found _
    c.in-Ok.ensures.finds c.in-Ok-gather.ensures.shapes)

pub returns-in-Err-clause-refused : goal.returns-in-Err-clause-refused
returns-in-Err-clause-refused g c = by c.args.known.now.value c.requires.goes.told
  where
    by : (k : Option Book) → IfSome k (λ b. IsTold g.D.Disk b c.args.scanning.now c.args.gathered.now) → IsKnownRefusal k c.in-Err.fault
    by None told = tt
    by (Some b) told =
        outside_by g.D.Disk c.args.known.now.value c.args.scanning.now c.step.new.self c.args.gathered.now c.gather.new.self c.requires.goes c.requires.in_place
        c.step.ensures.in_place c.step.ensures.rests c.files_begin_with_what_was_read.ensures c.in-Ok.found c.in-Err.fault c.in-Ok.ensures.finds b told
        (c.in-Err.ensures.refused (Some b) (texts_read g.D.Disk c.args.scanning.now) told.gathered)

pub returns-in-Err-clause-faults : goal.returns-in-Err-clause-faults
returns-in-Err-clause-faults g c =
    let d = g.D.Disk in
    subst (λ (n : ℕ). CountsFault n (d.faults (disk_of c.step.new.self)) c.in-Err.fault) (search rules) (c.in-Err.ensures.still (d.faults (disk_of c.step.new.self)))

pub returns-in-Err-Damaged-clause-refused : goal.returns-in-Err-Damaged-clause-refused
returns-in-Err-Damaged-clause-refused g c =
    let damage = rw c.in-Err-Damaged.field-0-is at c.in-Err-Damaged.ensures.damage in
    by c.args.known.now.value c.requires.goes.told (λ b told. absurd (undamaged g.D.Disk c.args.known.now.value c.args.scanning.now c.args.gathered.now c.requires.goes
    c.requires.in_place c.files_begin_with_what_was_read.ensures b told c.damaged_files_stand_for_no_book.ensures
    c.damage_behind_a_skipped_volume_is_of_no_book.ensures c.in-Err-Damaged.file c.in-Err-Damaged.place (damage told.tells)))
  where
    by : (k : Option Book) → IfSome k (λ b. IsTold g.D.Disk b c.args.scanning.now c.args.gathered.now)
        → ((b : Book) → IsTold g.D.Disk b c.args.scanning.now c.args.gathered.now → IsOutside c.damaged.result) → IsKnownRefusal k c.damaged.result
    by None told none = tt
    by (Some b) told none = none b told

pub returns-in-Ok-gather-clause-whole : goal.returns-in-Ok-gather-clause-whole
returns-in-Ok-gather-clause-whole g c = λ reads.
    let d = g.D.Disk in
    subst (ReadsWholeTo d c.step.new.self c.gather.new.self) (sym c.step_to-step.ensures.step)
    (whole_step d c.args.scanning.now c.step.new.self c.args.gathered.now c.gather.new.self reads c.step.ensures.rests c.in-Ok.found _
    c.in-Ok.ensures.finds (c.in-Ok-gather.ensures.gathers None reads.follows.texts reads.follows.gathered))

pub returns-in-Err-clause-damage : goal.returns-in-Err-clause-damage
returns-in-Err-clause-damage g c = λ reads.
    refused_by g.D.Disk c.args.scanning.now c.step.new.self c.args.gathered.now c.gather.new.self reads.follows c.requires.in_place c.step.ensures.in_place
    c.files_begin_with_what_was_read.ensures c.damaged_files_stand_for_no_book.ensures c.step.ensures.rests reads.tells c.in-Ok.found c.in-Err.fault
    c.in-Ok.ensures.finds (c.in-Err.ensures.refused None reads.follows.texts reads.follows.gathered)

pub returns-in-Err-Damaged-clause-damage : goal.returns-in-Err-Damaged-clause-damage
returns-in-Err-Damaged-clause-damage g c = λ reads.
    let d = g.D.Disk in
    let same = rw c.in-Err-Damaged.field-0-is at c.damaged.ensures in
    let damage = rw c.in-Err-Damaged.field-0-is at c.in-Err-Damaged.ensures.damage in
    subst (λ (r : ReopenFault). IsReadRefusal (files_in d c.args.scanning.now) r) (sym same)
    (damage_of_scan d c.args.scanning.now c.args.gathered.now reads.follows c.requires.in_place c.files_begin_with_what_was_read.ensures
    c.damaged_files_stand_for_no_book.ensures reads.tells c.in-Err-Damaged.file c.in-Err-Damaged.place (damage reads.tells))

pub returns-in-Err-clause-borne_out : goal.returns-in-Err-clause-borne_out
returns-in-Err-clause-borne_out g c = λ tells.
    found_borne_out g.D.Disk c.args.known.now.value c.args.scanning.now c.args.gathered.now c.requires.goes c.requires.in_place tells (c.requires.counts tells)
    c.step.new.self c.gather.new.self c.step.ensures.in_place (c.step.ensures.rests tells) c.files_begin_with_what_was_read.ensures c.in-Ok.found c.in-Ok.ensures.finds
    c.in-Err.fault c.in-Err.ensures.unfit

pub returns-in-Err-Damaged-clause-borne_out : goal.returns-in-Err-Damaged-clause-borne_out
returns-in-Err-Damaged-clause-borne_out g c = λ tells.
    let d = g.D.Disk in
    let same = rw c.in-Err-Damaged.field-0-is at c.damaged.ensures in
    let damage = rw c.in-Err-Damaged.field-0-is at c.in-Err-Damaged.ensures.damage in
    subst (IsBorneOut (d.reading (disk_of c.args.scanning.now))) (sym same)
    (scan_borne_out d c.args.known.now.value c.args.scanning.now c.args.gathered.now c.requires.goes c.requires.in_place tells (c.requires.counts tells)
    c.in-Err-Damaged.file c.in-Err-Damaged.place (damage tells))
