use Rattle.std.proofs.Common.{ℕ, sym, subst, ◌∙◌}
use Rattle.std.specs.Prelude.{IfErr, IfOk, IfSome, IsTrue, None, Option}
use Rattle.capture.specs.declared.book.Book.{Book}
use Rattle.disk_model.specs.Image.{Image}
use Rattle.volume_scan.specs.Scannings.{disk_of, position_of}
use Rattle.archive_volumes.specs.Held.{book_of}
use Rattle.archive_opening.specs.Counting.{HasCountsOf, LastEndsAt}
use Rattle.warc_journal.specs.Journals.{last_len, Rests}
use Rattle.archive_opening.proofs.LinedLaws.{counts_first}
use Rattle.warc_journal.specs.Extents.{warc_files}
use Rattle.archive_opening.specs.Opening.{IsDamageIn, IsOtherIn, IsReadRefusal, IsOutside}
use Rattle.archive_opening.specs.Refusing.{IsBorneOut}
use Rattle.archive_opening.specs.Telling.{GoesWith, IsAskedFor, IsOpenedBy, ReadsWhole, IsKnownRefusal, known_to}
use Rattle.archive_opening.proofs.EndLaws.{given_back_by, opened_by_on, other_in, synced_by}
use Rattle.archive_opening.proofs.FirstLaws.{asked_first, goes_first, settled_first, whole_first}
use Rattle.archive_opening.proofs.FollowingLaws.{rests_on}
use Rattle.archive_opening.proofs.OpenedLaws.{damage_from, opened_from, cause_from, cause_outside, other_by}
use Rattle.archive_opening.proofs.WholeLaws.{outside_known, outside_refuses}
use Rattle.archive_gathering.specs.Refusing.{CountsFault}
use Rattle.archive_opening.proofs.telling.open_by_checkpoints.Goals as goal

pub read_each-requires-clause-goes : goal.read_each-requires-clause-goes
read_each-requires-clause-goes g c =
    let d = g.D.Disk in
    subst (λ (o : Option Book). GoesWith d o c.in-Ok.scanning c.in_namespace-gathered.result) (sym c.told_by-sure.ensures)
    (goes_first d c.in-Ok.scanning c.in_namespace-gathered.result c.in-Ok.ensures.begins c.in_namespace-gathered.ensures.gathered _
    (settled_first d c.args.disk c.in-Ok.scanning c.args.asked.now c.args.known.now.value c.in-Ok.ensures.rests c.requires.known))

pub read_each-requires-clause-counts : goal.read_each-requires-clause-counts
read_each-requires-clause-counts g c = λ tells.
    counts_first (g.D.Disk.reading (disk_of c.in-Ok.scanning)) (position_of c.in-Ok.scanning) (book_of c.in_namespace-gathered.result.held)
    (sym (c.in_namespace-gathered.ensures.gathered None).read.are.count)

pub returns-in-Ok-read_each-clause-counts : goal.returns-in-Ok-read_each-clause-counts
returns-in-Ok-read_each-clause-counts g c = λ tells.
    let d = g.D.Disk in
    let rests = rests_on d c.args.disk (disk_of c.in-Ok.scanning) (disk_of c.read_each.new.scanning) (c.in-Ok.ensures.rests tells) (c.read_each.ensures.rests tells) in
    subst (λ (i : Image). IfOk c.finish.result (λ opened. HasCountsOf i (book_of opened.gathered.held))) rests.read (c.finish.ensures.counts tells)

pub returns-in-Ok-read_each-clause-ends : goal.returns-in-Ok-read_each-clause-ends
returns-in-Ok-read_each-clause-ends g c = λ tells.
    let d = g.D.Disk in
    let rests = rests_on d c.args.disk (disk_of c.in-Ok.scanning) (disk_of c.read_each.new.scanning) (c.in-Ok.ensures.rests tells) (c.read_each.ensures.rests tells) in
    subst (λ (i : Image). IfOk c.finish.result (λ opened. LastEndsAt i (book_of opened.gathered.held) (last_len opened.journal))) rests.read (c.finish.ensures.ends tells)

pub finish-requires-clause-asked_for : goal.finish-requires-clause-asked_for
finish-requires-clause-asked_for g c =
    subst (λ (o : Option Book). IfSome o (IsAskedFor c.args.asked.now)) (sym c.told_by-sure.ensures)
    (asked_first g.D.Disk c.args.disk c.args.asked.now c.args.known.now.value c.requires.known)

pub returns-in-Ok-read_each-clause-opened : goal.returns-in-Ok-read_each-clause-opened
returns-in-Ok-read_each-clause-opened g c =
    let d = g.D.Disk in
    subst (λ (o : Option Book). IfOk c.finish.result (IsOpenedBy d c.args.disk c.args.asked.now o)) c.told_by-sure.ensures
    (opened_by_on d c.args.disk (disk_of c.read_each.new.scanning) c.args.asked.now c.told_by-sure.result.value c.finish.result
    (λ told. rests_on d c.args.disk (disk_of c.in-Ok.scanning) (disk_of c.read_each.new.scanning) (c.in-Ok.ensures.rests told) (c.read_each.ensures.rests told))
    (c.in-Ok-read_each.ensures.still ∙ c.in-Ok.ensures.steady) c.finish.ensures.opened)

pub returns-in-Ok-read_each-clause-whole : goal.returns-in-Ok-read_each-clause-whole
returns-in-Ok-read_each-clause-whole g c = λ tells whole.
    let d = g.D.Disk in
    let reads : ReadsWhole d c.in-Ok.scanning c.in_namespace-gathered.result =
    whole_first d c.in-Ok.scanning c.in_namespace-gathered.result c.in-Ok.ensures.begins c.in_namespace-gathered.ensures.gathered c.args.disk
    c.in-Ok.ensures.rests tells whole in
    opened_from d c.args.disk (disk_of c.read_each.new.scanning) c.args.asked.now c.finish.result
    (λ told. rests_on d c.args.disk (disk_of c.in-Ok.scanning) (disk_of c.read_each.new.scanning) (c.in-Ok.ensures.rests told) (c.read_each.ensures.rests told))
    (c.in-Ok-read_each.ensures.still ∙ c.in-Ok.ensures.steady) (c.finish.ensures.whole (c.in-Ok-read_each.ensures.whole reads))

pub returns-clause-damage : goal.returns-clause-damage
returns-clause-damage g c = λ tells whole.
    let d = g.D.Disk in
    let reads : ReadsWhole d c.in-Ok.scanning c.in_namespace-gathered.result =
    whole_first d c.in-Ok.scanning c.in_namespace-gathered.result c.in-Ok.ensures.begins c.in_namespace-gathered.ensures.gathered c.args.disk
    c.in-Ok.ensures.rests tells whole in
    damage_from (warc_files (d.reading c.args.disk)) c.in-Err-read_each.fault
    (subst (λ (i : Image). IsReadRefusal (warc_files i) c.in-Err-read_each.fault) (c.in-Ok.ensures.rests tells).read (c.in-Err-read_each.ensures.damage reads))

pub returns-in-Ok-read_each-clause-synced : goal.returns-in-Ok-read_each-clause-synced
returns-in-Ok-read_each-clause-synced g c =
    synced_by g.D.Disk c.args.disk (disk_of c.in-Ok.scanning) (disk_of c.read_each.new.scanning) c.args.asked.now c.told_by-sure.result.value c.finish.result
    c.in-Ok.ensures.synced c.read_each.ensures.rests c.finish.ensures.opened

pub returns-in-Ok-read_each-clause-given_back : goal.returns-in-Ok-read_each-clause-given_back
returns-in-Ok-read_each-clause-given_back g c =
    given_back_by g.D.Disk c.args.disk (disk_of c.read_each.new.scanning) c.finish.result
    (λ told. rests_on g.D.Disk c.args.disk (disk_of c.in-Ok.scanning) (disk_of c.read_each.new.scanning) (c.in-Ok.ensures.rests told) (c.read_each.ensures.rests told))
    c.finish.ensures.given_back

pub returns-in-Ok-read_each-clause-damage : goal.returns-in-Ok-read_each-clause-damage
returns-in-Ok-read_each-clause-damage g c = λ tells whole.
    let d = g.D.Disk in
    let reads : ReadsWhole d c.in-Ok.scanning c.in_namespace-gathered.result =
    whole_first d c.in-Ok.scanning c.in_namespace-gathered.result c.in-Ok.ensures.begins c.in_namespace-gathered.ensures.gathered c.args.disk
    c.in-Ok.ensures.rests tells whole in
    let rests = rests_on d c.args.disk (disk_of c.in-Ok.scanning) (disk_of c.read_each.new.scanning) (c.in-Ok.ensures.rests tells) (c.read_each.ensures.rests tells) in
    subst (λ (i : Image). IfErr c.finish.result (λ refused. IsDamageIn (warc_files i) refused.0)) rests.read
    (c.finish.ensures.damage (c.in-Ok-read_each.ensures.whole reads))

pub returns-in-Ok-read_each-clause-other : goal.returns-in-Ok-read_each-clause-other
returns-in-Ok-read_each-clause-other g c = λ tells whole.
    let d = g.D.Disk in
    let reads : ReadsWhole d c.in-Ok.scanning c.in_namespace-gathered.result =
    whole_first d c.in-Ok.scanning c.in_namespace-gathered.result c.in-Ok.ensures.begins c.in_namespace-gathered.ensures.gathered c.args.disk
    c.in-Ok.ensures.rests tells whole in
    let rests = rests_on d c.args.disk (disk_of c.in-Ok.scanning) (disk_of c.read_each.new.scanning) (c.in-Ok.ensures.rests tells) (c.read_each.ensures.rests tells) in
    other_in d (warc_files (d.reading c.args.disk)) c.args.asked.now c.finish.result tells
    (subst (λ (i : Image). IfErr c.finish.result (λ refused. IsTrue d.tells → IsOtherIn (warc_files i) c.args.asked.now refused.0)) rests.read
    (c.finish.ensures.other (c.in-Ok-read_each.ensures.whole reads)))

pub returns-in-Err-clause-borne_out : goal.returns-in-Err-clause-borne_out
returns-in-Err-clause-borne_out g c = λ tells. subst (IsBorneOut (g.D.Disk.reading c.args.disk)) (sym c.in-Err.ensures.refused) tt

pub returns-in-Ok-read_each-clause-borne_out : goal.returns-in-Ok-read_each-clause-borne_out
returns-in-Ok-read_each-clause-borne_out g c = λ tells.
    let d = g.D.Disk in
    let rests = rests_on d c.args.disk (disk_of c.in-Ok.scanning) (disk_of c.read_each.new.scanning) (c.in-Ok.ensures.rests tells) (c.read_each.ensures.rests tells) in
    subst (λ (i : Image). IfErr c.finish.result (λ refused. IsBorneOut i refused.0)) rests.read (c.finish.ensures.borne_out tells)

pub returns-clause-borne_out : goal.returns-clause-borne_out
returns-clause-borne_out g c = λ tells.
    subst (λ (i : Image). IsBorneOut i c.in-Err-read_each.fault) (c.in-Ok.ensures.rests tells).read (c.in-Err-read_each.ensures.borne_out tells)

pub returns-in-Err-clause-refused : goal.returns-in-Err-clause-refused
returns-in-Err-clause-refused g c =
    outside_known (known_to g.D.Disk.tells c.args.known.now.value) c.in-Err.refused.0 (subst IsOutside (sym c.in-Err.ensures.refused) tt)

pub returns-in-Err-clause-damage : goal.returns-in-Err-clause-damage
returns-in-Err-clause-damage g c = λ tells whole.
    let files = warc_files (g.D.Disk.reading c.args.disk) in
    damage_from files c.in-Err.refused.0 (outside_refuses files c.in-Err.refused.0 (subst IsOutside (sym c.in-Err.ensures.refused) tt))

pub returns-in-Err-clause-other : goal.returns-in-Err-clause-other
returns-in-Err-clause-other g c = λ tells whole.
    let files = warc_files (g.D.Disk.reading c.args.disk) in
    other_by files c.args.asked.now c.in-Err.refused.0 (outside_refuses files c.in-Err.refused.0 (subst IsOutside (sym c.in-Err.ensures.refused) tt))

pub returns-in-Err-clause-cause : goal.returns-in-Err-clause-cause
returns-in-Err-clause-cause g c = cause_outside c.args.asked.now c.in-Err.refused.0 (subst IsOutside (sym c.in-Err.ensures.refused) tt)

pub returns-in-Err-clause-faults : goal.returns-in-Err-clause-faults
returns-in-Err-clause-faults g c =
    let d = g.D.Disk in
    subst (CountsFault (d.faults c.args.disk) (d.faults c.in-Err.refused.1)) (sym c.in-Err.ensures.refused) c.in-Err.ensures.rose

pub returns-in-Ok-read_each-clause-refused : goal.returns-in-Ok-read_each-clause-refused
returns-in-Ok-read_each-clause-refused g c =
    subst (λ (o : Option Book). IfErr c.finish.result (λ refused. IsKnownRefusal o refused.0)) c.told_by-sure.ensures c.finish.ensures.refused

pub returns-in-Ok-read_each-clause-faults : goal.returns-in-Ok-read_each-clause-faults
returns-in-Ok-read_each-clause-faults g c =
    let d = g.D.Disk in
    subst (λ (n : ℕ). IfErr c.finish.result (λ refused. CountsFault n (d.faults refused.1) refused.0)) (c.in-Ok-read_each.ensures.still ∙ c.in-Ok.ensures.steady) c.finish.ensures.faults

pub returns-clause-refused : goal.returns-clause-refused
returns-clause-refused g c = subst (λ (o : Option Book). IsKnownRefusal o c.in-Err-read_each.fault) c.told_by-sure.ensures c.in-Err-read_each.ensures.refused

pub returns-clause-other : goal.returns-clause-other
returns-clause-other g c = λ tells whole.
    let d = g.D.Disk in
    let reads : ReadsWhole d c.in-Ok.scanning c.in_namespace-gathered.result =
    whole_first d c.in-Ok.scanning c.in_namespace-gathered.result c.in-Ok.ensures.begins c.in_namespace-gathered.ensures.gathered c.args.disk
    c.in-Ok.ensures.rests tells whole in
    other_by (warc_files (d.reading c.args.disk)) c.args.asked.now c.in-Err-read_each.fault
    (subst (λ (i : Image). IsReadRefusal (warc_files i) c.in-Err-read_each.fault) (c.in-Ok.ensures.rests tells).read (c.in-Err-read_each.ensures.damage reads))

pub returns-clause-cause : goal.returns-clause-cause
returns-clause-cause g c = cause_from c.args.asked.now c.in-Err-read_each.fault c.in-Err-read_each.ensures.cause

pub returns-clause-given_back : goal.returns-clause-given_back
returns-clause-given_back g c = λ told.
    let d = g.D.Disk in
    subst (Rests d c.args.disk) (sym c.into_disk.ensures)
    (rests_on d c.args.disk (disk_of c.in-Ok.scanning) (disk_of c.read_each.new.scanning) (c.in-Ok.ensures.rests told) (c.read_each.ensures.rests told))

pub returns-clause-faults : goal.returns-clause-faults
returns-clause-faults g c =
    let d = g.D.Disk in
    subst (λ (x : _). CountsFault (d.faults c.args.disk) (d.faults x) c.in-Err-read_each.fault) (sym c.into_disk.ensures)
    (subst (λ (n : ℕ). CountsFault n (d.faults (disk_of c.read_each.new.scanning)) c.in-Err-read_each.fault) c.in-Ok.ensures.steady c.in-Err-read_each.ensures.faults)
