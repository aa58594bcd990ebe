use Rattle.volume_scan.specs.Scannings.{disk_of, files_in, position_of}
use Rattle.archive_opening.proofs.FollowingLaws.{rests_on}
use Rattle.archive_opening.proofs.BorneOutLaws.{outside_borne_out}
use Rattle.std.proofs.Common.{true, ℕ, subst, ◌∙◌, ◌<◌, ◌-◌, ◌^◌, arith}
use Rattle.std.specs.Prelude.{None}
use Rattle.archive_volumes.specs.Held.{book_of}
use Rattle.archive_opening.proofs.OpenedLaws.{cause_outside}
use Rattle.archive_opening.proofs.WholeLaws.{outside_known, outside_refuses}
use Rattle.archive_gathering.specs.Refusing.{CountsFault}
use Rattle.archive_opening.proofs.telling.read_next.Goals as goal

pub returns-in-Ok-clause-rests : goal.returns-in-Ok-clause-rests
returns-in-Ok-clause-rests g c = λ told.
    rests_on g.D.Disk (disk_of c.args.scanning.now) (disk_of c.read_found.new.scanning) (disk_of c.tell_volume.new.scanning)
    (c.read_found.ensures.rests told) (c.tell_volume.ensures.rests told)

pub returns-in-Ok-End-clause-whole : goal.returns-in-Ok-End-clause-whole
returns-in-Ok-End-clause-whole g c = λ reads.
    let whole = rw c.in-Ok-End.field-0-is at c.in-Ok-End.ensures.whole in
    whole reads

pub returns-in-Err-tell_volume-clause-rests : goal.returns-in-Err-tell_volume-clause-rests
returns-in-Err-tell_volume-clause-rests g c = λ told.
    rests_on g.D.Disk (disk_of c.args.scanning.now) (disk_of c.read_found.new.scanning) (disk_of c.tell_volume.new.scanning)
    (c.read_found.ensures.rests told) (c.tell_volume.ensures.rests told)

pub returns-in-Ok-More-clause-counts : goal.returns-in-Ok-More-clause-counts
returns-in-Ok-More-clause-counts g c = λ told.
    let counts = rw c.in-Ok-More.field-0-is at c.in-Ok-More.ensures.counts in
    counts told

pub returns-in-Ok-End-clause-counts : goal.returns-in-Ok-End-clause-counts
returns-in-Ok-End-clause-counts g c = λ told.
    let counts = rw c.in-Ok-End.field-0-is at c.in-Ok-End.ensures.counts in
    counts told

pub returns-in-Err-tell_volume-clause-borne_out : goal.returns-in-Err-tell_volume-clause-borne_out
returns-in-Err-tell_volume-clause-borne_out g c = λ tells.
    outside_borne_out (g.D.Disk.reading (disk_of c.args.scanning.now)) c.in-Err-tell_volume.fault c.in-Err-tell_volume.ensures.outside

pub tell_volume-requires-clause-goes : goal.tell_volume-requires-clause-goes
tell_volume-requires-clause-goes g c =
    let steps = rw c.in-Ok-Begun.field-0-is at c.in-Ok-Begun.ensures.steps in
    steps.0

pub tell_volume-requires-clause-steady : goal.tell_volume-requires-clause-steady
tell_volume-requires-clause-steady g c =
    let steps = rw c.in-Ok-Begun.field-0-is at c.in-Ok-Begun.ensures.steps in
    steps.1

pub tell_volume-requires-clause-opens : goal.tell_volume-requires-clause-opens
tell_volume-requires-clause-opens g c =
    let steps = rw c.in-Ok-Begun.field-0-is at c.in-Ok-Begun.ensures.steps in
    steps.3

pub tell_volume-requires-clause-counts : goal.tell_volume-requires-clause-counts
tell_volume-requires-clause-counts g c = λ told.
    let counts = rw c.in-Ok-Begun.field-0-is at c.in-Ok-Begun.ensures.counts in
    counts told

pub returns-in-Ok-clause-tells : goal.returns-in-Ok-clause-tells
returns-in-Ok-clause-tells g c =
    let steps = rw c.in-Ok-Begun.field-0-is at c.in-Ok-Begun.ensures.steps in
    (c.in-Ok.ensures.goes, c.in-Ok.ensures.steady, omega (arith, c.in-Ok.ensures.left, steps.2))

pub returns-in-Ok-clause-whole : goal.returns-in-Ok-clause-whole
returns-in-Ok-clause-whole g c = λ reads.
    let whole = rw c.in-Ok-Begun.field-0-is at c.in-Ok-Begun.ensures.whole in
    c.in-Ok.ensures.whole (whole reads)

pub returns-in-Ok-clause-counts : goal.returns-in-Ok-clause-counts
returns-in-Ok-clause-counts g c = λ told. c.in-Ok.ensures.counts told

pub returns-in-Ok-clause-still : goal.returns-in-Ok-clause-still
returns-in-Ok-clause-still g c = c.in-Ok.ensures.still ∙ c.in-Ok-Begun.ensures.still

pub returns-in-Err-tell_volume-clause-refused : goal.returns-in-Err-tell_volume-clause-refused
returns-in-Err-tell_volume-clause-refused g c = outside_known c.args.known.now.value c.in-Err-tell_volume.fault c.in-Err-tell_volume.ensures.outside

pub returns-in-Err-tell_volume-clause-damage : goal.returns-in-Err-tell_volume-clause-damage
returns-in-Err-tell_volume-clause-damage g c = λ reads.
    outside_refuses (files_in g.D.Disk c.args.scanning.now) c.in-Err-tell_volume.fault c.in-Err-tell_volume.ensures.outside

pub returns-in-Err-tell_volume-clause-cause : goal.returns-in-Err-tell_volume-clause-cause
returns-in-Err-tell_volume-clause-cause g c = cause_outside None c.in-Err-tell_volume.fault c.in-Err-tell_volume.ensures.outside

pub returns-in-Err-tell_volume-clause-faults : goal.returns-in-Err-tell_volume-clause-faults
returns-in-Err-tell_volume-clause-faults g c =
    let d = g.D.Disk in
    subst (λ (n : ℕ). CountsFault n (d.faults (disk_of c.tell_volume.new.scanning)) c.in-Err-tell_volume.fault) c.in-Ok-Begun.ensures.still c.in-Err-tell_volume.ensures.faults

pub returns-in-Ok-More-clause-tells : goal.returns-in-Ok-More-clause-tells
returns-in-Ok-More-clause-tells g c =
    let steps = rw c.in-Ok-More.field-0-is at c.in-Ok-More.ensures.steps in
    steps

pub returns-in-Ok-More-clause-whole : goal.returns-in-Ok-More-clause-whole
returns-in-Ok-More-clause-whole g c = λ reads.
    let whole = rw c.in-Ok-More.field-0-is at c.in-Ok-More.ensures.whole in
    whole reads

pub returns-in-Ok-End-clause-tells : goal.returns-in-Ok-End-clause-tells
returns-in-Ok-End-clause-tells g c =
    let steps = rw c.in-Ok-End.field-0-is at c.in-Ok-End.ensures.steps in
    steps
