use Rattle.std.proofs.Common.{rules, ◌≡◌, ◌-◌, ◌^◌, ◌<◌, ◌≤◌, ℕ, List, length, sym, ap, subst, arith}
use Rattle.archive_volumes.specs.Held.{book_of}
use Rattle.std.specs.Prelude.{None}
use Rattle.warc_journal.specs.Journals.{last_len, volumes}
use Rattle.warc_journal.specs.declared.extent.Extent.{Extent}
use Rattle.archive_gathering.proofs.BeginLaws.{no_texts}
use Rattle.archive_opening.proofs.EndLaws.{opened_empty, opened_told, other_isnt_known, some_volumes_told}
use Rattle.volume_scan.specs.Scannings.{disk_of}
use Rattle.archive_opening.specs.Counting.{LastEndsAt}
use Rattle.archive_opening.proofs.LinedLaws.{counts_none}
use Rattle.archive_opening.proofs.OpenedLaws.{cause_other, opened_by}
use Rattle.archive_opening.proofs.WholeLaws.{short_whole}
use Rattle.archive_gathering.specs.Gathering.{IsGathered}
use Rattle.archive_opening.proofs.BorneOutLaws.{long_borne_out, long_file, other_borne_out}
use Rattle.archive_opening.proofs.telling.finish.Goals as goal

pub other_than-requires : goal.other_than-requires
other_than-requires g c =
    some_volumes_told g.D.Disk c.args.known.now.value c.args.scanning c.args.gathered c.requires.all c.requires.in_place c.finish-journal.result
    c.finish-journal.ensures.disk c.finish-journal.ensures.extent (λ (none : volumes c.finish-journal.result ≡ 0). absurd (omega (arith, none, c.volumes.ensures, c.if-volumes-eq0.false)))

pub returns-in-None-clause-opened : goal.returns-in-None-clause-opened
returns-in-None-clause-opened g c =
    opened_told g.D.Disk c.args.known.now.value c.args.scanning c.args.gathered c.requires.all c.requires.in_place c.finish-journal.result
    c.finish-journal.ensures.disk c.finish-journal.ensures.extent c.requires.steady (search rules) c.finish-journal.ensures.in_step c.finish-journal.ensures.held
    c.files_stand_for_one_book.ensures.one c.files_stand_for_one_book.ensures.no_volume
    (some_volumes_told g.D.Disk c.args.known.now.value c.args.scanning c.args.gathered c.requires.all c.requires.in_place c.finish-journal.result
    c.finish-journal.ensures.disk c.finish-journal.ensures.extent (λ (none : volumes c.finish-journal.result ≡ 0). absurd (omega (arith, none, c.volumes.ensures, c.if-volumes-eq0.false)))) c.args.asked.now c.in-None.ensures.none

pub returns-in-Some-clause-cause : goal.returns-in-Some-clause-cause
returns-in-Some-clause-cause g c = cause_other (book_of c.args.gathered.held) c.args.asked.now c.in-Some.fault c.in-Some.ensures.other

pub returns-in-Some-clause-refused : goal.returns-in-Some-clause-refused
returns-in-Some-clause-refused g c =
    other_isnt_known g.D.Disk c.args.known.now.value c.args.scanning c.args.gathered c.requires.all c.requires.in_place c.finish-journal.result
    c.finish-journal.ensures.disk c.finish-journal.ensures.extent c.files_stand_for_one_book.ensures.one c.files_stand_for_one_book.ensures.no_volume
    (λ (none : volumes c.finish-journal.result ≡ 0). absurd (omega (arith, none, c.volumes.ensures, c.if-volumes-eq0.false))) c.args.asked.now c.requires.asked_for c.in-Some.fault c.in-Some.ensures.other

pub returns-then-volumes-eq0-clause-opened : goal.returns-then-volumes-eq0-clause-opened
returns-then-volumes-eq0-clause-opened g c =
    opened_empty g.D.Disk c.args.known.now.value c.args.scanning c.args.gathered c.requires.all c.requires.in_place c.finish-journal.result
    c.finish-journal.ensures.disk c.finish-journal.ensures.extent c.in_namespace.result c.in_namespace.ensures.steady c.in_namespace.ensures.gathered
    (omega (arith, c.if-volumes-eq0.true, c.volumes.ensures)) c.finish-journal.ensures.in_step c.finish-journal.ensures.held
    c.files_stand_for_one_book.ensures.no_volume c.args.asked.now c.in_namespace.ensures.namespace

pub returns-then-volumes-eq0-clause-whole : goal.returns-then-volumes-eq0-clause-whole
returns-then-volumes-eq0-clause-whole g c = λ whole.
    let all : List (List ℕ) = whole.follows.texts in
    let none : 0 ≡ length all =
    omega (arith, c.if-volumes-eq0.true, c.volumes.ensures, ap (λ (e : Extent). e.volumes) c.finish-journal.ensures.extent, whole.follows.volumes) in
    opened_by g.D.Disk c.args.scanning c.args.gathered whole c.finish-journal.result c.finish-journal.ensures.disk c.finish-journal.ensures.extent
    c.args.asked.now c.in_namespace.result (subst (IsGathered None c.in_namespace.result) (sym (no_texts all none)) (c.in_namespace.ensures.gathered None))
    c.in_namespace.ensures.steady c.in_namespace.ensures.namespace c.finish-journal.ensures.in_step c.finish-journal.ensures.held

pub returns-in-None-clause-whole : goal.returns-in-None-clause-whole
returns-in-None-clause-whole g c = λ whole.
    opened_by g.D.Disk c.args.scanning c.args.gathered whole c.finish-journal.result c.finish-journal.ensures.disk c.finish-journal.ensures.extent
    c.args.asked.now c.args.gathered whole.follows.gathered c.requires.steady c.in-None.ensures.none c.finish-journal.ensures.in_step c.finish-journal.ensures.held

pub returns-then-last_len-ge-TEXT_BOUND-clause-damage : goal.returns-then-last_len-ge-TEXT_BOUND-clause-damage
returns-then-last_len-ge-TEXT_BOUND-clause-damage g c = λ whole.
    let long : 2 ^ 62 ≤ last_len c.finish-journal.result = omega (arith, c.if-last_len-ge-TEXT_BOUND.true, c.last_len.ensures) in
    absurd (omega (
      arith,
      long,
      short_whole g.D.Disk c.args.scanning c.args.gathered whole c.finish-journal.result c.finish-journal.ensures.disk
          c.finish-journal.ensures.extent,
    ))

pub returns-then-volumes-eq0-clause-counts : goal.returns-then-volumes-eq0-clause-counts
returns-then-volumes-eq0-clause-counts g c = λ told.
    counts_none (g.D.Disk.reading (disk_of c.args.scanning)) (book_of c.args.gathered.held) (book_of c.in_namespace.result.held)
    (omega (arith, c.if-volumes-eq0.true, c.volumes.ensures, ap (λ (e : Extent). e.volumes) c.finish-journal.ensures.extent, c.requires.all.goes.volumes))
    (sym (c.in_namespace.ensures.gathered None).read.are.count) (c.requires.counts told)

pub returns-in-Some-clause-borne_out : goal.returns-in-Some-clause-borne_out
returns-in-Some-clause-borne_out g c = λ tells.
    other_borne_out (g.D.Disk.reading (disk_of c.args.scanning)) (book_of c.args.gathered.held) c.args.asked.now c.in-Some.fault (c.requires.counts tells)
    (some_volumes_told g.D.Disk c.args.known.now.value c.args.scanning c.args.gathered c.requires.all c.requires.in_place c.finish-journal.result
    c.finish-journal.ensures.disk c.finish-journal.ensures.extent (λ (none : volumes c.finish-journal.result ≡ 0). absurd (omega (arith, none, c.volumes.ensures, c.if-volumes-eq0.false)))) c.in-Some.ensures.other

pub returns-then-last_len-ge-TEXT_BOUND-clause-borne_out : goal.returns-then-last_len-ge-TEXT_BOUND-clause-borne_out
returns-then-last_len-ge-TEXT_BOUND-clause-borne_out g c = λ tells.
    let extent = c.finish-journal.ensures.extent in
    let book = book_of c.args.gathered.held in
    let some : 0 < length book.volumes =
    some_volumes_told g.D.Disk c.args.known.now.value c.args.scanning c.args.gathered c.requires.all c.requires.in_place c.finish-journal.result
    c.finish-journal.ensures.disk extent (λ (none : volumes c.finish-journal.result ≡ 0). absurd (omega (arith, none, c.volumes.ensures, c.if-volumes-eq0.false))) in
    let count : c.volumes-last.result ≡ length book.volumes = omega (arith, c.volumes-last.ensures, ap (λ (e : Extent). e.volumes) extent, c.requires.all.goes.volumes) in
    let file : ℕ = c.volumes-last.result - 1 in
    let long : 2 ^ 62 ≤ last_len c.finish-journal.result = omega (arith, c.if-last_len-ge-TEXT_BOUND.true, c.last_len.ensures) in
    long_borne_out (g.D.Disk.reading (disk_of c.args.scanning)) book file c.damaged.result c.damaged.ensures (c.requires.counts tells) (omega (arith, some, count))
    (long_file g.D.Disk c.args.scanning c.requires.in_place tells file (omega (arith, some, count, c.requires.all.goes.volumes)) (omega (arith, long, ap (λ (e : Extent). e.end) extent)))

pub returns-in-None-clause-ends : goal.returns-in-None-clause-ends
returns-in-None-clause-ends g c = λ told.
    subst (λ (e : Extent). LastEndsAt (g.D.Disk.reading (disk_of c.args.scanning)) (book_of c.args.gathered.held) e.end) (sym c.finish-journal.ensures.extent)
    (c.requires.ends told)

pub returns-then-volumes-eq0-clause-ends : goal.returns-then-volumes-eq0-clause-ends
returns-then-volumes-eq0-clause-ends g c = λ told k last.
    let none : length (book_of c.in_namespace.result.held).volumes ≡ 0 = sym (c.in_namespace.ensures.gathered None).read.are.count in
    absurd (omega (arith, last, none))
