use Rattle.archive_payloads.specs.declared.compare.Compared.{Compared}
use Rattle.archive_payloads.proofs.FaultLaws.{counts_behind, not_done, read_on}
use Rattle.std.proofs.Common.{◌≡◌, List, ℕ, Option, Some, None, sym, subst, ◌∙◌, Bool}
use Rattle.capture.proofs.PayloadLaws.{captures_have_one, one_payload}
use Rattle.capture.specs.declared.framing.Framing.{Framing}
use Rattle.warc_journal.specs.Journals.{texts, disk_of}
use Rattle.archive_reading.proofs.BringLaws.{kept_tells, reads_then, texts_stay, no_digest}
use Rattle.archive_payloads.proofs.ChooseLaws.{data_right, read_there, same_right, same_there}
use Rattle.archive_payloads.proofs.DamageLaws.{damage_there}
use Rattle.archive_reading.proofs.FoundLaws.{none_there}
use Rattle.archive_reading.specs.Bringing.{OnlyReads, is_read_fault}
use Rattle.archive_reading.specs.Decoding.{TellsFraming}
use Rattle.archive_volumes.specs.Held.{book_of}
use Rattle.archive_volumes.specs.Spots.{HasPlace, head_in}
use Rattle.archive_reading.specs.declared.part.ReadFault.TheVariants as reads
use Rattle.archive_payloads.proofs.compare.compare_with.Goals as goal

pub returns-in-None-clause-compares : goal.returns-in-None-clause-compares
returns-in-None-clause-compares g c payload number is told kept =
    let spot = c.args.spot.now in
    let head : c.in_ok-head.head.items ≡ head_in (texts g.D.Disk c.args.volumes.now.journal) spot =
    (rw c.head_place.ensures at c.in_ok-head.ensures.bytes told) in
    let tells : TellsFraming spot.method c.in_ok-head.head.items None =
    subst (λ (f : Option Framing). TellsFraming spot.method c.in_ok-head.head.items f) c.in-None.is (rw c.as_slice-2.ensures.value at (rw c.as_slice.ensures.value at c.in_ok-kept.ensures)) in
    absurd (kept_tells (texts g.D.Disk c.args.volumes.now.journal) (book_of c.args.volumes.now.held) number spot kept
    (subst (λ (h : List ℕ). TellsFraming spot.method h None) head tells))

pub returns-in_err-same-clause-reads : goal.returns-in_err-same-clause-reads
returns-in_err-same-clause-reads g c =
    reads_then g.D.Disk c.args.volumes.now c.read_part.new.volumes c.keeps_wire.new.volumes c.read_part.ensures.reads c.keeps_wire.ensures.reads

pub returns-then-same-clause-compares : goal.returns-then-same-clause-compares
returns-then-same-clause-compares g c payload number is told kept =
    let spot = c.args.spot.now in
    let tells : TellsFraming spot.method c.in_ok-head.head.items (Some c.in-Some.kept) =
    subst (λ (f : Option Framing). TellsFraming spot.method c.in_ok-head.head.items f) c.in-Some.is (rw c.as_slice-2.ensures.value at (rw c.as_slice.ensures.value at c.in_ok-kept.ensures)) in
    same_right one_payload (texts g.D.Disk c.args.volumes.now.journal) (book_of c.args.volumes.now.held) number spot kept
    c.in_ok-head.head.items (rw c.head_place.ensures at c.in_ok-head.ensures.bytes told) (texts g.D.Disk c.read_part.new.volumes.journal)
    (texts_stay g.D.Disk c.args.volumes.now c.read_part.new.volumes c.read_part.ensures.reads told) payload
    c.requires.whole c.in-Some.kept c.args.framing tells c.args.wire.now (c.in_ok-same.ensures.keeps told c.if-same.true) is

pub returns-then-same-clause-reads : goal.returns-then-same-clause-reads
returns-then-same-clause-reads g c =
    reads_then g.D.Disk c.args.volumes.now c.read_part.new.volumes c.keeps_wire.new.volumes c.read_part.ensures.reads c.keeps_wire.ensures.reads

pub compare_read-requires-clause-place : goal.compare_read-requires-clause-place
compare_read-requires-clause-place g c told =
    let reads : OnlyReads g.D.Disk c.args.volumes.now c.keeps_wire.new.volumes =
    reads_then g.D.Disk c.args.volumes.now c.read_part.new.volumes c.keeps_wire.new.volumes c.read_part.ensures.reads c.keeps_wire.ensures.reads in
    subst (λ (t : List (List ℕ)). HasPlace t c.args.spot.now) (sym (texts_stay g.D.Disk c.args.volumes.now c.keeps_wire.new.volumes reads told)) (c.requires.place told)

pub returns-clause-compares : goal.returns-clause-compares
returns-clause-compares g c payload number is told kept =
    let spot = c.args.spot.now in
    let reads : OnlyReads g.D.Disk c.args.volumes.now c.keeps_wire.new.volumes =
    reads_then g.D.Disk c.args.volumes.now c.read_part.new.volumes c.keeps_wire.new.volumes c.read_part.ensures.reads c.keeps_wire.ensures.reads in
    let tells : TellsFraming spot.method c.in_ok-head.head.items (Some c.in-Some.kept) =
    subst (λ (f : Option Framing). TellsFraming spot.method c.in_ok-head.head.items f) c.in-Some.is (rw c.as_slice-2.ensures.value at (rw c.as_slice.ensures.value at c.in_ok-kept.ensures)) in
    data_right one_payload (texts g.D.Disk c.args.volumes.now.journal) (book_of c.args.volumes.now.held) number spot kept
    c.in_ok-head.head.items (rw c.head_place.ensures at c.in_ok-head.ensures.bytes told) (texts g.D.Disk c.keeps_wire.new.volumes.journal)
    (texts_stay g.D.Disk c.args.volumes.now c.keeps_wire.new.volumes reads told) payload captures_have_one c.compare_read.result
    c.in-Some.kept tells (λ bytes only. c.compare_read.ensures.compares told payload bytes is only)

pub returns-clause-reads : goal.returns-clause-reads
returns-clause-reads g c =
    let reads : OnlyReads g.D.Disk c.args.volumes.now c.keeps_wire.new.volumes =
    reads_then g.D.Disk c.args.volumes.now c.read_part.new.volumes c.keeps_wire.new.volumes c.read_part.ensures.reads c.keeps_wire.ensures.reads in
    reads_then g.D.Disk c.args.volumes.now c.keeps_wire.new.volumes c.compare_read.new.volumes reads c.compare_read.ensures.reads

pub returns-then-same-clause-same : goal.returns-then-same-clause-same
returns-then-same-clause-same g c told payload is =
    let spot = c.args.spot.now in
    let tells : TellsFraming spot.method c.in_ok-head.head.items (Some c.in-Some.kept) =
    subst (λ (f : Option Framing). TellsFraming spot.method c.in_ok-head.head.items f) c.in-Some.is (rw c.as_slice-2.ensures.value at (rw c.as_slice.ensures.value at c.in_ok-kept.ensures)) in
    same_there (texts g.D.Disk c.args.volumes.now.journal) spot c.in_ok-head.head.items (rw c.head_place.ensures at c.in_ok-head.ensures.bytes told)
    c.in-Some.kept tells (texts g.D.Disk c.read_part.new.volumes.journal) (texts_stay g.D.Disk c.args.volumes.now c.read_part.new.volumes c.read_part.ensures.reads told)
    payload c.args.framing c.args.wire.now (c.in_ok-same.ensures.keeps told c.if-same.true) is

pub returns-clause-same : goal.returns-clause-same
returns-clause-same g c told payload is =
    let spot = c.args.spot.now in
    let reads : OnlyReads g.D.Disk c.args.volumes.now c.keeps_wire.new.volumes =
    reads_then g.D.Disk c.args.volumes.now c.read_part.new.volumes c.keeps_wire.new.volumes c.read_part.ensures.reads c.keeps_wire.ensures.reads in
    let tells : TellsFraming spot.method c.in_ok-head.head.items (Some c.in-Some.kept) =
    subst (λ (f : Option Framing). TellsFraming spot.method c.in_ok-head.head.items f) c.in-Some.is (rw c.as_slice-2.ensures.value at (rw c.as_slice.ensures.value at c.in_ok-kept.ensures)) in
    read_there (texts g.D.Disk c.args.volumes.now.journal) spot c.in_ok-head.head.items (rw c.head_place.ensures at c.in_ok-head.ensures.bytes told)
    c.in-Some.kept tells (texts g.D.Disk c.keeps_wire.new.volumes.journal) (texts_stay g.D.Disk c.args.volumes.now c.keeps_wire.new.volumes reads told)
    payload c.requires.whole c.compare_read.result (c.compare_read.ensures.same told payload is)

pub returns-in-None-clause-damage : goal.returns-in-None-clause-damage
returns-in-None-clause-damage g c told =
    let spot = c.args.spot.now in
    let tells : TellsFraming spot.method c.in_ok-head.head.items None =
    subst (λ (f : Option Framing). TellsFraming spot.method c.in_ok-head.head.items f) c.in-None.is (rw c.as_slice-2.ensures.value at (rw c.as_slice.ensures.value at c.in_ok-kept.ensures)) in
    none_there (texts g.D.Disk c.args.volumes.now.journal) spot c.in_ok-head.head.items (rw c.head_place.ensures at c.in_ok-head.ensures.bytes told)
    c.requires.ends tells

pub returns-clause-damage : goal.returns-clause-damage
returns-clause-damage g c told =
    let spot = c.args.spot.now in
    let reads : OnlyReads g.D.Disk c.args.volumes.now c.keeps_wire.new.volumes =
    reads_then g.D.Disk c.args.volumes.now c.read_part.new.volumes c.keeps_wire.new.volumes c.read_part.ensures.reads c.keeps_wire.ensures.reads in
    let tells : TellsFraming spot.method c.in_ok-head.head.items (Some c.in-Some.kept) =
    subst (λ (f : Option Framing). TellsFraming spot.method c.in_ok-head.head.items f) c.in-Some.is (rw c.as_slice-2.ensures.value at (rw c.as_slice.ensures.value at c.in_ok-kept.ensures)) in
    damage_there (texts g.D.Disk c.args.volumes.now.journal) spot c.in_ok-head.head.items (rw c.head_place.ensures at c.in_ok-head.ensures.bytes told)
    c.in-Some.kept tells (texts g.D.Disk c.keeps_wire.new.volumes.journal) (texts_stay g.D.Disk c.args.volumes.now c.keeps_wire.new.volumes reads told)
    c.compare_read.result (c.compare_read.ensures.damage told)

-- ---- what is asked, and what stays at each exit

pub keeps_wire-requires-clause-in_step : goal.keeps_wire-requires-clause-in_step
keeps_wire-requires-clause-in_step g c = c.read_part.ensures.reads.in_step c.requires.in_step

pub keeps_wire-requires-clause-place : goal.keeps_wire-requires-clause-place
keeps_wire-requires-clause-place g c told =
    subst (λ (t : List (List ℕ)). HasPlace t c.args.spot.now) (sym (texts_stay g.D.Disk c.args.volumes.now c.read_part.new.volumes c.read_part.ensures.reads told)) (c.requires.place told)

pub keeps_wire-requires-clause-ends : goal.keeps_wire-requires-clause-ends
keeps_wire-requires-clause-ends g c = c.requires.ends

pub compare_read-requires-clause-in_step : goal.compare_read-requires-clause-in_step
compare_read-requires-clause-in_step g c = c.keeps_wire.ensures.reads.in_step (c.read_part.ensures.reads.in_step c.requires.in_step)

pub compare_read-requires-clause-ends : goal.compare_read-requires-clause-ends
compare_read-requires-clause-ends g c = c.requires.ends

pub returns-in_err-head-clause-comparison : goal.returns-in_err-head-clause-comparison
returns-in_err-head-clause-comparison g c payload is =
    not_done _ c.from_residual.result c.from_residual.ensures.0

pub returns-in_err-head-clause-compares : goal.returns-in_err-head-clause-compares
returns-in_err-head-clause-compares g c payload number is told kept =
    not_done _ c.from_residual.result c.from_residual.ensures.0

pub returns-in_err-head-clause-same : goal.returns-in_err-head-clause-same
returns-in_err-head-clause-same g c told payload is =
    not_done _ c.from_residual.result c.from_residual.ensures.0

pub returns-in_err-head-clause-damage : goal.returns-in_err-head-clause-damage
returns-in_err-head-clause-damage g c told =
    not_done _ c.from_residual.result c.from_residual.ensures.0

pub returns-in_err-head-clause-reads : goal.returns-in_err-head-clause-reads
returns-in_err-head-clause-reads g c = c.read_part.ensures.reads

pub returns-in_err-kept-clause-comparison : goal.returns-in_err-kept-clause-comparison
returns-in_err-kept-clause-comparison g c payload is =
    not_done _ c.from_residual-in_err-kept.result c.from_residual-in_err-kept.ensures.0

pub returns-in_err-kept-clause-compares : goal.returns-in_err-kept-clause-compares
returns-in_err-kept-clause-compares g c payload number is told kept =
    not_done _ c.from_residual-in_err-kept.result c.from_residual-in_err-kept.ensures.0

pub returns-in_err-kept-clause-same : goal.returns-in_err-kept-clause-same
returns-in_err-kept-clause-same g c told payload is =
    not_done _ c.from_residual-in_err-kept.result c.from_residual-in_err-kept.ensures.0

pub returns-in_err-kept-clause-damage : goal.returns-in_err-kept-clause-damage
returns-in_err-kept-clause-damage g c told =
    not_done _ c.from_residual-in_err-kept.result c.from_residual-in_err-kept.ensures.0

pub returns-in_err-kept-clause-reads : goal.returns-in_err-kept-clause-reads
returns-in_err-kept-clause-reads g c = c.read_part.ensures.reads

pub returns-in_err-kept-clause-faults : goal.returns-in_err-kept-clause-faults
returns-in_err-kept-clause-faults g c =
    read_on ℕ Compared (g.D.Disk.faults (disk_of c.args.volumes.now.journal)) (g.D.Disk.faults (disk_of c.read_part.new.volumes.journal)) reads.Memory c.from_residual-in_err-kept.result c.from_residual-in_err-kept.ensures.1 c.in_ok-head.ensures.faults

pub returns-in-None-clause-comparison : goal.returns-in-None-clause-comparison
returns-in-None-clause-comparison g c payload is = no_digest c.args.spot.now.digest

pub returns-in-None-clause-reads : goal.returns-in-None-clause-reads
returns-in-None-clause-reads g c = c.read_part.ensures.reads

pub returns-in-None-clause-faults : goal.returns-in-None-clause-faults
returns-in-None-clause-faults g c = c.in_ok-head.ensures.faults

pub returns-in_err-same-clause-comparison : goal.returns-in_err-same-clause-comparison
returns-in_err-same-clause-comparison g c payload is =
    not_done _ c.from_residual-in_err-same.result c.from_residual-in_err-same.ensures.0

pub returns-in_err-same-clause-compares : goal.returns-in_err-same-clause-compares
returns-in_err-same-clause-compares g c payload number is told kept =
    not_done _ c.from_residual-in_err-same.result c.from_residual-in_err-same.ensures.0

pub returns-in_err-same-clause-same : goal.returns-in_err-same-clause-same
returns-in_err-same-clause-same g c told payload is =
    not_done _ c.from_residual-in_err-same.result c.from_residual-in_err-same.ensures.0

pub returns-in_err-same-clause-damage : goal.returns-in_err-same-clause-damage
returns-in_err-same-clause-damage g c told =
    not_done _ c.from_residual-in_err-same.result c.from_residual-in_err-same.ensures.0

pub returns-in_err-same-clause-faults : goal.returns-in_err-same-clause-faults
returns-in_err-same-clause-faults g c =
    counts_behind (is_read_fault c.from_residual-in_err-same.result) (g.D.Disk.faults (disk_of c.args.volumes.now.journal)) (g.D.Disk.faults (disk_of c.read_part.new.volumes.journal)) (g.D.Disk.faults (disk_of c.keeps_wire.new.volumes.journal)) c.in_ok-head.ensures.faults
    (read_on Bool Compared (g.D.Disk.faults (disk_of c.read_part.new.volumes.journal)) (g.D.Disk.faults (disk_of c.keeps_wire.new.volumes.journal)) c.in_err-same.field-0.0 c.from_residual-in_err-same.result c.from_residual-in_err-same.ensures.1 c.in_err-same.ensures.faults)

pub returns-then-same-clause-faults : goal.returns-then-same-clause-faults
returns-then-same-clause-faults g c = c.in_ok-same.ensures.faults ∙ c.in_ok-head.ensures.faults

pub returns-clause-comparison : goal.returns-clause-comparison
returns-clause-comparison g c = c.compare_read.ensures.comparison

pub returns-clause-faults : goal.returns-clause-faults
returns-clause-faults g c =
    counts_behind (is_read_fault c.compare_read.result) (g.D.Disk.faults (disk_of c.args.volumes.now.journal)) (g.D.Disk.faults (disk_of c.keeps_wire.new.volumes.journal)) (g.D.Disk.faults (disk_of c.compare_read.new.volumes.journal)) (c.in_ok-same.ensures.faults ∙ c.in_ok-head.ensures.faults)
    c.compare_read.ensures.faults
