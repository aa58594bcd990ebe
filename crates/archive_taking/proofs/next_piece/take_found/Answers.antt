use Rattle.std.proofs.Common.{ℕ, List, length, ap, arith, length-append}
use Rattle.archive_volumes.proofs.ChangeLaws.{DiskLaws}
use Rattle.archive_taking.proofs.PieceTakenLaws as laws
use Rattle.archive_taking.proofs.next_piece.take_found.Given.{Over}
use Rattle.archive_taking.proofs.next_piece.take_found.Goals as goal

-- what is asked of the disk
disk_laws : (g : Over) → DiskLaws g.D.Disk
disk_laws g = record { earlier = g.met.D.Disk.earlier; now_counts = g.met.D.Disk.now_counts; now_only = g.met.D.Disk.now_only }

pub original_in-requires : goal.original_in-requires
original_in-requires g c = record { text = c.requires.read.text; is = c.requires.read.is }

pub returns-in_err-first : goal.returns-in_err-first
returns-in_err-first g c =
    let found = c.args.found in
    laws.fault_exit g.D.Disk c.args.archive.now c.original_in.new.archive c.in_err-first.ensures.looks c.args.bytes.now found.begins found.at found.group
    c.requires.read c.requires.not_full c.storing_has_a_basis.ensures c.in_err-first.ensures.was c.in_err-first.field-0.0 c.from_residual.result
    c.from_residual.ensures.1 c.in_err-first.ensures.finds c.in_err-first.ensures.faults

pub split_at-requires : goal.split_at-requires
split_at-requires g c =
    let read = c.requires.read in
    omega (arith, read.at_is, ap (λ (l : List ℕ). length l) read.composed, length-append read.front read.text)

pub put_piece-requires-clause-not_full : goal.put_piece-requires-clause-not_full
put_piece-requires-clause-not_full g c =
    laws.not_full_on g.D.Disk c.args.archive.now c.original_in.new.archive c.in_ok-first.ensures.looks c.requires.not_full

pub put_piece-requires-clause-group : goal.put_piece-requires-clause-group
put_piece-requires-clause-group g c =
    let found = c.args.found in
    laws.group_on g.D.Disk c.args.archive.now c.original_in.new.archive c.in_ok-first.ensures.looks c.args.bytes.now found.begins found.at found.group
    c.requires.read c.requires.not_full c.split_at.result.1.now c.split_at.ensures.back

pub put_piece-requires-clause-refers : goal.put_piece-requires-clause-refers
put_piece-requires-clause-refers g c = c.in_ok-first.ensures.finds.1

pub put_piece-requires-clause-holds : goal.put_piece-requires-clause-holds
put_piece-requires-clause-holds g c =
    let found = c.args.found in
    laws.may_on g.D.Disk c.args.archive.now c.original_in.new.archive c.in_ok-first.ensures.looks c.args.bytes.now found.begins found.at found.group
    c.requires.read c.requires.not_full

pub put_piece-requires-clause-bounds : goal.put_piece-requires-clause-bounds
put_piece-requires-clause-bounds g c =
    let found = c.args.found in
    laws.bounds_on g.D.Disk c.args.archive.now c.original_in.new.archive c.in_ok-first.ensures.looks c.args.bytes.now found.begins found.at found.group
    c.requires.read c.requires.not_full c.in_ok-first.ensures.finds.0

pub returns : goal.returns
returns g c =
    let was = c.args.archive.now in
    let mid = c.original_in.new.archive in
    let found = c.args.found in
    let looks = c.in_ok-first.ensures.looks in
    let text = c.split_at.result.1.now in
    let same = laws.text_same g.D.Disk was mid looks c.args.bytes.now found.begins found.at found.group c.requires.read c.requires.not_full text
    c.split_at.ensures.back in
    laws.taken_by g.D.Disk was mid looks c.args.bytes.now found.begins found.at found.group c.requires.read c.requires.not_full (disk_laws g)
    c.put_piece.new.archive c.in_ok-first.first c.in_ok-first.ensures.finds.1 c.in_ok-first.ensures.shown text same c.put_piece.result c.put_piece.ensures.puts c.in_ok-first.ensures.faults c.put_piece.ensures.faults
