use Rattle.std.proofs.Common.{Ok}
use Rattle.volume_scan.proofs.Parts.{comes_found, comes_from}
use Rattle.volume_scan.proofs.scanning.Scanning.go_on.Goals as goal

pub returns-in-Group-clause-comes : goal.returns-in-Group-clause-comes
returns-in-Group-clause-comes g c =
    let d = g.D.Disk in
    let old = c.args.self.now in
    let mid = c.next_group.new.self in
    let new = c.pass_group.new.self in
    comes_from d old mid new c.next_group.ensures.keeps (Ok c.pass_group.result) c.in_ok-read.ensures.faults.steady
    (comes_found d mid new c.pass_group.result c.pass_group.ensures.finds c.pass_group.ensures.moves)
