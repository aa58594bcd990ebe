use Rattle.std.proofs.Common.{◌≡◌, ℕ, List, IfOk, ap, subst}
use Rattle.warc_journal.specs.Extents.{warc_files}
use Rattle.volume_scan.specs.steps.Next.{IsNextInfo}
use Rattle.volume_scan.specs.Scannings.{files_in}
use Rattle.volume_scan.specs.Unread.{file_at}
use Rattle.volume_scan.proofs.scanning.Scanning.next_info.Goals as goal

pub returns-clause-next : goal.returns-clause-next
returns-clause-next g c told =
    let d = g.D.Disk in
    let files = files_in d c.args.self.now in
    let mid = warc_files (d.reading c.go_to.new.disk) in
    let same : mid ≡ files = ap warc_files (c.go_to.ensures.rests told).read in
    let file : c.go_to.new.self.file ≡ c.args.volume = c.in_ok-go_to.ensures.at.same in
    let rest : file_at mid c.go_to.new.self.file ≡ file_at files c.args.volume = (λ i. file_at (same i) (file i)) in
    subst (λ (l : List ℕ). IfOk c.read_info.result (IsNextInfo c.args.volume l)) rest (c.read_info.ensures.next told)
