use Rattle.std.proofs.Common.{◌≡◌, ℕ, List, IfOk, drop, sym, ap, subst, ◌∙◌}
use Rattle.warc_journal.specs.Extents.{warc_files}
use Rattle.volume_scan.specs.steps.Next.{IsNextGroup}
use Rattle.volume_scan.specs.Scannings.{files_in}
use Rattle.volume_scan.specs.Unread.{file_at, unread}
use Rattle.volume_scan.proofs.Texts.{behind_is}
use Rattle.volume_scan.proofs.scanning.Scanning.next_group.Goals as goal

pub returns-clause-next : goal.returns-clause-next
returns-clause-next g c told =
    let d = g.D.Disk in
    let old = c.args.self.now in
    let end = old.position.extent.end in
    let files = files_in d old in
    let mid = warc_files (d.reading c.go_to.new.disk) in
    let same : mid ≡ files = ap warc_files (c.go_to.ensures.rests told).read in
    let file : c.go_to.new.self.file ≡ c.args.last = c.in_ok-go_to.ensures.at.same in
    let rest : drop end (file_at mid c.go_to.new.self.file) ≡ unread old.position files =
    (λ i. drop end (file_at (same i) (file i))) ∙ sym (behind_is old.position.extent files c.args.last c.requires.last) in
    subst (λ (l : List ℕ). IfOk c.read_group.result (IsNextGroup old.position.namespace old.position.captures l)) rest (c.read_group.ensures.next told)
