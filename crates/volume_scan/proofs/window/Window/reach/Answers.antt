use Rattle.std.proofs.Common.{◌≡◌, ℕ, List, drop, length, take, sym, subst}
use Rattle.warc_journal.specs.Extents.{warc_files}
use Rattle.volume_scan.specs.Unread.{file_at}
use Rattle.volume_scan.proofs.Windows.{shown_from}
use Rattle.volume_scan.proofs.window.Window.reach.Goals as goal

pub read_on-requires-clause-there : goal.read_on-requires-clause-there
read_on-requires-clause-there g c told =
    let old = c.args.self.now in
    let file = file_at (warc_files (g.D.Disk.reading c.args.disk.now)) old.file in
    subst (λ (l : List ℕ). l ≡ take (length l) (drop c.args.place file)) (sym c.behind-shown.ensures)
    (shown_from file old.bytes.items old.from c.args.place c.requires.at.from c.requires.at.within (c.requires.shows told).shown)
