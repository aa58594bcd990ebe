use Rattle.std.proofs.Common.{◌≡◌, ◌-◌, ℕ, List, drop, length, take, sym, ap, subst, ◌∙◌, arith}
use Rattle.std.proofs.lemmas.List.{length-drop}
use Rattle.warc_journal.specs.Extents.{warc_files}
use Rattle.volume_scan.specs.steps.Next.{IsNextGroup}
use Rattle.volume_scan.specs.Unread.{file_at}
use Rattle.volume_scan.proofs.Windows.{shown_from}
use Rattle.volume_scan.proofs.asking.read_group.Goals as goal

pub returns-in-Ok-clause-next : goal.returns-in-Ok-clause-next
returns-in-Ok-clause-next g c told =
    let d = g.D.Disk in
    let place = c.args.place in
    let files = warc_files (d.reading c.args.disk.now) in
    let mid = warc_files (d.reading c.reach.new.disk) in
    let window = c.reach.new.self in
    let file = file_at mid window.file in
    let at = c.reach.ensures.at in
    let shows = c.reach.ensures.shows told in
    let same : mid ≡ files = ap warc_files ((c.reach.ensures.rests told).read ∙ (c.asking.invariant.rests told).read) in
    let one : window.file ≡ c.args.window.now.file = at.same ∙ c.asking.invariant.at.same in
    let long : length (drop place file) ≡ c.len.result - place = omega (arith, c.len.ensures, shows.len, length-drop place file) in
    let shown = subst (λ (l : List ℕ). l ≡ take (length l) (drop place file)) (sym c.behind.ensures)
    (shown_from file window.bytes.items window.from place at.from at.within shows.shown) in
    subst (λ (l : List ℕ). IsNextGroup c.args.namespace.now c.args.number l c.in-Ok.next)
    (λ i. drop place (file_at (same i) (one i))) (c.in-Ok.ensures.next (drop place file) long shown)
