use Rattle.std.proofs.Common.{◌≡◌, ℕ, List, length, drop, take, sym, ap, ◌∙◌, arith}
use Rattle.disk_model.specs.Image.{Image}
use Rattle.warc_journal.specs.Extents.{warc_files}
use Rattle.volume_scan.specs.Unread.{file_at}
use Rattle.volume_scan.proofs.Texts.{file_is}
use Rattle.volume_scan.proofs.window.Window.go_to.Goals as goal

pub returns-clause-shows : goal.returns-clause-shows
returns-clause-shows g c told =
    let old = g.D.Disk.reading c.args.disk.now in
    let new = g.D.Disk.reading c.len.new.self in
    let files : file_at (warc_files new) c.args.file ≡ file_at (warc_files old) c.args.file =
    ap (λ (image : Image). file_at (warc_files image) c.args.file) (c.len.ensures.reading told) in
    let len : c.max-len.result ≡ length (file_at (warc_files old) c.args.file) =
    omega (arith, c.max-len.ensures, c.in_ok-len.ensures.length told, c.requires.within told, ap length (file_is old c.args.file)) in
    record {
      len = len ∙ sym (ap length files);
      shown = c.clear.ensures.items ∙ sym (ap (λ (l : List ℕ). take (length l) (drop c.args.place (file_at (warc_files new) c.args.file))) c.clear.ensures.items);
    }
