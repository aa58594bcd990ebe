use Rattle.std.proofs.Common.{◌≡◌, ◌+◌, ◌++◌, ℕ, List, [], drop, length, take, refl, sym, ap, ◌∙◌, arith}
use Rattle.warc_journal.specs.Extents.{warc_files}
use Rattle.volume_scan.specs.Unread.{file_at}
use Rattle.volume_scan.proofs.Parts.{rests_by}
use Rattle.volume_scan.proofs.Texts.{file_is}
use Rattle.volume_scan.proofs.Windows.{read_whole}
use Rattle.volume_scan.proofs.window.read_on.Goals as goal

pub returns-in-Ok-clause-bytes : goal.returns-in-Ok-clause-bytes
returns-in-Ok-clause-bytes g c told =
    let image = g.D.Disk.reading c.args.disk.now in
    let file = file_at (warc_files image) c.args.file in
    let there = c.args.there.now in
    let wanted = c.args.wanted in
    let m = length there in
    let n = length c.split_at_mut-into.result.1.now in
    let empty : c.in_ok-bytes.bytes.items ≡ [] = c.in_ok-bytes.ensures.items in
    let extended : c.extend_from_slice.new.self.items ≡ there = c.in_ok-extend_from_slice.ensures.items ∙ ap (λ (l : List ℕ). l ++ there) empty in
    let room : take m c.put_zeros.new.bytes.items ≡ there =
    ap (λ (l : List ℕ). take (length l) c.put_zeros.new.bytes.items) (sym extended) ∙ c.in_ok-put_zeros.ensures.front ∙ extended in
    read_whole file there c.split_at_mut-into.result.0.now c.read.new.into c.put_zeros.new.bytes.items
    c.args.place wanted m n c.put_zeros.new.bytes.len refl c.requires.more (c.requires.in_range told) (c.requires.there told) room
    (c.split_at_mut-into.ensures.front ∙ ap (λ (l : List ℕ). take m l) c.deref_mut.ensures.value)
    (omega (arith, c.split_at_mut-into.ensures.back_len, c.deref_mut.ensures.len, c.in_ok-put_zeros.ensures.len))
    (c.in-Ok.ensures.bytes told ∙ ap (λ (l : List ℕ). take n (drop (c.args.place + m) l)) (file_is image c.args.file))
    c.in_ok-put_zeros.ensures.len

pub returns-in-Ok-clause-rests : goal.returns-in-Ok-clause-rests
returns-in-Ok-clause-rests g c told =
    rests_by g.D.Disk g.met.D.Disk.now_counts c.args.disk.now c.read.new.self (c.read.ensures.reading told) c.read.ensures.crash c.read.ensures.time

pub returns-in-Err-clause-rests : goal.returns-in-Err-clause-rests
returns-in-Err-clause-rests g c told =
    rests_by g.D.Disk g.met.D.Disk.now_counts c.args.disk.now c.read.new.self (c.read.ensures.reading told) c.read.ensures.crash c.read.ensures.time
