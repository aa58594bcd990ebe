use Rattle.std.proofs.Common.{sym, ap, ◌∙◌, List, ℕ, length, arith}
use Rattle.disk_model.specs.Image.{Image, file_count}
use Rattle.disk_model.specs.declared.kind.Kind.TheVariants.{Cdxj}
use Rattle.checkpoint.proofs.Missing.{missing_file}
use Rattle.checkpoint.proofs.bytes.synced_len.Goals as goal

pub returns-then-count-volume-clause-len : goal.returns-then-count-volume-clause-len
returns-then-count-volume-clause-len g c = λ told.
    sym (ap (λ (t : List ℕ). length t) (missing_file (g.D.Disk.reading c.args.disk.now) c.args.volume (omega (arith, c.if-count-volume.true, c.in_ok-count.ensures.count told))))

pub returns-then-count-volume-clause-synced : goal.returns-then-count-volume-clause-synced
returns-then-count-volume-clause-synced g c = λ told image left.
    let few = g.met.D.Disk.no_more_files c.files.new.self image Cdxj left in
    let same = ap (λ (i : Image). file_count i Cdxj) (c.files.ensures.reading told) in
    missing_file image c.args.volume (omega (arith, few, same, c.if-count-volume.true, c.in_ok-count.ensures.count told))
    ∙ sym (missing_file (g.D.Disk.reading c.args.disk.now) c.args.volume (omega (arith, c.if-count-volume.true, c.in_ok-count.ensures.count told)))
