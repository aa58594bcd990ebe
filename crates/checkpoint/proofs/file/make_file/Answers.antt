use Rattle.std.proofs.Common.{inr, refl, ap, arith}
use Rattle.disk_model.specs.Image.{Image, file_count}
use Rattle.disk_model.specs.declared.kind.Kind.TheVariants.{Cdxj}
use Rattle.checkpoint.proofs.PuttingLaws.{makes_by}
use Rattle.checkpoint.proofs.file.make_file.Goals as goal

pub returns-in_err-create-clause-makes : goal.returns-in_err-create-clause-makes
returns-in_err-create-clause-makes g c told =
    let same = ap (λ (i : Image). file_count i Cdxj) (c.files.ensures.reading told) in
    makes_by g.D.Disk c.args.volume c.args.disk.now c.files.new.self c.create.new.self (file_count (g.D.Disk.reading c.files.new.self) Cdxj)
    c.files.ensures.time c.files.ensures.crash (c.files.ensures.reading told) c.create.ensures.time (c.in_err-create.ensures.partial told)
    (omega (arith, same, c.if-count-volume.true, c.in_ok-count.ensures.count told, c.requires.next told))

pub returns-in_ok-create-clause-makes : goal.returns-in_ok-create-clause-makes
returns-in_ok-create-clause-makes g c told =
    let same = ap (λ (i : Image). file_count i Cdxj) (c.files.ensures.reading told) in
    makes_by g.D.Disk c.args.volume c.args.disk.now c.files.new.self c.create.new.self (file_count (g.D.Disk.reading c.files.new.self) Cdxj)
    c.files.ensures.time c.files.ensures.crash (c.files.ensures.reading told) c.create.ensures.time (inr (refl, c.in_ok-create.ensures.created told))
    (omega (arith, same, c.if-count-volume.true, c.in_ok-count.ensures.count told, c.requires.next told))
