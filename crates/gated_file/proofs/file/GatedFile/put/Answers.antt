-- Three steps, each with its sync.
use Rattle.std.proofs.Common.{◌≡◌, ◌+◌, sym, arith}
use Rattle.std.proofs.lemmas.List.{take_all}
use Rattle.std.proofs.lemmas.Result.{on_ok_weaker}
use Rattle.disk_model.specs.Image.{Image}
use Rattle.gated_file.specs.Files.{bytes_of, text_of}
use Rattle.gated_file.proofs.Putting.{front_stays, front_stays_twice, put_first, put_second, put_third, put_only, put_reading, second_within, still_within}
use Rattle.gated_file.proofs.Results.{on_ok_both}
use Rattle.gated_file.proofs.RewriteLaws.{there_after}
use Rattle.gated_file.proofs.file.GatedFile.put.Goals as goal

pub write-requires-2-clause-in_range : goal.write-requires-2-clause-in_range
write-requires-2-clause-in_range g c told =
    second_within c.args.self.now (g.D.Disk.reading c.args.disk.now) (g.D.Disk.reading c.write.new.disk) 45 (c.requires.there told) (c.requires.in_range told) (c.in_ok-write.ensures.written told)

pub write-requires-3-clause-in_range : goal.write-requires-3-clause-in_range
write-requires-3-clause-in_range g c told =
    let gated = c.args.self.now in
    let one : Image = g.D.Disk.reading c.write.new.disk in
    still_within gated one (g.D.Disk.reading c.write-2.new.disk) gated.end (gated.end + 1) _
    (there_after gated.kind gated.file _ (g.D.Disk.reading c.args.disk.now) one (c.requires.there told) (c.in_ok-write.ensures.written told))
    (still_within gated (g.D.Disk.reading c.args.disk.now) one gated.end gated.end _ (c.requires.there told) (c.requires.in_range told) (c.in_ok-write.ensures.written told))
    (c.in_ok-write-2.ensures.written told)

pub returns-in_err-write-clause-stays : goal.returns-in_err-write-clause-stays
returns-in_err-write-clause-stays g c told =
    front_stays c.args.self.now c.args.self.now.end _ (g.D.Disk.reading c.args.disk.now) (g.D.Disk.reading c.write.new.disk) (omega arith) (c.requires.in_range told) (c.write.ensures.partial told)

pub returns-in_err-write-clause-leaves : goal.returns-in_err-write-clause-leaves
returns-in_err-write-clause-leaves g c told ended =
    let d = g.D.Disk in
    put_first d.moment d.images_since d.images d.reading c.args.self.now c.args.text.now c.split_at.result.0.now c.split_at.result.1.now c.split_at.ensures.front c.split_at.ensures.back c.requires.apart c.requires.committed
    c.args.disk.now (c.requires.there told) (c.requires.in_range told) (ended (d.reading c.args.disk.now) (g.met.D.Disk.reading_is_image c.args.disk.now told)).same ended
    c.write.new.disk c.write.ensures.leaves

pub returns-in_err-write-2-clause-stays : goal.returns-in_err-write-2-clause-stays
returns-in_err-write-2-clause-stays g c told =
    let gated = c.args.self.now in
    let start : Image = g.D.Disk.reading c.args.disk.now in
    let one : Image = g.D.Disk.reading c.write.new.disk in
    front_stays_twice gated start one (g.D.Disk.reading c.write-2.new.disk) (c.requires.there told)
    (front_stays gated gated.end 1 start one (omega arith) (c.requires.in_range told) (c.write.ensures.partial told))
    (front_stays gated (gated.end + 1) _ one (g.D.Disk.reading c.write-2.new.disk) (omega arith)
    (second_within gated start one 45 (c.requires.there told) (c.requires.in_range told) (c.in_ok-write.ensures.written told))
    (c.write-2.ensures.partial told))

pub returns-clause-stays : goal.returns-clause-stays
returns-clause-stays g c told =
    let gated = c.args.self.now in
    let start : Image = g.D.Disk.reading c.args.disk.now in
    let one : Image = g.D.Disk.reading c.write.new.disk in
    let two : Image = g.D.Disk.reading c.write-2.new.disk in
    let three : Image = g.D.Disk.reading c.write-3.new.disk in
    let there_one = there_after gated.kind gated.file _ start one (c.requires.there told) (c.in_ok-write.ensures.written told) in
    front_stays_twice gated start one three (c.requires.there told)
    (front_stays gated gated.end 1 start one (omega arith) (c.requires.in_range told) (c.write.ensures.partial told))
    (front_stays_twice gated one two three there_one
    (front_stays gated (gated.end + 1) _ one two (omega arith)
    (second_within gated start one 45 (c.requires.there told) (c.requires.in_range told) (c.in_ok-write.ensures.written told))
    (c.write-2.ensures.partial told))
    (front_stays gated gated.end _ two three (omega arith)
    (still_within gated one two gated.end (gated.end + 1) _ there_one
    (still_within gated start one gated.end gated.end _ (c.requires.there told) (c.requires.in_range told) (c.in_ok-write.ensures.written told))
    (c.in_ok-write-2.ensures.written told))
    (c.write-3.ensures.partial told)))

pub returns-in_err-write-2-clause-leaves : goal.returns-in_err-write-2-clause-leaves
returns-in_err-write-2-clause-leaves g c told ended =
    let d = g.D.Disk in
    put_second d.moment d.images_since d.images d.reading c.args.self.now c.args.text.now c.split_at.result.0.now c.split_at.result.1.now c.split_at.ensures.front c.split_at.ensures.back c.requires.apart c.requires.committed
    c.args.disk.now (c.requires.there told) (c.requires.in_range told) (ended (d.reading c.args.disk.now) (g.met.D.Disk.reading_is_image c.args.disk.now told)).same ended
    c.write.new.disk c.write-2.new.disk c.write.ensures.leaves
    (record { is = c.in_ok-write.ensures.written told; durable = c.in_ok-write.ensures.durable told; crash = c.write.ensures.crash })
    c.write-2.ensures.leaves

pub returns-clause-leaves : goal.returns-clause-leaves
returns-clause-leaves g c told ended =
    let d = g.D.Disk in
    put_third d.moment d.images_since d.images d.reading c.args.self.now c.args.text.now c.split_at.result.0.now c.split_at.result.1.now c.split_at.ensures.front c.split_at.ensures.back c.requires.apart c.requires.committed
    c.args.disk.now (c.requires.there told) (c.requires.in_range told) (ended (d.reading c.args.disk.now) (g.met.D.Disk.reading_is_image c.args.disk.now told)).same ended
    c.write.new.disk c.write-2.new.disk c.write-3.new.disk c.write.ensures.leaves
    (record { is = c.in_ok-write.ensures.written told; durable = c.in_ok-write.ensures.durable told; crash = c.write.ensures.crash })
    c.write-2.ensures.leaves
    (record { is = c.in_ok-write-2.ensures.written told; durable = c.in_ok-write-2.ensures.durable told; crash = c.write-2.ensures.crash })
    c.write-3.ensures.leaves

pub returns-clause-added : goal.returns-clause-added
returns-clause-added g c told whole =
    let d = g.D.Disk in
    let gated = c.args.self.now in
    let alone : bytes_of gated (d.reading c.args.disk.now) ≡ text_of gated (d.reading c.args.disk.now) =
    sym (take_all gated.end (bytes_of gated (d.reading c.args.disk.now)) (omega (arith, whole))) in
    on_ok_weaker c.write-3.result
    (put_reading d.moment d.images_since d.images d.reading gated c.args.text.now c.split_at.result.0.now c.split_at.result.1.now c.split_at.ensures.front c.split_at.ensures.back c.requires.apart c.requires.committed
    c.args.disk.now (c.requires.there told) (c.requires.in_range told) alone
    c.write.new.disk c.write-2.new.disk c.write-3.new.disk (c.in_ok-write.ensures.written told) (c.in_ok-write-2.ensures.written told))
    (c.write-3.ensures.written told)

pub returns-clause-only : goal.returns-clause-only
returns-clause-only g c told ended =
    let d = g.D.Disk in
    on_ok_both c.write-3.result
    (λ is durable. put_only d.moment d.images_since d.images d.reading c.args.self.now c.args.text.now c.split_at.result.0.now c.split_at.result.1.now c.split_at.ensures.front c.split_at.ensures.back c.requires.apart c.requires.committed
    c.args.disk.now (c.requires.there told) (c.requires.in_range told) (ended (d.reading c.args.disk.now) (g.met.D.Disk.reading_is_image c.args.disk.now told)).same ended
    c.write.new.disk c.write-2.new.disk c.write-3.new.disk
    (record { is = c.in_ok-write.ensures.written told; durable = c.in_ok-write.ensures.durable told; crash = c.write.ensures.crash })
    (record { is = c.in_ok-write-2.ensures.written told; durable = c.in_ok-write-2.ensures.durable told; crash = c.write-2.ensures.crash })
    (record { is = is; durable = durable; crash = c.write-3.ensures.crash }))
    (c.write-3.ensures.written told) (c.write-3.ensures.durable told)
