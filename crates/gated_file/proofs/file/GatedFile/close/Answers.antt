-- The byte is written and synced, or put back.
use Rattle.std.proofs.Common.{◌≡◌, [], ◌∷◌, ℕ, List, drop, sym, subst, arith}
use Rattle.disk_model.specs.Image.{Image, with_file, written}
use Rattle.capture.specs.Tails.{IsRest}
use Rattle.gated_file.specs.Files.{bytes_of}
use Rattle.gated_file.proofs.Bytes.{closed_rest}
use Rattle.gated_file.proofs.Closing.{after_sync, put_back_adds, torn_done, torn_either_way}
use Rattle.gated_file.proofs.Putting.{front_stays, front_stays_twice, still_within}
use Rattle.gated_file.proofs.RewriteLaws.{bytes_after, there_after}
use Rattle.gated_file.proofs.file.GatedFile.close.Goals as goal

pub sync-requires : goal.sync-requires
sync-requires g c told =
    let gated = c.args.self.now in
    there_after gated.kind gated.file _ (g.D.Disk.reading c.args.disk.now) (g.D.Disk.reading c.write_at.new.self) (c.requires.there told) (c.in_ok-write_at.ensures.written told)

pub write_at-requires-then-is_err-clause-there : goal.write_at-requires-then-is_err-clause-there
write_at-requires-then-is_err-clause-there g c told =
    let gated = c.args.self.now in
    let is : g.D.Disk.reading c.sync.new.self ≡ with_file (g.D.Disk.reading c.args.disk.now) gated.kind gated.file (written (bytes_of gated (g.D.Disk.reading c.args.disk.now)) gated.end (45 ∷ [])) =
    after_sync gated (written (bytes_of gated (g.D.Disk.reading c.args.disk.now)) gated.end (45 ∷ [])) (g.D.Disk.reading c.args.disk.now) (g.D.Disk.reading c.write_at.new.self) (g.D.Disk.reading c.sync.new.self) (c.sync.ensures.reading told) (c.in_ok-write_at.ensures.written told) in
    there_after gated.kind gated.file _ (g.D.Disk.reading c.args.disk.now) (g.D.Disk.reading c.sync.new.self) (c.requires.there told) is

pub write_at-requires-then-is_err-clause-in_range : goal.write_at-requires-then-is_err-clause-in_range
write_at-requires-then-is_err-clause-in_range g c told =
    let gated = c.args.self.now in
    let is : g.D.Disk.reading c.sync.new.self ≡ with_file (g.D.Disk.reading c.args.disk.now) gated.kind gated.file (written (bytes_of gated (g.D.Disk.reading c.args.disk.now)) gated.end (45 ∷ [])) =
    after_sync gated (written (bytes_of gated (g.D.Disk.reading c.args.disk.now)) gated.end (45 ∷ [])) (g.D.Disk.reading c.args.disk.now) (g.D.Disk.reading c.write_at.new.self) (g.D.Disk.reading c.sync.new.self) (c.sync.ensures.reading told) (c.in_ok-write_at.ensures.written told) in
    still_within gated (g.D.Disk.reading c.args.disk.now) (g.D.Disk.reading c.sync.new.self) gated.end gated.end _ (c.requires.there told) (c.requires.in_range told) is

pub returns-then-is_err-clause-stays : goal.returns-then-is_err-clause-stays
returns-then-is_err-clause-stays g c told =
    let gated = c.args.self.now in
    let start : Image = g.D.Disk.reading c.args.disk.now in
    let two : Image = g.D.Disk.reading c.sync.new.self in
    let three : Image = g.D.Disk.reading c.write_at-then-is_err.new.self in
    let is : two ≡ with_file start gated.kind gated.file (written (bytes_of gated start) gated.end (45 ∷ [])) =
    after_sync gated (written (bytes_of gated start) gated.end (45 ∷ [])) start (g.D.Disk.reading c.write_at.new.self) two (c.sync.ensures.reading told) (c.in_ok-write_at.ensures.written told) in
    front_stays_twice gated start two three (c.requires.there told)
    (front_stays gated gated.end 1 start two (omega arith) (c.requires.in_range told) (torn_done gated 45 start two is))
    (front_stays gated gated.end 1 two three (omega arith) (still_within gated start two gated.end gated.end (45 ∷ []) (c.requires.there told) (c.requires.in_range told) is)
    (torn_either_way gated gated.commit two three c.write_at-then-is_err.result (c.write_at-then-is_err.ensures.written told) (c.write_at-then-is_err.ensures.partial told)))

pub returns-then-is_err-clause-leaves : goal.returns-then-is_err-clause-leaves
returns-then-is_err-clause-leaves g c told committed synced =
    let d = g.D.Disk in
    put_back_adds d.moment d.images_since d.images d.reading c.args.self.now c.args.disk.now c.write_at.new.self c.sync.new.self c.write_at-then-is_err.new.self committed synced
    c.write_at.ensures.crash c.write_at.ensures.time c.sync.ensures.crash c.sync.ensures.time c.write_at-then-is_err.ensures.crash c.write_at-then-is_err.ensures.time

pub returns-clause-rest : goal.returns-clause-rest
returns-clause-rest g c told =
    let gated = c.args.self.now in
    let is : g.D.Disk.reading c.sync.new.self ≡ with_file (g.D.Disk.reading c.args.disk.now) gated.kind gated.file (written (bytes_of gated (g.D.Disk.reading c.args.disk.now)) gated.end (45 ∷ [])) =
    after_sync gated (written (bytes_of gated (g.D.Disk.reading c.args.disk.now)) gated.end (45 ∷ [])) (g.D.Disk.reading c.args.disk.now) (g.D.Disk.reading c.write_at.new.self) (g.D.Disk.reading c.sync.new.self) (c.sync.ensures.reading told) (c.in_ok-write_at.ensures.written told) in
    let start : Image = g.D.Disk.reading c.args.disk.now in
    subst (λ (bytes : List ℕ). IsRest gated.commit (drop gated.end bytes))
    (sym (bytes_after gated.kind gated.file _ start (g.D.Disk.reading c.sync.new.self) (c.requires.there told) is))
    (closed_rest gated.commit gated.end (bytes_of gated start) c.requires.apart (c.requires.in_range told))
