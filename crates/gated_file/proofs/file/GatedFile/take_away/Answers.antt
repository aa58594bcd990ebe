-- A sync, the commit byte taken off, and a cut.
use Rattle.std.proofs.Common.{refl, sym, subst}
use Rattle.std.proofs.lemmas.Result.{on_ok_weaker}
use Rattle.disk_model.specs.Image.{Image}
use Rattle.gated_file.specs.Files.{KeepsFront}
use Rattle.gated_file.specs.steps.Mending.{IsSynced}
use Rattle.gated_file.proofs.Mending.{all_until, mend_leaves, mend_only, mend_reading, stays_new, stays_two, stays_within}
use Rattle.gated_file.proofs.Results.{on_ok_both}
use Rattle.gated_file.proofs.RewriteLaws.{on_file_same}
use Rattle.gated_file.proofs.file.GatedFile.take_away.Goals as goal

pub returns-in_err-sync-clause-stays : goal.returns-in_err-sync-clause-stays
returns-in_err-sync-clause-stays g c told =
    let gated = c.args.self.now in
    on_file_same gated.kind gated.file (KeepsFront gated.end) (g.D.Disk.reading c.args.disk.now) (g.D.Disk.reading c.sync.new.self) refl (c.sync.ensures.reading told)

pub returns-in_err-uncommit-clause-stays : goal.returns-in_err-uncommit-clause-stays
returns-in_err-uncommit-clause-stays g c told =
    let d = g.D.Disk in
    let m = g.met.D.Disk in
    let gated = c.args.self.now in
    let first = c.args.disk.now in
    let start = c.sync.new.self in
    let two = c.uncommit.new.disk in
    let same = c.sync.ensures.reading told in
    let synced : IsSynced gated (d.reading start) (d.images start) = subst (λ (r : Image). IsSynced gated r (d.images start)) (sym same) c.in_ok-sync.ensures.durable in
    stays_two d.moment d.images_since d.images d.reading m.now_counts m.now_only gated first start two (c.requires.there told) (c.requires.in_range told) same c.sync.ensures.crash c.sync.ensures.time (c.uncommit.ensures.leaves told synced) (c.uncommit.ensures.stays told)

pub returns-in_err-uncommit-clause-leaves : goal.returns-in_err-uncommit-clause-leaves
returns-in_err-uncommit-clause-leaves g c told =
    let d = g.D.Disk in
    let m = g.met.D.Disk in
    let gated = c.args.self.now in
    let first = c.args.disk.now in
    let start = c.sync.new.self in
    let two = c.uncommit.new.disk in
    let same = c.sync.ensures.reading told in
    let synced : IsSynced gated (d.reading start) (d.images start) = subst (λ (r : Image). IsSynced gated r (d.images start)) (sym same) c.in_ok-sync.ensures.durable in
    all_until d.moment d.images_since d.images d.reading m.now_counts m.now_only gated first start two (c.requires.there told) (c.requires.in_range told) same c.sync.ensures.crash c.sync.ensures.time (c.uncommit.ensures.leaves told synced) two (c.uncommit.ensures.leaves told synced)

pub cut_off-requires-clause-in_range : goal.cut_off-requires-clause-in_range
cut_off-requires-clause-in_range g c told =
    let d = g.D.Disk in
    let m = g.met.D.Disk in
    let gated = c.args.self.now in
    let first = c.args.disk.now in
    let start = c.sync.new.self in
    let two = c.uncommit.new.disk in
    let same = c.sync.ensures.reading told in
    let synced : IsSynced gated (d.reading start) (d.images start) = subst (λ (r : Image). IsSynced gated r (d.images start)) (sym same) c.in_ok-sync.ensures.durable in
    stays_within gated (d.reading first) (d.reading two) (c.requires.there told) (c.requires.in_range told) (stays_two d.moment d.images_since d.images d.reading m.now_counts m.now_only gated first start two (c.requires.there told) (c.requires.in_range told) same c.sync.ensures.crash c.sync.ensures.time (c.uncommit.ensures.leaves told synced) (c.uncommit.ensures.stays told))

pub returns-clause-stays : goal.returns-clause-stays
returns-clause-stays g c told =
    let d = g.D.Disk in
    let m = g.met.D.Disk in
    let gated = c.args.self.now in
    let first = c.args.disk.now in
    let start = c.sync.new.self in
    let two = c.uncommit.new.disk in
    let same = c.sync.ensures.reading told in
    let synced : IsSynced gated (d.reading start) (d.images start) = subst (λ (r : Image). IsSynced gated r (d.images start)) (sym same) c.in_ok-sync.ensures.durable in
    stays_new d.moment d.images_since d.images d.reading m.now_counts m.now_only gated first start two (c.requires.there told) (c.requires.in_range told) same c.sync.ensures.crash c.sync.ensures.time (c.uncommit.ensures.leaves told synced) (c.uncommit.ensures.stays told) c.cut_off.new.disk (c.cut_off.ensures.partial told)

pub returns-clause-leaves : goal.returns-clause-leaves
returns-clause-leaves g c told =
    let d = g.D.Disk in
    let m = g.met.D.Disk in
    let gated = c.args.self.now in
    let first = c.args.disk.now in
    let start = c.sync.new.self in
    let two = c.uncommit.new.disk in
    let same = c.sync.ensures.reading told in
    let synced : IsSynced gated (d.reading start) (d.images start) = subst (λ (r : Image). IsSynced gated r (d.images start)) (sym same) c.in_ok-sync.ensures.durable in
    mend_leaves d.moment d.images_since d.images d.reading m.now_counts m.now_only gated first start two (c.requires.there told) (c.requires.in_range told) same c.sync.ensures.crash c.sync.ensures.time (c.uncommit.ensures.leaves told synced) (c.uncommit.ensures.stays told) (c.in_ok-uncommit.ensures.synced told synced) (c.in_ok-uncommit.ensures.rest told) c.cut_off.new.disk c.cut_off.ensures.leaves

pub returns-clause-mended : goal.returns-clause-mended
returns-clause-mended g c told =
    let d = g.D.Disk in
    let m = g.met.D.Disk in
    let gated = c.args.self.now in
    let first = c.args.disk.now in
    let start = c.sync.new.self in
    let two = c.uncommit.new.disk in
    let same = c.sync.ensures.reading told in
    let synced : IsSynced gated (d.reading start) (d.images start) = subst (λ (r : Image). IsSynced gated r (d.images start)) (sym same) c.in_ok-sync.ensures.durable in
    on_ok_weaker c.cut_off.result (mend_reading d.moment d.images_since d.images d.reading m.now_counts m.now_only gated first start two (c.requires.there told) (c.requires.in_range told) same c.sync.ensures.crash c.sync.ensures.time (c.uncommit.ensures.leaves told synced) (c.uncommit.ensures.stays told) (c.in_ok-uncommit.ensures.synced told synced) (c.in_ok-uncommit.ensures.rest told) c.cut_off.new.disk) (c.cut_off.ensures.cut told)

pub returns-clause-only : goal.returns-clause-only
returns-clause-only g c told =
    let d = g.D.Disk in
    let m = g.met.D.Disk in
    let gated = c.args.self.now in
    let first = c.args.disk.now in
    let start = c.sync.new.self in
    let two = c.uncommit.new.disk in
    let same = c.sync.ensures.reading told in
    let synced : IsSynced gated (d.reading start) (d.images start) = subst (λ (r : Image). IsSynced gated r (d.images start)) (sym same) c.in_ok-sync.ensures.durable in
    on_ok_both c.cut_off.result (mend_only d.moment d.images_since d.images d.reading m.now_counts m.now_only gated first start two (c.requires.there told) (c.requires.in_range told) same c.sync.ensures.crash c.sync.ensures.time (c.uncommit.ensures.leaves told synced) (c.uncommit.ensures.stays told) (c.in_ok-uncommit.ensures.synced told synced) (c.in_ok-uncommit.ensures.rest told) c.cut_off.new.disk c.cut_off.ensures.crash) (c.cut_off.ensures.durable told) (c.cut_off.ensures.cut told)
