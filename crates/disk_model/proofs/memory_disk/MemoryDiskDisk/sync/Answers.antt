-- The record of a call that succeeds has the sync at its end.
use Rattle.std.proofs.Common.{rules, ◌≡◌, ap}
use Rattle.disk_model.specs.Device.{Device, called, changed}
use Rattle.disk_model.specs.declared.change.Change.TheVariants.{Synced}
use Rattle.disk_model.proofs.Steps.{changed_reading, changed_images, synced_is_there}
use Rattle.disk_model.proofs.memory_disk.MemoryDiskDisk.sync.Goals as goal

pub returns-clause-durable : goal.returns-clause-durable
returns-clause-durable c =
    let same : c.change.new.self ≡ changed (Synced c.args.kind c.args.file) (called c.args.self.now) = search rules in
    synced_is_there c.args.self.now c.change.new.self c.args.kind c.args.file (ap (λ (d : Device). d.first) same) (ap (λ (d : Device). d.changes) same) c.requires

pub returns-clause-reading : goal.returns-clause-reading
returns-clause-reading c =
    let same : c.change.new.self ≡ changed (Synced c.args.kind c.args.file) (called c.args.self.now) = search rules in
    changed_reading c.args.self.now c.change.new.self _ (ap (λ (d : Device). d.first) same) (ap (λ (d : Device). d.changes) same)

pub returns-clause-crash : goal.returns-clause-crash
returns-clause-crash c =
    let same : c.change.new.self ≡ changed (Synced c.args.kind c.args.file) (called c.args.self.now) = search rules in
    λ image left. (changed_images c.args.self.now c.change.new.self _ (ap (λ (d : Device). d.first) same) (ap (λ (d : Device). d.changes) same) image left).0
