-- The record of a call that succeeds has the new file at its end.
use Rattle.std.proofs.Common.{rules, ◌≡◌, ℕ, [], length, sym, ap, subst}
use Rattle.disk_model.specs.Crash.{HasFile, Leaves}
use Rattle.disk_model.specs.Image.{file_count}
use Rattle.disk_model.specs.Device.{Device, IsFailedCreate, reading_of, images_of, called, changed}
use Rattle.disk_model.specs.declared.change.Change.TheVariants.{Made}
use Rattle.disk_model.proofs.Steps.{changed_reading, made_is_there, made_follows, made_time, failed_reading, failed_follows, failed_time}
use Rattle.disk_model.proofs.memory_disk.MemoryDiskDisk.create.Goals as goal
use Rattle.disk_model.proofs.memory_disk.MemoryDiskDisk.create.Goals.{After-half_make}

pub returns-clause-created : goal.returns-clause-created
returns-clause-created c =
    let same : c.change.new.self ≡ changed (Made c.args.kind) (called c.args.self.now) = search rules in
    changed_reading c.args.self.now c.change.new.self _ (ap (λ (d : Device). d.first) same) (ap (λ (d : Device). d.changes) same)

pub returns-clause-crash : goal.returns-clause-crash
returns-clause-crash c =
    let same : c.change.new.self ≡ changed (Made c.args.kind) (called c.args.self.now) = search rules in
    made_follows c.args.self.now c.change.new.self c.args.kind (ap (λ (d : Device). d.first) same) (ap (λ (d : Device). d.changes) same)

pub returns-clause-durable : goal.returns-clause-durable
returns-clause-durable c =
    let same : c.change.new.self ≡ changed (Made c.args.kind) (called c.args.self.now) = search rules in
    let number : length c.files.result.now ≡ file_count (reading_of c.args.self.now) c.args.kind = search rules in
    subst (λ (n : ℕ). Leaves (images_of c.change.new.self) (HasFile c.args.kind n [])) (sym number)
    (made_is_there c.args.self.now c.change.new.self c.args.kind (ap (λ (d : Device). d.first) same) (ap (λ (d : Device). d.changes) same))

pub returns-clause-time : goal.returns-clause-time
returns-clause-time c =
    let same : c.change.new.self ≡ changed (Made c.args.kind) (called c.args.self.now) = search rules in
    made_time c.args.self.now c.change.new.self c.args.kind (ap (λ (d : Device). d.first) same) (ap (λ (d : Device). d.changes) same)

-- what a call that fails leaves
failed : (c : After-half_make) → IsFailedCreate c.args.kind c.args.self.now c.half_make.new.self
failed c = search rules

pub returns-then-is_err-clause-partial : goal.returns-then-is_err-clause-partial
returns-then-is_err-clause-partial c = failed_reading c.args.self.now c.half_make.new.self c.args.kind (failed c)

pub returns-then-is_err-clause-crash : goal.returns-then-is_err-clause-crash
returns-then-is_err-clause-crash c = failed_follows c.args.self.now c.half_make.new.self c.args.kind (failed c)

pub returns-then-is_err-clause-time : goal.returns-then-is_err-clause-time
returns-then-is_err-clause-time c = failed_time c.args.self.now c.half_make.new.self c.args.kind (failed c)
