-- A call that fails keeps the record, and one that succeeds has the cut at its end.
use Rattle.std.proofs.Common.{rules, ◌≡◌, ap}
use Rattle.disk_model.specs.steps.CrashLaws.{cut_none}
use Rattle.disk_model.specs.Device.{Device, called, faulted, changed}
use Rattle.disk_model.specs.declared.change.Change.TheVariants.{Shortened}
use Rattle.disk_model.proofs.Steps.{kept_on_file, kept_follows, changed_reading, changed_images}
use Rattle.disk_model.proofs.memory_disk.MemoryDiskDisk.cut.Goals as goal

pub returns-then-is_err-clause-partial : goal.returns-then-is_err-clause-partial
returns-then-is_err-clause-partial c =
    let same : c.begin.new.self ≡ faulted (called c.args.self.now) = search rules in
    kept_on_file c.args.self.now c.begin.new.self (ap (λ (d : Device). d.first) same) (ap (λ (d : Device). d.changes) same) c.args.kind c.args.file _ (cut_none c.args.len)

pub returns-then-is_err-clause-crash : goal.returns-then-is_err-clause-crash
returns-then-is_err-clause-crash c =
    let same : c.begin.new.self ≡ faulted (called c.args.self.now) = search rules in
    kept_follows c.args.self.now c.begin.new.self (ap (λ (d : Device). d.first) same) (ap (λ (d : Device). d.changes) same) c.args.kind c.args.file _ (cut_none c.args.len)

pub returns-then-is_err-2-clause-partial : goal.returns-then-is_err-2-clause-partial
returns-then-is_err-2-clause-partial c =
    let same : c.change.new.self ≡ faulted (called c.args.self.now) = search rules in
    kept_on_file c.args.self.now c.change.new.self (ap (λ (d : Device). d.first) same) (ap (λ (d : Device). d.changes) same) c.args.kind c.args.file _ (cut_none c.args.len)

pub returns-then-is_err-2-clause-crash : goal.returns-then-is_err-2-clause-crash
returns-then-is_err-2-clause-crash c =
    let same : c.change.new.self ≡ faulted (called c.args.self.now) = search rules in
    kept_follows c.args.self.now c.change.new.self (ap (λ (d : Device). d.first) same) (ap (λ (d : Device). d.changes) same) c.args.kind c.args.file _ (cut_none c.args.len)

pub returns-clause-cut : goal.returns-clause-cut
returns-clause-cut c =
    let same : c.change.new.self ≡ changed (Shortened c.args.kind c.args.file c.args.len) (called c.args.self.now) = search rules in
    changed_reading c.args.self.now c.change.new.self _ (ap (λ (d : Device). d.first) same) (ap (λ (d : Device). d.changes) same)

pub returns-clause-crash : goal.returns-clause-crash
returns-clause-crash c =
    let same : c.change.new.self ≡ changed (Shortened c.args.kind c.args.file c.args.len) (called c.args.self.now) = search rules in
    changed_images c.args.self.now c.change.new.self _ (ap (λ (d : Device). d.first) same) (ap (λ (d : Device). d.changes) same)
