-- A call that fails keeps the record, and one that succeeds has the write at its end.
use Rattle.std.proofs.Common.{rules, ◌≡◌, ◌∙◌, ap, length}
use Rattle.disk_model.specs.steps.CrashLaws.{torn_none}
use Rattle.disk_model.specs.Device.{Device, called, faulted, changed}
use Rattle.disk_model.specs.declared.change.Change.TheVariants.{Wrote}
use Rattle.disk_model.proofs.Steps.{kept_on_file, kept_follows, changed_reading, changed_images, changed_time}
use Rattle.disk_model.proofs.memory_disk.MemoryDiskDisk.write_at.Goals as goal

pub returns-then-is_err-clause-partial : goal.returns-then-is_err-clause-partial
returns-then-is_err-clause-partial c =
    let same : c.begin.new.self ≡ faulted (called c.args.self.now) = search rules in
    kept_on_file c.args.self.now c.begin.new.self (ap (λ (d : Device). d.first) same) (ap (λ (d : Device). d.changes) same) c.args.kind c.args.file _ (torn_none c.args.at (length c.args.bytes.now))

pub returns-then-is_err-clause-crash : goal.returns-then-is_err-clause-crash
returns-then-is_err-clause-crash c =
    let same : c.begin.new.self ≡ faulted (called c.args.self.now) = search rules in
    kept_follows c.args.self.now c.begin.new.self (ap (λ (d : Device). d.first) same) (ap (λ (d : Device). d.changes) same) c.args.kind c.args.file _ (torn_none c.args.at (length c.args.bytes.now))

pub returns-in_default-clause-partial : goal.returns-in_default-clause-partial
returns-in_default-clause-partial c =
    let begun : c.begin.new.self ≡ called c.args.self.now = search rules in
    let same = c.fault.ensures.faulted ∙ ap faulted begun in
    kept_on_file c.args.self.now c.fault.new.self (ap (λ (d : Device). d.first) same) (ap (λ (d : Device). d.changes) same) c.args.kind c.args.file _ (torn_none c.args.at (length c.args.bytes.now))

pub returns-in_default-clause-crash : goal.returns-in_default-clause-crash
returns-in_default-clause-crash c =
    let begun : c.begin.new.self ≡ called c.args.self.now = search rules in
    let same = c.fault.ensures.faulted ∙ ap faulted begun in
    kept_follows c.args.self.now c.fault.new.self (ap (λ (d : Device). d.first) same) (ap (λ (d : Device). d.changes) same) c.args.kind c.args.file _ (torn_none c.args.at (length c.args.bytes.now))

pub returns-then-is_err-2-clause-partial : goal.returns-then-is_err-2-clause-partial
returns-then-is_err-2-clause-partial c =
    let same : c.change.new.self ≡ faulted (called c.args.self.now) = search rules in
    kept_on_file c.args.self.now c.change.new.self (ap (λ (d : Device). d.first) same) (ap (λ (d : Device). d.changes) same) c.args.kind c.args.file _ (torn_none c.args.at (length c.args.bytes.now))

pub returns-then-is_err-2-clause-crash : goal.returns-then-is_err-2-clause-crash
returns-then-is_err-2-clause-crash c =
    let same : c.change.new.self ≡ faulted (called c.args.self.now) = search rules in
    kept_follows c.args.self.now c.change.new.self (ap (λ (d : Device). d.first) same) (ap (λ (d : Device). d.changes) same) c.args.kind c.args.file _ (torn_none c.args.at (length c.args.bytes.now))

-- the write that the record ends with
written_last : (c : goal.Else-is_err-2) → c.change.new.self ≡ changed (Wrote c.args.kind c.args.file c.args.at c.args.bytes.now) (called c.args.self.now)
written_last c =
    let bytes : c.of-bytes.result ≡ c.args.bytes.now = search rules in
    let begun : c.begin.new.self ≡ called c.args.self.now = search rules in
    let done : c.change.new.self ≡ changed (Wrote c.args.kind c.args.file c.args.at c.of-bytes.result) c.begin.new.self = search rules in
    done ∙ (λ i. changed (Wrote c.args.kind c.args.file c.args.at (bytes i)) (begun i))

pub returns-clause-written : goal.returns-clause-written
returns-clause-written c =
    let same = written_last c in
    changed_reading c.args.self.now c.change.new.self _ (ap (λ (d : Device). d.first) same) (ap (λ (d : Device). d.changes) same)

pub returns-clause-crash : goal.returns-clause-crash
returns-clause-crash c =
    let same = written_last c in
    changed_images c.args.self.now c.change.new.self _ (ap (λ (d : Device). d.first) same) (ap (λ (d : Device). d.changes) same)

pub returns-clause-time : goal.returns-clause-time
returns-clause-time c =
    let same = written_last c in
    changed_time c.args.self.now c.change.new.self _ (ap (λ (d : Device). d.first) same) (ap (λ (d : Device). d.changes) same)
