use Rattle.std.proofs.Common.{Err, ap, ◌-◌, length, refl, subst, sym}
use Rattle.warc_reader.specs.Records.{BeginsWithRecord, HoldsRecord}
use Rattle.warc_reader.proofs.FileLaws.{begins_next, gives_seen, reads_known, reads_next, some_bytes}
use Rattle.warc_reader.proofs.captures.CaptureReader.next.Goals as goal

pub unreachable-requires : goal.unreachable-requires
unreachable-requires c =
    c.in-Err-NotARecord.ensures.not_a_record (ap Err c.in-Err-NotARecord.field-0-is)
    (subst BeginsWithRecord (sym c.split_at.ensures.back)
    (begins_next c.self.inside.file.now c.self.inside.requests c.self.inside.at c.self.invariant
    (some_bytes c.split_at.result.1.now _ c.is_empty.result c.is_empty.ensures c.if-is_empty.false c.split_at.ensures.back)))

pub outcome_of-requires : goal.outcome_of-requires
outcome_of-requires c = reads_known c.self.inside.file.now c.self.inside.requests c.self.inside.at c.self.invariant

pub invariant_of-self : goal.invariant_of-self
invariant_of-self c =
    reads_next c.self.inside.file.now c.self.inside.requests c.self.inside.at _ c.in-Ok.record c.self.invariant
    (subst (λ t. HoldsRecord t c.in-Ok.record) c.split_at.ensures.back c.in-Ok.ensures.ok) refl

pub returns-clause-gives : goal.returns-clause-gives
returns-clause-gives c =
    gives_seen c.self.inside.file.now c.self.inside.at c.args.self.now
    (record { file = c.self.inside.file.now; at = length c.self.inside.file.now - length c.in-Ok.record.rest.now }) c.in-Ok.record
    c.in_ok-outcome.outcome c.self.view_is (subst (λ t. HoldsRecord t c.in-Ok.record) c.split_at.ensures.back c.in-Ok.ensures.ok)
    c.in_ok-outcome.ensures refl refl
