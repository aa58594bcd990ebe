use Rattle.std.proofs.Common.{◌≡◌, ◌++◌, ℕ, List, Err, map, length, ap, subst}
use Rattle.http_head.specs.Heads.{named_value}
use Rattle.http_head.specs.declared.head.Field.{Field as Part}
use Rattle.warc_reader.specs.Records.{TellsBlock, record_end}
use Rattle.warc_reader.specs.declared.record.RecordFault.TheVariants.{NotARecord}
use Rattle.warc_reader.proofs.RecordLaws.{behind_holds, none_without_block, none_without_fields, same_err}
use Rattle.warc_reader.proofs.records.read_behind_version.Goals as goal

pub returns-in-Err-clause-not_a_record : goal.returns-in-Err-clause-not_a_record
returns-in-Err-clause-not_a_record c = λ is.
    none_without_fields c.args.text.now c.in-Some.parts.0.now c.in-Some.parts.1.now (record {
      ends_at = c.heads_end_at_the_first_empty_line.ensures.sections;
      composed = c.in-Some.ensures.composed;
      ends = c.in-Some.ensures.ends;
    }) (c.in-Err.ensures.not_a_record (ap (λ e. Err e) (same_err c.in-Err.fault NotARecord is)))

pub returns-in-Some-split_block-clause-ok : goal.returns-in-Some-split_block-clause-ok
returns-in-Some-split_block-clause-ok c =
    behind_holds c.args.text.now c.in-Some.parts.0.now c.in-Some.parts.1.now
    (record { fields = c.in-Ok.fields; block = c.in-Some-split_block.block; rest = c.in-Some-split_block.rest })
    c.in-Some.ensures.composed c.in-Some.ensures.short c.in-Ok.ensures.ok c.in-Ok.ensures.few
    (subst (λ (fs : List Part). TellsBlock (map named_value fs) (length c.in-Some-split_block.block.now)) c.as_slice.ensures
    c.in-Some-split_block.ensures.told)
    c.in-Some-split_block.ensures.composed

pub returns-clause-not_a_record : goal.returns-clause-not_a_record
returns-clause-not_a_record c = λ is.
    none_without_block c.args.text.now c.in-Some.parts.0.now c.in-Some.parts.1.now c.in-Ok.fields (record {
      ends_at = c.heads_end_at_the_first_empty_line.ensures.sections;
      composed = c.in-Some.ensures.composed;
      ends = c.in-Some.ensures.ends;
    }) c.in-Ok.ensures.ok
    (subst (λ (fs : List Part). (block rest : List ℕ) → TellsBlock (map named_value fs) (length block)
    → ¬ (c.in-Some.parts.1.now ≡ block ++ record_end ++ rest)) c.as_slice.ensures c.in-None-split_block.ensures.none)
