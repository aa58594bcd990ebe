use Rattle.std.proofs.Common.{ap, map, refl, subst, sym, ◌∙◌}
use Rattle.http_head.specs.Heads.{named_value}
use Rattle.warc_reader.specs.Files.{HasNotTaken}
use Rattle.warc_reader.specs.Imports.{IsOutcome, IsSkipped}
use Rattle.warc_reader.specs.Requests.{placed_from}
use Rattle.warc_reader.proofs.OutcomeLaws.{as_read}
use Rattle.warc_reader.proofs.outcomes.outcome_of.Goals as goal

pub returns-in-Err-Because : goal.returns-in-Err-Because
returns-in-Err-Because c = λ records form is fields block.
    let fs = map named_value c.as_slice-in-Response.result.now in
    subst (IsOutcome (placed_from 0 records) (record { at = c.args.at; form = form })) (sym c.skipped.ensures) (
      refl,
      as_read (λ gs b. IsSkipped (placed_from 0 records) gs b c.in-Err-Because.reason) fs _ c.args.parts.now.block.now _
          (ap (map named_value) c.as_slice-in-Response.ensures ∙ fields) block
          (subst (HasNotTaken (placed_from 0 records) fs c.args.parts.now.block.now) c.in-Err-Because.field-0-is (c.in-Err-Because.ensures.not_taken records is)),
    )
