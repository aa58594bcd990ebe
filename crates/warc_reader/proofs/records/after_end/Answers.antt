use Rattle.std.proofs.Common.{◌∙◌, sym, true≢false}
use Rattle.std.proofs.lemmas.Bool.Decides.{Decides-eqb}
use Rattle.std.proofs.lemmas.Slice.Eq.{slice_eq-Decides}
use Rattle.warc_reader.proofs.ValueLaws.{end_first, end_there, short_end}
use Rattle.warc_reader.proofs.records.after_end.Goals as goal

pub returns-then-text-clause-none : goal.returns-then-text-clause-none
returns-then-text-clause-none c = λ rest e. short_end c.args.text.now rest c.if-text.true e

pub returns-then-eq-clause-some : goal.returns-then-eq-clause-some
returns-then-eq-clause-some c =
    end_there c.args.text.now c.split_at.result.0.now c.split_at.result.1.now c.split_at.ensures.front c.split_at.ensures.back
    ((slice_eq-Decides Decides-eqb _ _ _ c.eq.ensures).0 c.if-eq.true)

pub returns-else-eq-clause-none : goal.returns-else-eq-clause-none
returns-else-eq-clause-none c = λ rest e.
    absurd (true≢false (sym ((slice_eq-Decides Decides-eqb _ _ _ c.eq.ensures).1
    (end_first c.args.text.now c.split_at.result.0.now rest c.split_at.ensures.front e)) ∙ c.if-eq.false))
