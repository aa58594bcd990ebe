use Rattle.std.proofs.Common.{◌∙◌, sym, true≢false, inl, inr, arith}
use Rattle.std.proofs.lemmas.Bool.Decides.{Decides-eqb}
use Rattle.std.proofs.lemmas.Slice.Eq.{slice_eq-Decides}
use Rattle.warc_reader.proofs.ValueLaws.{short_line, two_versions, version_there}
use Rattle.warc_reader.proofs.records.after_version.Goals as goal

pub returns-then-text-clause-none : goal.returns-then-text-clause-none
returns-then-text-clause-none c = λ minor rest low e. short_line c.args.text.now rest minor c.if-text.true e

pub returns-then-eq-clause-some : goal.returns-then-eq-clause-some
returns-then-eq-clause-some c =
    version_there c.args.text.now c.split_at.result.0.now c.split_at.result.1.now 0 (omega arith) c.split_at.ensures.front c.split_at.ensures.back
    ((slice_eq-Decides Decides-eqb _ _ _ c.eq.ensures).0 c.if-eq.true)

pub returns-then-eq-2-clause-some : goal.returns-then-eq-2-clause-some
returns-then-eq-2-clause-some c =
    version_there c.args.text.now c.split_at.result.0.now c.split_at.result.1.now 1 (omega arith) c.split_at.ensures.front c.split_at.ensures.back
    ((slice_eq-Decides Decides-eqb _ _ _ c.eq-2.ensures).0 c.if-eq-2.true)

pub returns-clause-none : goal.returns-clause-none
returns-clause-none c = λ minor rest low e.
    elim (two_versions c.args.text.now c.split_at.result.0.now rest minor low c.split_at.ensures.front e) [
      | inl is ↦ absurd (true≢false (sym ((slice_eq-Decides Decides-eqb _ _ _ c.eq.ensures).1 is) ∙ c.if-eq.false))
      | inr is ↦ absurd (true≢false (sym ((slice_eq-Decides Decides-eqb _ _ _ c.eq-2.ensures).1 is) ∙ c.if-eq-2.false))
    ]
