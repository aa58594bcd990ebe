use Rattle.std.proofs.Common.{subst, sym, arith}
use Rattle.record_opening.specs.OpenValues.{length_mark}
use Rattle.record_opening.specs.RecordLines.{TellsLength}
use Rattle.record_opening.proofs.RecordEnds.{mark_stands, passes_line, strips, strips_none}
use Rattle.record_opening.proofs.cut.behind_length_mark.Goals as goal

pub returns-in-Some-clause-behind : goal.returns-in-Some-clause-behind
returns-in-Some-clause-behind c = λ rest is.
    mark_stands c.lines.lines.now rest c.in-Some.told.now (c.lines.invariant.tells rest is)
    (strips length_mark c.lines.lines.now c.in-Some.told.now c.in-Some.ensures.cases.0 c.in-Some.ensures.cases.1)

pub returns-in_err-lines-clause-behind : goal.returns-in_err-lines-clause-behind
returns-in_err-lines-clause-behind c = λ rest is.
    let passes = passes_line c.lines.lines.now rest (c.lines.invariant.tells rest is) (λ found. strips_none length_mark c.lines.lines.now found c.in_default.ensures.cases) in
    absurd (c.in_err-lines.ensures.behind passes.behind passes.line)

pub lines-preserved : goal.lines-preserved
lines-preserved c = record {
  tells = λ rest is.
      let passes = passes_line c.lines.lines.now rest (c.lines.invariant.tells rest is) (λ found. strips_none length_mark c.lines.lines.now found c.in_default.ensures.cases) in
      subst (λ b. TellsLength b rest) (sym (c.in_ok-lines.ensures.behind passes.behind passes.line)) passes.tells;
  inside = omega (arith, c.lines.invariant.inside, c.in_ok-lines.ensures.inside);
}
