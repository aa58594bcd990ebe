use Rattle.std.proofs.Common.{◌≡◌, ◌↔◌, IsTrue, List, subst}
use Rattle.std.proofs.lemmas.Slice.Eq.{slice_eq-Decides}
use Rattle.cdxj_line.specs.declared.line.Line.{Line}
use Rattle.archive_settling.proofs.MissingLaws.{line_decides}
use Rattle.archive_settling.proofs.missing.are_same.Goals as goal

pub returns : goal.returns
returns c =
    subst (λ (l : List Line). IsTrue c.eq.result ↔ l ≡ c.args.lines.now) c.as_slice.ensures.value (slice_eq-Decides line_decides _ _ _ c.eq.ensures)
