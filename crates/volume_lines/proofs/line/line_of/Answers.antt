use Rattle.std.proofs.Common.{◌∙◌, ap}
use Rattle.index_entry.specs.Facts.{Facts}
use Rattle.cdxj_line.specs.declared.line.Line.{Line}
use Rattle.volume_lines.proofs.LineLaws.{line_at_group, record_of_outline}
use Rattle.volume_lines.proofs.line.line_of.Goals as goal

pub returns-in_ok-into_line-in-Some-clause-fit : goal.returns-in_ok-into_line-in-Some-clause-fit
returns-in_ok-into_line-in-Some-clause-fit c =
    let t = c.requires.told.3 in
    let told = rw c.in-Some.is at (c.in_ok-entry.ensures c.requires.told.0 c.requires.told.1 c.requires.told.2 t.group t.is t.told) in
    record {
      writable = c.in_ok-into_line-in-Some.ensures.writable;
      of_volume = ap (λ (l : Line). l.volume) c.in_ok-into_line-in-Some.ensures.line ∙ ap (λ (f : Facts). f.volume) told.2;
      number_is = ap (λ (l : Line). l.number) c.in_ok-into_line-in-Some.ensures.line ∙ ap (λ (f : Facts). f.number) told.2;
    }

pub returns-in_ok-into_line-in-Some-clause-line : goal.returns-in_ok-into_line-in-Some-clause-line
returns-in_ok-into_line-in-Some-clause-line c = λ namespace number bytes group is of.
    let told = rw c.in-Some.is at (c.in_ok-entry.ensures namespace number bytes group is of) in
    line_at_group group c.args.volume c.args.at of.head_is.0 of.head_is.1.reads c.args.outline.method of.method_is _
    (record_of_outline group c.args.outline of c.args.volume c.args.at) c.in-Some.entry told c.in_ok-into_line-in-Some.field-0 c.in_ok-into_line-in-Some.ensures.line

pub returns-in-None-clause-line : goal.returns-in-None-clause-line
returns-in-None-clause-line c = λ namespace number bytes group is of.
    rw c.in-None.is at (c.in_ok-entry.ensures namespace number bytes group is of)
