use Rattle.std.proofs.Common.{◌≡◌, ap, sym, ◌∙◌}
use Rattle.std.proofs.lemmas.Bool.{false≢true}
use Rattle.std.proofs.lemmas.Slice.Eq.{bytes_eq-Decides}
use Rattle.time_text.specs.Texts.{time_digits}
use Rattle.cdxj_line.proofs.read.date_of.Goals as goal

pub returns-else-eq-clause-found : goal.returns-else-eq-clause-found
returns-else-eq-clause-found c = λ date fits e.
    let found = c.in-Ok.ensures.reads_back date fits e in
    let same : c.in-Ok.date ≡ date = cc in
    absurd (false≢true (c.if-eq.ensures ∙ (bytes_eq-Decides c.as_slice.result.now c.args.digits.now).1 (c.as_slice.ensures ∙ c.in-Ok-write_time.ensures.1 ∙ ap time_digits same ∙ sym e)))
