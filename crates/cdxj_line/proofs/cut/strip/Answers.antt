use Rattle.std.proofs.Common.{length, take, refl, ap, ◌∙◌}
use Rattle.std.proofs.lemmas.Bool.{false≢true}
use Rattle.std.proofs.lemmas.List.{take_at}
use Rattle.std.proofs.lemmas.Slice.Eq.{bytes_eq-Decides}
use Rattle.cdxj_line.proofs.cut.strip.Goals as goal

pub returns-else-eq-clause-found : goal.returns-else-eq-clause-found
returns-else-eq-clause-found c = λ rest is.
    let front = c.args.front.now in
    false≢true (c.if-eq.ensures ∙ (bytes_eq-Decides c.split_at.result.0.now front).1 (c.split_at.ensures.front ∙ ap (take (length front)) is ∙ take_at front rest (length front) refl))
