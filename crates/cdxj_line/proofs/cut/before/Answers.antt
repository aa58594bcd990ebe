use Rattle.std.proofs.Common.{◌≡◌, ◌-◌, length, length-append, take, drop, ap, ◌∙◌, arith}
use Rattle.std.proofs.lemmas.Bool.{false≢true}
use Rattle.std.proofs.lemmas.List.{take_at, drop_at}
use Rattle.std.proofs.lemmas.Slice.Eq.{bytes_eq-Decides}
use Rattle.cdxj_line.proofs.cut.before.Goals as goal

pub returns-else-eq-clause-found : goal.returns-else-eq-clause-found
returns-else-eq-clause-found c = λ front is.
    let end = c.args.end.now in
    let n = length c.args.text.now - length end in
    let long : length front ≡ n = omega (arith, ap length is, length-append front end) in
    absurd (false≢true (c.if-eq.ensures ∙ (bytes_eq-Decides c.split_at.result.1.now end).1 (c.split_at.ensures.back ∙ ap (drop n) is ∙ drop_at front end n long)))

pub returns-then-eq-clause-found : goal.returns-then-eq-clause-found
returns-then-eq-clause-found c = λ front is.
    let end = c.args.end.now in
    let n = length c.args.text.now - length end in
    let long : length front ≡ n = omega (arith, ap length is, length-append front end) in
    c.split_at.ensures.front ∙ ap (take n) is ∙ take_at front end n long
