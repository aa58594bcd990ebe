use Rattle.cdxj_line.proofs.Cuts.{cut_before_blank}
use Rattle.cdxj_line.proofs.cut.cut_at_blank.Goals as goal

pub returns-in_err-rest-clause-found : goal.returns-in_err-rest-clause-found
returns-in_err-rest-clause-found c = λ front rest other is.
    let cut = cut_before_blank c.args.text.now front rest c.split_at.result.0.now c.split_at.result.1.now c.front_len.result other is c.front_len.ensures.value c.split_at.ensures.front c.split_at.ensures.back in
    absurd (c.in_err-rest.ensures.found rest cut.1)

pub returns-clause-found : goal.returns-clause-found
returns-clause-found c = λ front rest other is.
    let cut = cut_before_blank c.args.text.now front rest c.split_at.result.0.now c.split_at.result.1.now c.front_len.result other is c.front_len.ensures.value c.split_at.ensures.front c.split_at.ensures.back in
    (cut.0, c.in_ok-rest.ensures.found rest cut.1)
