use Rattle.std.proofs.Common.{◌∷◌, ◌++◌}
use Rattle.json.specs.Print.{escape}
use Rattle.cdxj_line.proofs.Strings.{string_cut}
use Rattle.cdxj_line.proofs.members.member.Goals as goal

pub returns-in_err-rest-clause-found : goal.returns-in_err-rest-clause-found
returns-in_err-rest-clause-found c = λ value rest is.
    let begun = c.in_ok-begun.ensures.found (escape value ++ 34 ∷ rest) is in
    let cut = string_cut c.in_ok-begun.begun.now value rest c.split_at.result.0.now c.split_at.result.1.now c.string_len.result begun c.string_len.ensures.value c.split_at.ensures.front c.split_at.ensures.back in
    absurd (c.in_err-rest.ensures.found rest cut.1)

pub returns-clause-found : goal.returns-clause-found
returns-clause-found c = λ value rest is.
    let begun = c.in_ok-begun.ensures.found (escape value ++ 34 ∷ rest) is in
    let cut = string_cut c.in_ok-begun.begun.now value rest c.split_at.result.0.now c.split_at.result.1.now c.string_len.result begun c.string_len.ensures.value c.split_at.ensures.front c.split_at.ensures.back in
    (cut.0, c.in_ok-rest.ensures.found rest cut.1)
