use Rattle.std.proofs.Common.{◌≡◌, ◌++◌, codes, ap, sym, ◌∙◌}
use Rattle.cdxj_line.specs.Lines.{file_name, six_digits}
use Rattle.cdxj_line.proofs.Raw.{name_escape}
use Rattle.cdxj_line.proofs.file_name.volume_of.Goals as goal

pub returns-in_err-number-clause-found : goal.returns-in_err-number-clause-found
returns-in_err-number-clause-found c = λ volume fits e.
    let plain : c.args.name.now ≡ file_name volume = e ∙ name_escape volume fits in
    absurd (c.in_err-number.ensures.found (six_digits volume ++ codes ".warc") plain)

pub returns-in_err-digits-clause-found : goal.returns-in_err-digits-clause-found
returns-in_err-digits-clause-found c = λ volume fits e.
    let plain : c.args.name.now ≡ file_name volume = e ∙ name_escape volume fits in
    let number = c.in_ok-number.ensures.found (six_digits volume ++ codes ".warc") plain in
    absurd (c.in_err-digits.ensures.found (six_digits volume) number)

pub returns-in_err-volume-clause-found : goal.returns-in_err-volume-clause-found
returns-in_err-volume-clause-found c = λ volume fits e.
    let plain : c.args.name.now ≡ file_name volume = e ∙ name_escape volume fits in
    let number = c.in_ok-number.ensures.found (six_digits volume ++ codes ".warc") plain in
    let none = c.in_err-volume.ensures.found volume fits (c.in_ok-digits.ensures.found (six_digits volume) number) in
    absurd (cc)

pub returns-clause-found : goal.returns-clause-found
returns-clause-found c = λ volume fits e.
    let plain : c.args.name.now ≡ file_name volume = e ∙ name_escape volume fits in
    let number = c.in_ok-number.ensures.found (six_digits volume ++ codes ".warc") plain in
    cc (c.in_ok-volume.ensures.found volume fits (c.in_ok-digits.ensures.found (six_digits volume) number))

pub returns-clause-some : goal.returns-clause-some
returns-clause-some c =
    let told = c.in_ok-volume.ensures.some in
    c.in_ok-number.ensures.some ∙ ap (λ t. codes "vol-" ++ t) (c.in_ok-digits.ensures.some ∙ ap (λ t. t ++ codes ".warc") told.1) ∙ sym (name_escape c.in_ok-volume.volume told.0)
