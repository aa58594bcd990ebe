use Rattle.std.proofs.Common.{refl, sym, ◌∙◌, ap}
use Rattle.json.specs.Print.{escape}
use Rattle.cdxj_line.proofs.Raw.{digest_escape, digest_text_escape}
use Rattle.cdxj_line.proofs.number.digest_of.Goals as goal

pub returns-in_err-digest-clause-found : goal.returns-in_err-digest-clause-found
returns-in_err-digest-clause-found c = λ digest is e.
    let none = c.in_err-digest.ensures.reads_back digest is (e ∙ digest_escape digest is) in
    absurd (cc)

pub returns-clause-found : goal.returns-clause-found
returns-clause-found c = λ digest is e.
    cc (c.in_ok-digest.ensures.reads_back digest is (e ∙ digest_escape digest is))

pub returns-clause-some : goal.returns-clause-some
returns-clause-some c =
    let plain = digest_text_escape c.args.text.now (c.in_ok-digest.ensures.some.0 refl) in
    sym plain ∙ ap escape c.in_ok-digest.ensures.read
