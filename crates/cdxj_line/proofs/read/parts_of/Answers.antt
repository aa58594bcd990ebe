use Rattle.std.proofs.Common.{◌∷◌, ◌++◌, [], false}
use Rattle.time_text.specs.Texts.{time_digits}
use Rattle.cdxj_line.specs.Lines.{object_text}
use Rattle.cdxj_line.specs.steps.Shown.{text_of}
use Rattle.cdxj_line.proofs.Whole.{cut_text, date_has_no_blank, key_has_no_blank, line_parts}
use Rattle.cdxj_line.proofs.read.parts_of.Goals as goal

pub returns-in_err-key-clause-found : goal.returns-in_err-key-clause-found
returns-in_err-key-clause-found c = λ line is text.
    let w = is.writable in
    let whole = line_parts line c.args.text.now text in
    absurd (c.in_err-key.ensures.found line.key (time_digits line.date ++ 32 ∷ (object_text false line ++ 10 ∷ [])) (key_has_no_blank line.url line.key w.key) whole)

pub returns-in_err-digits-clause-found : goal.returns-in_err-digits-clause-found
returns-in_err-digits-clause-found c = λ line is text.
    let w = is.writable in
    let whole = line_parts line c.args.text.now text in
    let key = c.in_ok-key.ensures.found line.key (time_digits line.date ++ 32 ∷ (object_text false line ++ 10 ∷ [])) (key_has_no_blank line.url line.key w.key) whole in
    absurd (c.in_err-digits.ensures.found (time_digits line.date) (object_text false line ++ 10 ∷ []) (date_has_no_blank line.date w.date) key.1)

pub returns-in_err-date-clause-found : goal.returns-in_err-date-clause-found
returns-in_err-date-clause-found c = λ line is text.
    let w = is.writable in
    let whole = line_parts line c.args.text.now text in
    let key = c.in_ok-key.ensures.found line.key (time_digits line.date ++ 32 ∷ (object_text false line ++ 10 ∷ [])) (key_has_no_blank line.url line.key w.key) whole in
    let digits = c.in_ok-digits.ensures.found (time_digits line.date) (object_text false line ++ 10 ∷ []) (date_has_no_blank line.date w.date) key.1 in
    let none = c.in_err-date.ensures.found line.date w.date digits.0 in
    absurd (cc)

pub returns-in_err-object-clause-found : goal.returns-in_err-object-clause-found
returns-in_err-object-clause-found c = λ line is text.
    let w = is.writable in
    let whole = line_parts line c.args.text.now text in
    let key = c.in_ok-key.ensures.found line.key (time_digits line.date ++ 32 ∷ (object_text false line ++ 10 ∷ [])) (key_has_no_blank line.url line.key w.key) whole in
    let digits = c.in_ok-digits.ensures.found (time_digits line.date) (object_text false line ++ 10 ∷ []) (date_has_no_blank line.date w.date) key.1 in
    absurd (c.in_err-object.ensures.found (object_text false line) digits.1)

pub returns-in_err-members-clause-found : goal.returns-in_err-members-clause-found
returns-in_err-members-clause-found c = λ line is text.
    let w = is.writable in
    let whole = line_parts line c.args.text.now text in
    let key = c.in_ok-key.ensures.found line.key (time_digits line.date ++ 32 ∷ (object_text false line ++ 10 ∷ [])) (key_has_no_blank line.url line.key w.key) whole in
    let digits = c.in_ok-digits.ensures.found (time_digits line.date) (object_text false line ++ 10 ∷ []) (date_has_no_blank line.date w.date) key.1 in
    let object = c.in_ok-object.ensures.found (object_text false line) digits.1 in
    absurd (c.in_err-members.ensures.found line object)

pub returns-clause-found : goal.returns-clause-found
returns-clause-found c = λ line is text.
    let w = is.writable in
    let whole = line_parts line c.args.text.now text in
    let key = c.in_ok-key.ensures.found line.key (time_digits line.date ++ 32 ∷ (object_text false line ++ 10 ∷ [])) (key_has_no_blank line.url line.key w.key) whole in
    let digits = c.in_ok-digits.ensures.found (time_digits line.date) (object_text false line ++ 10 ∷ []) (date_has_no_blank line.date w.date) key.1 in
    let object = c.in_ok-object.ensures.found (object_text false line) digits.1 in
    record { key = key.0; date = cc (c.in_ok-date.ensures.found line.date w.date digits.0); members = c.in_ok-members.ensures.found line object }

pub returns-clause-some : goal.returns-clause-some
returns-clause-some c =
    cut_text c.args.text.now c.in_ok-key.key.now c.in_ok-key.rest.now c.in_ok-digits.digits.now (time_digits c.in_ok-date.date) c.in_ok-digits.rest.now c.in_ok-object.object.now (text_of c.in_ok-members.members)
    c.in_ok-key.ensures.some c.in_ok-digits.ensures.some c.in_ok-date.ensures.some.1 c.in_ok-object.ensures.some c.in_ok-members.ensures.some
