-- What is read of a text that is written so is a UUID; a text that isn't read has none.
use Rattle.std.proofs.Common.{◌≡◌, refl, sym, ap, ◌∙◌, None}
use Rattle.std.proofs.lemmas.Slice.Eq.{bytes_eq-Decides}
use Rattle.uuid.specs.Text.{hyphenated_text, lower, parsed}
use Rattle.command.proofs.WordsLemmas.{None-unless, namespace_is_uuid}
use Rattle.command.proofs.words.namespace_of.Goals as goal

pub returns-in-Err-clause-value : goal.returns-in-Err-clause-value
returns-in-Err-clause-value c =
    let none : parsed c.args.text.now ≡ None = None-unless _ (λ found. let no : ⊥ = cc (c.in-Err.ensures.ok.1 found) in no) in
    rw none refl

pub returns-then-eq-clause-uuid : goal.returns-then-eq-clause-uuid
returns-then-eq-clause-uuid c =
    let id = c.in-Ok.namespace in
    let written : c.encode_lower.result.now ≡ hyphenated_text lower id = c.encode_lower.ensures.text ∙ ap (hyphenated_text lower) c.hyphenated.ensures in
    let same : c.encode_lower.result.now ≡ c.args.text.now = (bytes_eq-Decides c.encode_lower.result.now c.args.text.now).0 (sym c.if-eq.ensures) in
    namespace_is_uuid c.args.text.now id (sym written ∙ same) c.in-Ok.ensures.bytes
