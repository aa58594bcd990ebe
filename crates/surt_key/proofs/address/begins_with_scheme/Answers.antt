-- A front that is too long is the whole text.
use Rattle.std.proofs.Common.{◌≡◌, ◌∙◌, length, take, ap}
use Rattle.std.proofs.lemmas.List.{take_min}
use Rattle.std.specs.Str.{str_eq_ignore_ascii_case}
use Rattle.surt_key.proofs.address.begins_with_scheme.Goals as goal

pub returns : goal.returns
returns c =
    let front : c.split_at.result.0.now ≡ take (length c.args.scheme.now) c.args.text.now = c.split_at.ensures.front ∙ ap (λ n. take n c.args.text.now) c.min.ensures ∙ take_min (length c.args.scheme.now) c.args.text.now in
    c.is_same_text.ensures ∙ ap (λ x. str_eq_ignore_ascii_case x c.args.scheme.now) front
