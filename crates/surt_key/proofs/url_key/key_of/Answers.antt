-- The text is ASCII or it isn't, and it is a URL or it isn't.
use Rattle.std.proofs.Common.{◌≡◌, None, Some, Ok, Err, rules, ap, sym, ◌∙◌}
use Rattle.std.proofs.lemmas.Str.{IsUtf8-from_ascii}
use Rattle.url.specs.Parser.{parse_url}
use Rattle.surt_key.proofs.KeyLemmas.{key_of-not_ascii, key_of-http, key_of-other_scheme, key_of-refused}
use Rattle.surt_key.proofs.url_key.key_of.Goals as goal

pub returns-then-not-is_ascii-clause-not_http : goal.returns-then-not-is_ascii-clause-not_http
returns-then-not-is_ascii-clause-not_http c = λ _. key_of-not_ascii c.args.uri.now c.if-not-is_ascii.ensures.cases

pub returns-in_default-clause-not_http : goal.returns-in_default-clause-not_http
returns-in_default-clause-not_http c =
    λ _. absurd (c.in_default.ensures.cases.0 (IsUtf8-from_ascii _ c.if-not-is_ascii.ensures.cases))

pub returns-in_ok-key_of_url-in-Ok-parse-clause-key :
    goal.returns-in_ok-key_of_url-in-Ok-parse-clause-key
returns-in_ok-key_of_url-in-Ok-parse-clause-key c =
    let parsed : parse_url None c.args.uri.now ≡ Ok c.in-Ok-parse.url = search rules in
    key_of-http c.args.uri.now c.in-Ok-parse.url c.if-not-is_ascii.ensures.cases parsed (search rules) ∙ ap Some (sym c.in_ok-key_of_url-in-Ok-parse.ensures.value)

pub returns-in-Ok-2-clause-not_http : goal.returns-in-Ok-2-clause-not_http
returns-in-Ok-2-clause-not_http c =
    let parsed : parse_url None c.args.uri.now ≡ Ok c.in-Ok-parse.url = search rules in
    λ _. key_of-other_scheme c.args.uri.now c.in-Ok-parse.url c.if-not-is_ascii.ensures.cases parsed (sym c.is_http.ensures ∙ c.if-is_http.false)

pub returns-in-Err : goal.returns-in-Err
returns-in-Err c =
    let refused : parse_url None c.args.uri.now ≡ Err c.in-Err.field-0 = search rules in
    record { key = tt; not_http = λ _. key_of-refused c.args.uri.now c.in-Err.field-0 c.if-not-is_ascii.ensures.cases refused }
