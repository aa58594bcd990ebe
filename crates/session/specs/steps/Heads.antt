-- What single fields of a request's head ask for.
use Rattle.std.specs.Prelude.{Bool, ◌&&◌, map, codes}
use Rattle.std.specs.List.{list_any}
use Rattle.std.specs.Str.{bytes_eq}
use Rattle.capture.specs.Fields.{NamedValue, is_named, lowered}
use Rattle.exchange.specs.Texts.{connection}
use Rattle.http_head.specs.Heads.{named_value}
use Rattle.http_head.specs.declared.head.RequestHead.{RequestHead}
use Rattle.message_body.specs.Framings.{members, told_by_request}
use Rattle.request_answer.specs.Requests.{is_persistent, tells_body}

-- the client waits for an answer before it sends the body
abbrev pub is_expectation : NamedValue → Bool
is_expectation field = is_named (codes "expect") field && bytes_eq (lowered field.1) (codes "100-continue")

-- a head asks to be told that its body is awaited
abbrev pub waits_for_answer : RequestHead → Bool
waits_for_answer head =
    tells_body (told_by_request head) && is_persistent head.version && list_any is_expectation (map named_value head.fields)

-- the field is a Connection that lists `close`
abbrev pub lists_close : NamedValue → Bool
lists_close field = is_named connection field && list_any (λ member. bytes_eq (lowered member) (codes "close")) (members field.1)
