-- A target's bytes are ASCII, so they are UTF-8.
use Rattle.std.proofs.Common.{rules}
use Rattle.std.proofs.lemmas.Str.{IsUtf8-from_ascii}
use Rattle.capture.proofs.TargetLemmas.{is_http_target-ascii}
use Rattle.capture.proofs.target.accepted_url.Goals as goal

pub returns-in_default : goal.returns-in_default
returns-in_default c =
    absurd (c.in_default.ensures.cases.0 (IsUtf8-from_ascii _ (is_http_target-ascii _ (search rules))))

pub returns-in-Ok-parse-clause-ascii : goal.returns-in-Ok-parse-clause-ascii
returns-in-Ok-parse-clause-ascii c = is_http_target-ascii _ (search rules)
